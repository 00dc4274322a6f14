-- `mend_file`: the tests of the definition, in its order; then the run, and the trailer behind it.
use mathlib.Core.Path.{◌≡◌, sym, ◌∙◌, ap}
use mathlib.Core.Bool.{false, not}
use Prim.Native.Nat.{◌+◌, ◌-◌, ◌*◌, ◌<◌, ◌≤◌}
use native.Mathlib.Omega.{arith}
use lib.ListN.{length}
use Rattle.std.specs.Prelude.{Some, None, Ok, Err}
use Rattle.digest.specs.Bytes.{laid_over}
use Rattle.digest.proofs.Lay.{length_laid}
use Rattle.dayfile.specs.File.{body_of, file_of, is_within}
use Rattle.dayfile.specs.Runs.{run_of, RunStands}
use Rattle.dayfile.specs.Mending.{said_of}
use Rattle.dayfile.specs.declared.refusal.Refusal.TheVariants.{Limit}
use Rattle.dayfile.proofs.Running.{ran_stands, run_sound}
use Rattle.dayfile.proofs.Trailing.{Sized, sized, without_size, run_length, laid_run, laid_stands, laid_file}
use Rattle.dayfile.proofs.Mendings.{given, mend_long, mend_over, mend_narrow, mend_done}
use Rattle.dayfile.proofs.mend.mend_file.Goals as goal

pub returns-then-file-gt-MOST_BYTES : goal.returns-then-file-gt-MOST_BYTES
returns-then-file-gt-MOST_BYTES c =
    let o = given c.args.out.now _ _ (mend_long _ (length c.args.out.now) c.if-file-gt-MOST_BYTES.true) in record { exact = o.told; bytes = o.held }

pub returns-in_err-size : goal.returns-in_err-size
returns-in_err-size c =
    let l = run_of c.args.file.now in
    let none : c.file_size.result ≡ None = grind arith in
    let limit : c.from_residual.result ≡ Err Limit = grind arith in
    let over : is_within l ≡ false = without_size l (sym (c.file_size.ensures l c.run_in-run.ensures.exact) ∙ none) in
    let o = given c.args.out.now _ _ (mend_over _ (length c.args.out.now) c.if-file-gt-MOST_BYTES.false over) in record { exact = limit ∙ o.told; bytes = o.held }

pub returns-then-out-size : goal.returns-then-out-size
returns-then-out-size c =
    let l = run_of c.args.file.now in
    let some : c.file_size.result ≡ Some c.in_ok-size.size = grind arith in
    let z : Sized c.run_in-run.result l c.in_ok-size.size
    = sized _ l c.run_in-run.ensures.exact _ (sym (c.file_size.ensures l c.run_in-run.ensures.exact) ∙ some) in
    let narrow : length c.args.out.now < length (file_of l) = omega (arith, z.exact, c.if-out-size.true) in
    let o = given c.args.out.now _ _ (mend_narrow _ _ c.if-file-gt-MOST_BYTES.false z.within narrow) in record { exact = o.told; bytes = o.held }

pub trailer_stands-sound-requires : goal.trailer_stands-sound-requires
trailer_stands-sound-requires c = record { run_stands = ran_stands _ _ c.run_in-run.ensures.exact c.run_in-run.ensures.stands; file_len_bound = c.if-file-gt-MOST_BYTES.false }

pub put_trailer-requires : goal.put_trailer-requires
put_trailer-requires c =
    let out = c.args.out.now in
    let file = c.args.file.now in
    let l = run_of file in
    let run = c.run_in-run.result in
    let counts = c.run_in-run.ensures.exact in
    let w : RunStands file run = ran_stands _ _ counts c.run_in-run.ensures.stands in
    let some : c.file_size.result ≡ Some c.in_ok-size.size = grind arith in
    let z : Sized run l c.in_ok-size.size = sized run l counts _ (sym (c.file_size.ensures l counts) ∙ some) in
    let room : run.end + (3 + 2 * run.count) ≤ length out = omega (arith, z.sum, c.if-out-size.false) in
    let put : c.put.new.d ≡ laid_over out 0 (body_of l) = laid_run out file run w c.put.new.d (omega arith) c.put.ensures.exact in
    record {
      run_stands = laid_stands out c.put.new.d l run (run_sound file (λ k. omega (arith, c.type_inv.file k))) put counts;
      count_in_bounds = omega (arith, ap length put ∙ length_laid out 0 (body_of l) (omega (arith, run_length _ _ w)));
      end_bound = z.small;
    }

pub returns : goal.returns
unfolding said_of
returns c =
    let out = c.args.out.now in
    let file = c.args.file.now in
    let l = run_of file in
    let run = c.run_in-run.result in
    let counts = c.run_in-run.ensures.exact in
    let w : RunStands file run = ran_stands _ _ counts c.run_in-run.ensures.stands in
    let some : c.file_size.result ≡ Some c.in_ok-size.size = grind arith in
    let z : Sized run l c.in_ok-size.size = sized run l counts _ (sym (c.file_size.ensures l counts) ∙ some) in
    let room : run.end ≤ length out = omega (arith, z.sum, c.if-out-size.false) in
    let put : c.put.new.d ≡ laid_over out 0 (body_of l) = laid_run out file run w c.put.new.d room c.put.ensures.exact in
    let fits : length (file_of l) ≤ length out = omega (arith, z.exact, c.if-out-size.false) in
    let o = given out _ _ (mend_done file (length out) c.if-file-gt-MOST_BYTES.false z.within fits) in
    record {
      exact =
          (λ i. Ok (record { kept = (counts i).count; after = length file - (counts i).end; changed = not (c.trailer_stands-sound.ensures i) })) ∙ o.told;
      bytes =
          c.put_trailer.ensures
          ∙ laid_file out c.put.new.d l run (run_sound file (λ k. omega (arith, c.type_inv.file k))) put counts room ∙ o.held;
    }
