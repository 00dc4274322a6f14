-- `write_file`: the tests of the definition, in its order; then the reports, and the trailer behind them.
use mathlib.Core.Path.{◌≡◌, sym, ◌∙◌, ap}
use Prim.Native.Nat.{◌+◌, ◌<◌, ◌≤◌}
use native.Mathlib.Omega.{arith}
use lib.ListN.{length}
use Rattle.std.specs.Prelude.{Some, None, Ok, Err}
use Rattle.digest.proofs.Lay.{length_laid}
use Rattle.dayfile.specs.File.{body_of, file_of}
use Rattle.dayfile.specs.Lent.{list_of}
use Rattle.dayfile.specs.Writing.{write_lent, refused}
use Rattle.dayfile.specs.declared.refusal.Refusal.TheVariants.{Argument, Limit}
use Rattle.dayfile.proofs.Trailing.{Sized, sized, without_size, laid_stands, laid_file}
use Rattle.dayfile.proofs.Lending.{outcome, not_paired, not_sized, lent_over, no_room_lent, lent_written, lent_counted, sound_listed}
use Rattle.dayfile.proofs.write.write_file.Goals as goal
use Rattle.dayfile.proofs.write.write_file.Goals.{then-numbers-count-via-then-numbers-count, then-numbers-count-via-else-numbers-count+then-not-are_sized}

pub returns-then-numbers-count : goal.returns-then-numbers-count
returns-then-numbers-count c =
    let a = c.args in
    let no_list : write_lent a.numbers.now a.sizes.now a.bytes.now (length a.out.now) ≡ refused Argument
    = elim c.then-numbers-count.branch [
      | then-numbers-count-via-then-numbers-count w ↦ not_paired _ _ _ _ w.if-numbers-count.true
      | then-numbers-count-via-else-numbers-count+then-not-are_sized w ↦
          not_sized _ _ _ _ w.if-numbers-count.false (sym w.are_sized.ensures ∙ w.if-not-are_sized.true)
    ] in
    let o = outcome a.out.now _ _ no_list in record { exact = o.told; bytes = o.held }

pub returns-in_err-size : goal.returns-in_err-size
returns-in_err-size c =
    let a = c.args in
    let ok = sym c.are_sized.ensures ∙ c.if-not-are_sized.false in
    let counts = lent_counted a.numbers.now a.sizes.now a.bytes.now c.if-numbers-count.false ok in
    let none : c.file_size.result ≡ None = grind arith in
    let limit : c.from_residual.result ≡ Err Limit = grind arith in
    let over = without_size _ (sym (c.file_size.ensures _ counts) ∙ none) in
    let o = outcome a.out.now _ _ (lent_over a.numbers.now a.sizes.now a.bytes.now (length a.out.now) c.if-numbers-count.false ok over) in
    record { exact = limit ∙ o.told; bytes = o.held }

pub returns-then-out-size : goal.returns-then-out-size
returns-then-out-size c =
    let a = c.args in
    let l = list_of a.numbers.now a.sizes.now a.bytes.now in
    let ok = sym c.are_sized.ensures ∙ c.if-not-are_sized.false in
    let counts = lent_counted a.numbers.now a.sizes.now a.bytes.now c.if-numbers-count.false ok in
    let some : c.file_size.result ≡ Some c.in_ok-size.size = grind arith in
    let z : Sized _ l c.in_ok-size.size = sized _ l counts _ (sym (c.file_size.ensures l counts) ∙ some) in
    let narrow : length a.out.now < length (file_of l) = omega (arith, z.exact, c.if-out-size.true) in
    let o = outcome a.out.now _ _ (no_room_lent a.numbers.now a.sizes.now a.bytes.now (length a.out.now) c.if-numbers-count.false ok z.within narrow) in
    record { exact = o.told; bytes = o.held }

pub put_reports-requires : goal.put_reports-requires
put_reports-requires c =
    let a = c.args in
    let l = list_of a.numbers.now a.sizes.now a.bytes.now in
    let ok = sym c.are_sized.ensures ∙ c.if-not-are_sized.false in
    let counts = lent_counted a.numbers.now a.sizes.now a.bytes.now c.if-numbers-count.false ok in
    let some : c.file_size.result ≡ Some c.in_ok-size.size = grind arith in
    let z : Sized _ l c.in_ok-size.size = sized _ l counts _ (sym (c.file_size.ensures l counts) ∙ some) in
    record { numbers_len = (c.if-numbers-count.false, ok); sizes_in_bounds = omega (arith, z.sum, c.if-out-size.false) }

pub put_trailer-requires : goal.put_trailer-requires
put_trailer-requires c =
    let a = c.args in
    let l = list_of a.numbers.now a.sizes.now a.bytes.now in
    let ok = sym c.are_sized.ensures ∙ c.if-not-are_sized.false in
    let counts = lent_counted a.numbers.now a.sizes.now a.bytes.now c.if-numbers-count.false ok in
    let some : c.file_size.result ≡ Some c.in_ok-size.size = grind arith in
    let z : Sized _ l c.in_ok-size.size = sized _ l counts _ (sym (c.file_size.ensures l counts) ∙ some) in
    let sound = sound_listed a.numbers.now a.sizes.now a.bytes.now c.if-numbers-count.false ok (λ k. omega (arith, c.type_inv.numbers k)) in
    let room : 0 + length (body_of l) ≤ length a.out.now = omega (arith, ap (λ r. r.end) counts, z.sum, c.if-out-size.false) in
    record {
      run_stands = laid_stands a.out.now _ l _ sound c.put_reports.ensures counts;
      count_in_bounds = omega (arith, z.sum, c.if-out-size.false, ap length c.put_reports.ensures ∙ length_laid a.out.now 0 (body_of l) room);
      end_bound = z.small;
    }

pub returns : goal.returns
returns c =
    let a = c.args in
    let l = list_of a.numbers.now a.sizes.now a.bytes.now in
    let ok = sym c.are_sized.ensures ∙ c.if-not-are_sized.false in
    let counts = lent_counted a.numbers.now a.sizes.now a.bytes.now c.if-numbers-count.false ok in
    let some : c.file_size.result ≡ Some c.in_ok-size.size = grind arith in
    let z : Sized _ l c.in_ok-size.size = sized _ l counts _ (sym (c.file_size.ensures l counts) ∙ some) in
    let sound = sound_listed a.numbers.now a.sizes.now a.bytes.now c.if-numbers-count.false ok (λ k. omega (arith, c.type_inv.numbers k)) in
    let fits : length (file_of l) ≤ length a.out.now = omega (arith, z.exact, c.if-out-size.false) in
    let o = outcome a.out.now _ _ (lent_written a.numbers.now a.sizes.now a.bytes.now (length a.out.now) c.if-numbers-count.false ok z.within fits) in
    record {
      exact = ap Ok z.exact ∙ o.told;
      bytes = c.put_trailer.ensures
          ∙ laid_file a.out.now _ l _ sound c.put_reports.ensures counts (omega (arith, z.sum, z.exact, fits)) ∙ o.held;
    }
