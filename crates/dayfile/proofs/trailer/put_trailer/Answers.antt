-- `put_trailer`: the part behind the run, with the trailer at its front.
use mathlib.Core.Path.{◌≡◌, sym, ◌∙◌, ap}
use mathlib.Core.List.{◌++◌}
use lib.ListN.{take, drop}
use lib.Seq.{take_at, drop_at}
use Rattle.digest.specs.Bytes.{laid_over}
use Rattle.dayfile.specs.File.{trailer_of}
use Rattle.dayfile.specs.Runs.{run_of}
use Rattle.dayfile.proofs.Trailing.{laid_in_part}
use Rattle.dayfile.proofs.trailer.put_trailer.Goals as goal

pub returns : goal.returns
returns c =
    let d = c.args.out.now in
    let end = c.args.run.end in
    let both = c.split_at_mut-body.ensures in
    let a = c.split_at_mut-body.result.0.now in
    let b = c.split_at_mut-body.result.1.now in
    let front : a ≡ take end d = sym (ap (take end) both.value ∙ take_at a b end both.front_len) in
    let back : b ≡ drop end d = sym (ap (drop end) both.value ∙ drop_at a b end both.front_len) in
    (λ i. front i ++ (c.put_at_front.ensures ∙ (λ j. laid_over (back j) 0 (trailer_of (run_of (front j))))) i)
    ∙ laid_in_part d end (trailer_of (run_of (take end d)))
