-- `trailer_stands`: the run stands at the front of its file too, so what stands behind it is compared.
use mathlib.Core.Path.{◌≡◌, sym, ◌∙◌, ap}
use mathlib.Core.List.{◌∷◌, ◌++◌}
use native.Mathlib.Omega.{arith}
use lib.ListN.{length, get_or, drop, length-drop}
use Rattle.std.proofs.lemmas.List.{take_rest}
use Rattle.digest.specs.Mac.{same_bytes}
use Rattle.digest.specs.Bytes.{bytes2}
use Rattle.dayfile.specs.File.{distances_of}
use Rattle.dayfile.specs.Runs.{run_of}
use Rattle.dayfile.proofs.Trailing.{again, other_length, other_opening, opening_there, opened_first, count_in_lem}
use Rattle.dayfile.proofs.trailer.trailer_stands.Goals as goal

pub returns-in_default : goal.returns-in_default
returns-in_default c = other_opening _ _ c.requires.run_stands (λ rest e. omega (arith, ap length (c.split_at.ensures.back ∙ e), c.in_default.len_below))

pub returns-in_default-2 : goal.returns-in_default-2
returns-in_default-2 c =
    other_opening _ _ c.requires.run_stands
    (λ rest e. let first : get_or c.split_at.result.1.now 0 0 ≡ 210 = ap (λ l. get_or l 0 0) (c.split_at.ensures.back ∙ e) in omega arith)

pub overflow_mul-run : goal.overflow_mul-run
overflow_mul-run c = omega (arith, count_in_lem _ _ c.requires.run_stands, c.requires.run_stands.inside, c.requires.file_len_bound)

pub overflow_add-run : goal.overflow_add-run
overflow_add-run c = omega (arith, count_in_lem _ _ c.requires.run_stands, c.requires.run_stands.inside, c.requires.file_len_bound)

pub returns-then-numbers-run : goal.returns-then-numbers-run
returns-then-numbers-run c =
    let trailer = c.split_at.result.1.now in
    other_length _ _ c.requires.run_stands
    (λ e.
    c.if-numbers-run.true
    (omega (arith, e, ap length c.split_at.ensures.back, length-drop c.args.run.end c.args.file.now, ap length (take_rest trailer 1), length-drop 1 trailer, c.in-210.len_at_least)))

pub numbers_stand-requires-clause-reports : goal.numbers_stand-requires-clause-reports
numbers_stand-requires-clause-reports c =
    rw c.split_at.ensures.front
    (ap Rattle.dayfile.specs.File.body_of (again _ _ c.requires.run_stands (λ k. omega (arith, c.type_inv.file k))) ∙ c.requires.run_stands.stands)

pub numbers_stand-requires-clause-count_bound : goal.numbers_stand-requires-clause-count_bound
numbers_stand-requires-clause-count_bound c =
    omega (arith, count_in_lem _ _ c.requires.run_stands, c.split_at.ensures.back_len, c.in-210.len_at_least, c.requires.file_len_bound)

pub returns : goal.returns
returns c =
    let file = c.args.file.now in
    let trailer = c.split_at.result.1.now in
    let opens : get_or trailer 0 0 ≡ 210 = omega arith in
    let cut : drop c.args.run.end file ≡ 210 ∷ drop 1 trailer = sym c.split_at.ensures.back ∙ opened_first trailer c.in-210.len_at_least opens in
    c.numbers_stand.ensures
    ∙ (λ i. same_bytes (take_rest trailer 1 i) (distances_of (run_of (c.split_at.ensures.front i)) ++ bytes2 c.args.run.count))
    ∙ opening_there _ _ c.requires.run_stands (λ k. omega (arith, c.type_inv.file k)) (drop 1 trailer) cut
