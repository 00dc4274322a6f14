-- `front`: the tests of the definition, in its order; what was found stands there.
use mathlib.Core.Path.{◌≡◌, sym, ◌∙◌, ap}
use lib.ListN.{length, get_or}
use Rattle.std.proofs.lemmas.List.{take_rest}
use lib.ListN.{length-drop}
use native.Mathlib.Omega.{arith}
use Rattle.dayfile.specs.Runs.{whole_if}
use Rattle.dayfile.proofs.Fronts.{short_nothing, other_nothing, front_stands, front_opened}
use Rattle.dayfile.proofs.report.front.Goals as goal

pub returns-in_default-clause-exact : goal.returns-in_default-clause-exact
returns-in_default-clause-exact c = sym (short_nothing _ c.in_default.len_below)

pub returns-in_default-2-clause-exact : goal.returns-in_default-2-clause-exact
returns-in_default-2-clause-exact c = sym (other_nothing c.args.part.now (λ e. omega arith))

pub returns : goal.returns
returns c =
    let s = c.args.part.now in
    let opens : get_or s 0 0 ≡ 209 = omega arith in
    let same =
    c.whole_if.ensures
    ∙ ap (λ l. whole_if c.from_be_bytes-number.result c.from.result (length l)) (take_rest s 5)
    ∙ ap (whole_if c.from_be_bytes-number.result c.from.result) (length-drop 5 s)
    ∙ front_opened s c.from_be_bytes-number.result c.from.result c.in-209.len_at_least opens c.from_be_bytes-number.ensures (c.from.ensures ∙ c.from_be_bytes-size.ensures) in
    record { exact = same; stands = λ f e. front_stands s (λ k. omega (arith, c.type_inv.part k)) f (sym same ∙ e) }
