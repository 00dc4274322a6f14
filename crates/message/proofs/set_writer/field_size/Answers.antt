-- `message::set_writer::field_size` meets its contract: each arm is the size of what is written of that field. Assumes nothing.
use mathlib.Core.Path.{◌∙◌}
use Rattle.message.proofs.SetsPut.{by_ranged, behind_as, size_as, size_prime, size_onb, size_trinomial, size_pentanomial, size_polynomial}
use Rattle.message.proofs.set_writer.field_size.Goals as goal

pub returns-in-Prime : goal.returns-in-Prime
returns-in-Prime c = size_as _ _ _ _ c.in-Prime.is
    (c.behind.ensures ∙ behind_as _ _ _ c.part.ensures ∙ size_prime _)

pub returns-in-Onb : goal.returns-in-Onb
returns-in-Onb c = size_as _ _ _ _ c.in-Onb.is
    (c.ranged.ensures ∙ size_onb _)

pub returns-in-Trinomial : goal.returns-in-Trinomial
returns-in-Trinomial c = let m = c.in-Trinomial.m in
    let k = c.in-Trinomial.k in
    size_as _ _ _ _ c.in-Trinomial.is (by_ranged m _ _ _ c.ranged-in-Trinomial-2.ensures c.ranged-in-Trinomial.ensures ∙ size_trinomial m k)

pub returns-in-Pentanomial : goal.returns-in-Pentanomial
returns-in-Pentanomial c = let m = c.in-Pentanomial.m in
    let k1 = c.in-Pentanomial.k1 in
    let k2 = c.in-Pentanomial.k2 in
    let k3 = c.in-Pentanomial.k3 in
    size_as _ _ _ _ c.in-Pentanomial.is
    (by_ranged m _ _ _ c.ranged-in-Pentanomial-4.ensures
    (by_ranged k1 _ _ _ c.ranged-in-Pentanomial-3.ensures
    (by_ranged k2 _ _ _ c.ranged-in-Pentanomial-2.ensures c.ranged-in-Pentanomial.ensures))
    ∙ size_pentanomial m k1 k2 k3)

pub returns-in-Polynomial : goal.returns-in-Polynomial
returns-in-Polynomial c = let m = c.in-Polynomial.m in
    size_as _ _ _ _ c.in-Polynomial.is
    (by_ranged m _ _ _ c.ranged-in-Polynomial.ensures (c.behind-in-Polynomial.ensures ∙ behind_as _ _ _ c.part-in-Polynomial.ensures)
    ∙ size_polynomial m _)
