-- `mac::same_code`: no bit differs so far if and only if the bytes so far are equal.
use Rattle.std.proofs.Common.{length, sym, ap, ◌∙◌, inl, inr}
use Rattle.digest.proofs.Same.{joined_none, joined_more, joined_all, differ_same}
use Rattle.digest.proofs.mac.same_code.Goals as goal

pub returns-then-a-b : goal.returns-then-a-b
returns-then-a-b c = record { exact = sym (differ_same _ _ (λ e. c.if-a-b.true (ap length e))) }

pub loop-x-init : goal.loop-x-init
loop-x-init c = joined_none _ _ _ _ c.if-a-b.false
    (ap (λ z. z.a.rest.now) c.into_iter-x-iterator.ensures.into_iter_gives ∙ ap (λ i. i.rest.now) c.zip-x-items.ensures.first ∙ c.iter.ensures.rest)
    (ap (λ z. z.b.rest.now) c.into_iter-x-iterator.ensures.into_iter_gives ∙ c.zip-x-items.ensures.second.0)

pub loop-x-preserved : goal.loop-x-preserved
loop-x-preserved c = let both = c.in-Some.ensures.steps in joined_more _ _ _ _ _ _ _ _ _ c.loop-x.invariant both.0 both.1

pub returns : goal.returns
returns c = record {
  exact = joined_all _ _ _ _ _ c.if-a-b.false c.loop-x.invariant
      (elim c.in-None.ensures.steps [ inl w ↦ inl w.1.0 | inr w ↦ inr w.1.0 ]);
}
