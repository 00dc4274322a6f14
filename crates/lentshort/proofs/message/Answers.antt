-- `message`: what is lent, the step, and what the datagram that is shown gets.
-- src/lib.rt:120:9
use mathlib.Core.Path.{sym, ◌∙◌}
use Rattle.lentshort.proofs.Calling.{lent_sizes, message_random, message_room, message_on, message_unlent}
use Rattle.lentshort.proofs.message.Goals as goal

-- the clauses of the contract, each under its name
named : {A B C : Type 0} → A × (B × C) → record { exact : A; loads : B; gathers : C }
named x = record { exact = x.0; loads = x.1.0; gathers = x.1.1 }

-- src/lib.rt:120:9
pub returns-then-random-ne16 : goal.returns-then-random-ne16
returns-then-random-ne16 c = named (message_random _ _ _ _ _ _ _ _ _ _ c.if-random-ne16.true c.result_of.ensures.exact)

-- src/lib.rt:124:13
pub returns-then-out-lt128 : goal.returns-then-out-lt128
returns-then-out-lt128 c = named (message_room _ _ _ _ _ _ _ _ _ _ _ c.lent_to.ensures c.if-lent_to.true c.if-random-ne16.false c.if-out-lt128.true c.result_of-then-out-lt128.ensures.exact)

-- src/lib.rt:126:13
pub stepped-answer-requires : goal.stepped-answer-requires
stepped-answer-requires c = (lent_sizes _ _ _ _ _ (sym c.lent_to.ensures ∙ c.if-lent_to.true)).0

-- src/lib.rt:127:9
pub put_said-requires : goal.put_said-requires
put_said-requires c = (lent_sizes _ _ _ _ _ (sym c.lent_to.ensures ∙ c.if-lent_to.true)).1

-- src/lib.rt:128:9
pub returns-then-lent_to : goal.returns-then-lent_to
returns-then-lent_to c = named (message_on _ _ _ _ _ _ _ _ _ _ _ _ _ _ _ _ _ _ _ c.lent_to.ensures c.if-lent_to.true c.if-random-ne16.false c.if-out-lt128.false c.stepped-answer.ensures.value c.stepped-answer.ensures.assembly_after c.stepped-answer.ensures.d_after c.stepped-answer.ensures.d_after_2 c.put_said.ensures c.take.ensures.answers_after c.take.ensures.state_after)

-- src/lib.rt:97:1
pub returns : goal.returns
returns c = named (message_unlent _ _ _ _ _ _ _ _ _ _ _ c.lent_to.ensures c.if-lent_to.false c.result_of-2.ensures.exact)
