-- `gather_message`: what is lent, then the step, then what is said of it.
-- src/lib.rt:87:8
use mathlib.Core.Path.{sym, ◌∙◌}
use Rattle.lentshort.proofs.Calling.{gather_sizes, gather_on, gather_unlent}
use Rattle.lentshort.proofs.gather_message.Goals as goal

-- the clauses of the contract, each under its name
named : {A B : Type 0} → A × B → record { exact : A; loads : B }
named x = record { exact = x.0; loads = x.1 }

-- src/lib.rt:88:13
pub stepped-answer-requires : goal.stepped-answer-requires
stepped-answer-requires c = (gather_sizes _ _ (sym c.lent_to_gather.ensures ∙ c.if-lent_to_gather.true)).0

-- src/lib.rt:89:9
pub put_said-requires : goal.put_said-requires
put_said-requires c = (gather_sizes _ _ (sym c.lent_to_gather.ensures ∙ c.if-lent_to_gather.true)).1

-- src/lib.rt:90:9
pub returns-then-lent_to_gather : goal.returns-then-lent_to_gather
returns-then-lent_to_gather c = named (gather_on _ _ _ _ _ _ _ _ _ _ _ c.lent_to_gather.ensures c.if-lent_to_gather.true c.stepped-answer.ensures.value c.stepped-answer.ensures.assembly_after c.stepped-answer.ensures.d_after c.stepped-answer.ensures.d_after_2 c.put_said.ensures c.unshown.ensures c.result_of.ensures.exact)

-- src/lib.rt:81:1
pub returns : goal.returns
returns c = named (gather_unlent _ _ _ _ _ _ c.lent_to_gather.ensures c.if-lent_to_gather.false c.result_of-2.ensures.exact)
