-- `taken::take`: receive on the datagram that is shown, or the message's own refusal.
-- src/taken.rt:32:8
use mathlib.Core.Path.{sym, ◌∙◌}
use Rattle.lentshort.proofs.Calling.{heard_shown, heard_none}
use Rattle.lentshort.proofs.taken.take.Goals as goal

-- the clauses of the contract, each under its name
named : {A B : Type 0} → A × B → record { answers_after : A; state_after : B }
named x = record { answers_after = x.0; state_after = x.1 }

-- src/taken.rt:33:9
pub returns-then-shows : goal.returns-then-shows
returns-then-shows c = named (let a = c.args in
    let shown = sym c.shows.ensures.exact ∙ c.if-shows.true in
    heard_shown a.answer _ _ _ _ _ _ _ _ _ _ _ _ shown c.datagram.ensures.exact c.receive.ensures.exact c.receive.ensures.connection c.receive.ensures.counted c.receive.ensures.bytes c.receive.ensures.answered c.receive.ensures.loads)

-- src/taken.rt:15:1
pub returns : goal.returns
returns c = named (let a = c.args in
    let none = sym c.shows.ensures.exact ∙ c.if-shows.false in
    heard_none a.answer _ _ _ _ _ _ _ _ none c.unshown.ensures c.result_of.ensures.exact)
