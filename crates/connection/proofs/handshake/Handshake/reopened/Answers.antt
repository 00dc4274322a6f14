-- `Handshake::reopened`: field by field.
use mathlib.Core.Path.{◌∙◌, ap}
use Rattle.record.specs.Protection as P
use Rattle.connection.specs.declared.state.State.TheVariants.{Idle}
use Rattle.connection.proofs.handshake.Handshake.reopened.Goals as goal

pub returns : goal.returns
returns c = let h = c.args.self in
    let left = c.with_window.ensures ∙ ap (P.with_window h.protection) c.emptied.ensures in
    λ i. record { state = Idle; id = h.id; expected = h.expected; kept = c.nothing_kept.ensures i; protection = left i }
