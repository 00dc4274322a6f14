-- `Unit::with_window`: field by field.
use Rattle.unit.proofs.unit.Unit.with_window.Goals as goal

pub returns : goal.returns
returns c = let u = c.args.self in
    λ i. record { state = u.state; id = u.id; offer = u.offer; expected = u.expected; flight = u.flight; sent = u.sent; protection = c.with_window-u.ensures i }
