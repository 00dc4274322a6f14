-- `Unit::with_sent`: field by field.
use Rattle.unit.proofs.unit.Unit.with_sent.Goals as goal

pub returns : goal.returns
returns c = let u = c.args.self in
    λ i. record { state = u.state; id = u.id; offer = u.offer; expected = u.expected; flight = u.flight; sent = c.with_record-u.ensures i; protection = c.args.protection }
