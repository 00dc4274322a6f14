-- `Unit::greeted`: field by field.
use Rattle.unit.specs.declared.state.State.TheVariants.{Sent}
use Rattle.unit.proofs.unit.Unit.greeted.Goals as goal

pub returns : goal.returns
returns c = let a = c.args in
    let u = a.self in
    λ i. record {
      state = Sent;
      id = u.id;
      offer = a.offer;
      expected = u.expected;
      flight = u.flight;
      sent = c.with_record.ensures i;
      protection = record {
        keys = record { secret = u.protection.keys.secret; server = u.protection.keys.server; client = a.random; mac = u.protection.keys.mac; refresh = u.protection.keys.refresh };
        window = u.protection.window;
        protected = 0;
        clear = 2;
      };
    }
