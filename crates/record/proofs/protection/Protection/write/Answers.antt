-- `write`: the number is spent, or the record under the key of its number is written where there is room.
use mathlib.Core.Path.{sym, ap, ◌∙◌}
use native.Mathlib.Omega.{arith}
use Rattle.record.specs.Protection.{writing}
use Rattle.record.proofs.Protecting.{spent_as, no_room_as, wrote_as, written_as}
use Rattle.record.proofs.protection.Protection.write.Goals as goal
use Rattle.std.specs.Prelude.{Ok}

pub returns-then-self-gt-LAST : goal.returns-then-self-gt-LAST
returns-then-self-gt-LAST c = let a = c.args in
    let both = spent_as a.self a.sense a.content a.body.now a.out.now (omega arith) in
    record { exact = both.0; bytes = both.1 }

pub returns-in-None : goal.returns-in-None
returns-in-None c = let a = c.args in
    let e = c.write_coded.ensures in record {
      exact = no_room_as a.self a.sense a.content a.body.now a.out.now _ (omega arith) c.key-key.ensures (sym c.in-None.is ∙ e.size);
      bytes = written_as a.self a.sense a.content a.body.now a.out.now _ (omega arith) c.key-key.ensures _ e.bytes;
    }

pub returns-in-Some : goal.returns-in-Some
returns-in-Some c = let a = c.args in
    let e = c.write_coded.ensures in record {
      exact =
          ap (writing (Ok c.in-Some.size)) c.counted_on.ensures
          ∙ wrote_as a.self a.sense a.content a.body.now a.out.now _ (omega arith) c.key-key.ensures _ (sym c.in-Some.is ∙ e.size);
      bytes = written_as a.self a.sense a.content a.body.now a.out.now _ (omega arith) c.key-key.ensures _ e.bytes;
    }
