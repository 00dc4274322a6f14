-- 02, P6: "The open one goes on until the new Finished is verified, and is then replaced." That it goes on: `LeftOut.OpenKept`.
use Rattle.std.specs.Prelude.{◌≡◌, List, ℕ}
use Rattle.record.specs.declared.reader.Record.{Record}
use Rattle.connection.specs.Connection.{connection_of}
use Rattle.connection.specs.Handshake.{with_state, none_started}
use Rattle.connection.specs.Told.{told_record}
use Rattle.connection.specs.declared.state.State.TheVariants.{Open}
use Rattle.connection.specs.declared.answer.Answer.TheVariants as W
use Rattle.connection.specs.declared.connection.Connection.{Connection}
use Rattle.demands.specs.Asked.{RightBeside}
use Rattle.demands.specs.Refusals.{marked}

-- In Open a record is answered Open only if it is right under the started keys; and then the open handshake is the started one, with
-- its keys, its window and the mark of this number, its hello, its reply and its sending numbers, none is started, and of the old one
-- nothing stays but the list of records sent.
unfoldable pub ReplacedExactly : Type 0
ReplacedExactly =
    (c : Connection) (random d : List ℕ) (r : Record) → c.handshake.state ≡ Open → (told_record c random d r).answer ≡ W.Open
    → RightBeside c d r
    × ((told_record c random d r).connection ≡ connection_of (with_state (marked c.started r.number) Open) none_started c.sent)
