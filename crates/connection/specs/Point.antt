-- One record of a datagram, as receive comes to it (02, "Why was this report dropped?"): "takes the connection, a datagram, the
-- server random and a record's index".
use Rattle.std.specs.Prelude.{List, ℕ, length, take, get_or, eqb, ltb, Err, Ok, Result}
use Rattle.connection.specs.declared.receive.Untaken.{Untaken}
use Rattle.digest.specs.Pick.{pick}
use Rattle.record.specs.Datagram.{Framing, framed, faulty, framing_of, blank}
use Rattle.record.specs.declared.reader.Record.{Record}
use Rattle.connection.specs.Asked.{whom_of}
use Rattle.connection.specs.Told.{told_record}
use Rattle.connection.specs.Receive.{end_of}
use Rattle.connection.specs.declared.refusal.Refusal.TheVariants.{Framing as Framed, Argument}
use Rattle.connection.specs.declared.asked.Whom.TheVariants.{Only}
use Rattle.connection.specs.declared.answer.Answer.TheVariants.{Nothing}
use Rattle.connection.specs.declared.connection.Connection.{Connection}
use Rattle.connection.specs.declared.receive.Untaken.TheVariants.{Refused, Misframed}
use Rattle.connection.specs.declared.point.Point.{Point}

-- no such record: the connection as it was, a blank record and no answer
abbrev pub nowhere : Connection → Result ℕ Untaken → Point
nowhere c taken = record { taken = taken; connection = c; whom = Only; found = blank; answer = Nothing }

-- a record in the connection that those before it left: whom it is for, and the answer that receive gives to it
unfoldable pub point_on : Connection → List ℕ → List ℕ → ℕ → Record → Point
point_on left random d count r =
    record {
      taken = Ok count;
      connection = left;
      whom = whom_of left d r;
      found = r;
      answer = (told_record left random d r).answer;
    }

unfoldable pub point_at : Connection → List ℕ → List ℕ → List Record → ℕ → Point
point_at c random d rs index = point_on (end_of c random d (take index rs)) random d (length rs) (get_or rs index blank)

-- ".. then for an index past the last record of a sound datagram"
unfoldable pub point_among : Connection → List ℕ → List ℕ → List Record → ℕ → Point
point_among c random d rs index =
    pick (ltb index (length rs)) (point_at c random d rs index) (nowhere c (Err (Refused Argument)))

-- "A framing fault is the reason at every index."
abbrev pub point_in : Connection → List ℕ → List ℕ → ℕ → Framing → Point
point_in c random d index (framed rs) = point_among c random d rs index
point_in c random d index (faulty fault at) = nowhere c (Err (Misframed (Framed fault) at))

-- "Refusals: 16 for random not 16", then the framing
unfoldable pub point_of : Connection → List ℕ → List ℕ → ℕ → Point
point_of c d random index =
    pick (eqb (length random) 16) (point_in c random d index (framing_of d)) (nowhere c (Err (Refused Argument)))
