-- A connection and its parts (02, "A unit that rebooted": "Hold the started handshake beside the open connection").
use Rattle.std.specs.Prelude.{ℕ}
use Rattle.connection.specs.Handshake.{new_handshake, blank_handshake, none_started, with_state, reopened}
use Rattle.connection.specs.Sent.{no_records}
use Rattle.connection.specs.declared.state.State.TheVariants.{Idle, Closed}
use Rattle.connection.specs.declared.sent.SentRecords.{SentRecords}
use Rattle.connection.specs.declared.handshake.Session.{Session}
use Rattle.connection.specs.declared.handshake.Handshake.{Handshake}
use Rattle.connection.specs.declared.connection.Connection.{Connection}

-- the open handshake or the only one, the started one beside it, the records that we sent since the last start
abbrev pub connection_of : Handshake → Handshake → SentRecords → Connection
connection_of h started sent = record { handshake = h; started = started; sent = sent }

-- one handshake, none beside it, nothing sent
abbrev pub alone : Handshake → Connection
alone h = connection_of h none_started no_records

-- a connection in which nothing has happened; and what stands beside a refused fresh
abbrev pub new_connection : Session → ℕ → Connection
new_connection session width = alone (new_handshake session width Idle)

abbrev pub blank_connection : Connection
blank_connection = alone blank_handshake

-- our closing: "close, end both"
abbrev pub ended : Connection → Connection
ended c = connection_of (with_state c.handshake Closed) none_started c.sent

-- start again, which forgets the records sent (02: "since the last start")
abbrev pub restarted : Connection → Connection
restarted c = alone (reopened c.handshake)
