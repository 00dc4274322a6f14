-- Fresh, close and start again (01, "Refusal numbers": "Start again: 7, then 8 unless Closed. Close: 7. Fresh connection: 16
-- only.").
use Rattle.std.specs.Prelude.{List, ℕ, length, eqb, ltb, Err, Ok, Result, ⊤}
use Rattle.connection.specs.declared.refusal.Refusal.{Refusal}
use Rattle.digest.specs.Pick.{pick}
use Rattle.connection.specs.Refusal.{refusal_number}
use Rattle.connection.specs.Connection.{new_connection, blank_connection, ended, restarted}
use Rattle.connection.specs.declared.state.State.{State}
use Rattle.connection.specs.declared.state.State.TheVariants as S
use Rattle.connection.specs.declared.refusal.Refusal.TheVariants.{Ended, NotAllowed, Argument}
use Rattle.connection.specs.declared.handshake.Session.{Session}
use Rattle.connection.specs.declared.connection.Connection.{Connection}
use Rattle.connection.specs.declared.calls.Called.{Called}

-- the number of the refusal that an outcome is (01, "Refusal numbers"); 0 where the call was done
abbrev pub outcome_number : Result ⊤ Refusal → ℕ
outcome_number (Ok tt) = 0
outcome_number (Err refusal) = refusal_number refusal

-- an outcome, and the connection that it leaves
abbrev pub leaving : Result ⊤ Refusal → Connection → Called
leaving outcome c = record { outcome = outcome; connection = c }

abbrev pub session_of : List ℕ → List ℕ → Session
session_of id secret = record { id = id; secret = secret }

-- 16. What stands beside the refusal is blank and Barred.
abbrev pub out_of_range : Called
out_of_range = leaving (Err Argument) blank_connection

-- 16: "identifier not 8, secret not 20", "width outside 32 to 64" (02, P1)
unfoldable pub fresh_of : List ℕ → List ℕ → ℕ → Called
fresh_of id secret width =
    pick (eqb (length id) 8)
    (pick (eqb (length secret) 20)
    (pick (ltb width 32) out_of_range
    (pick (ltb 64 width) out_of_range (leaving (Ok tt) (new_connection (session_of id secret) width))))
    out_of_range)
    out_of_range

-- "Close leads anywhere but Barred to Closed."
abbrev pub closed_in : Connection → State → Called
closed_in c S.Idle = leaving (Ok tt) (ended c)
closed_in c S.Replied = leaving (Ok tt) (ended c)
closed_in c S.Spec = leaving (Ok tt) (ended c)
closed_in c S.Open = leaving (Ok tt) (ended c)
closed_in c S.Closed = leaving (Ok tt) (ended c)
closed_in c S.Barred = leaving (Err Ended) c

abbrev pub closed_of : Connection → Called
closed_of c = closed_in c c.handshake.state

-- "Start again leads from Closed to Idle."
abbrev pub started_in : Connection → State → Called
started_in c S.Idle = leaving (Err NotAllowed) c
started_in c S.Replied = leaving (Err NotAllowed) c
started_in c S.Spec = leaving (Err NotAllowed) c
started_in c S.Open = leaving (Err NotAllowed) c
started_in c S.Closed = leaving (Ok tt) (restarted c)
started_in c S.Barred = leaving (Err Ended) c

abbrev pub started_of : Connection → Called
started_of c = started_in c c.handshake.state
