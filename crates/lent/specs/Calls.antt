-- The exported calls: each is a call of the connection on the connection that the lent bytes hold. "16: argument out
-- of range" is stretched to bytes that are no saved connection, and to a tally or answers of another size. A refused
-- call leaves every lent byte as it was.
use Rattle.std.specs.Prelude.{Bool, true, false, List, ℕ, ◌+◌, ◌*◌, ◌/◌, ◌%◌, length, get_or, eqb, Err, Ok, Result, ⊤}
use Rattle.connection.specs.declared.receive.Untaken.{Untaken}
use Rattle.connection.specs.declared.refusal.Refusal.{Refusal}
use Rattle.digest.specs.Pick.{pick}
use Rattle.record.specs.Window.{arrival_of}
use Rattle.connection.specs.Refusal.{refusal_number}
use Rattle.connection.specs.Calls.{fresh_of, closed_of, started_of}
use Rattle.connection.specs.Receive.{received_of, output_of}
use Rattle.connection.specs.Send.{data_sent, data_output, alert_sent, alert_output}
use Rattle.connection.specs.Tally.{counted_of}
use Rattle.connection.specs.declared.connection.Connection.{Connection}
use Rattle.connection.specs.declared.calls.Called.{Called}
use Rattle.connection.specs.declared.receive.Untaken.TheVariants as T
use Rattle.connection.specs.declared.receive.Received.{Received}
use Rattle.connection.specs.declared.send.Sent.{Sent}
use Rattle.lent.specs.Saved.{state_size, handshake_place, saved_of, is_saved, connection_in, Loaded, Is, loaded}
use Rattle.lent.specs.Report.{report_of}
use Rattle.lent.specs.Counts.{tally_bytes, tally_in}

-- What a call answers: the refusal's number (0: not refused), how many bytes stand at the front of the output, and a
-- count; sixteen bits each, the count lowest.
unfoldable pub result_of : ℕ → ℕ → ℕ → ℕ
result_of refusal written count = (refusal * 65536 + written % 65536) * 65536 + count % 65536

-- the three parts, as include/gateway.h takes them out
abbrev pub refusal_part : ℕ → ℕ
refusal_part result = result / 65536 / 65536

abbrev pub written_part : ℕ → ℕ
written_part result = result / 65536 % 65536

abbrev pub count_part : ℕ → ℕ
count_part result = result % 65536

-- "16: argument out of range"
abbrev pub not_taken : ℕ
not_taken = result_of 16 0 0

-- 0 where a call is done, else the number of its refusal
abbrev pub refusal_in : Result ⊤ Refusal → ℕ
refusal_in (Ok tt) = 0
refusal_in (Err refusal) = refusal_number refusal

-- the lent bytes after a call: the connection that it leaves; untouched where it is refused
abbrev pub left_in : List ℕ → Connection → Result ⊤ Refusal → List ℕ
left_in state c (Ok tt) = saved_of c
left_in state c (Err refusal) = state

-- what they load as then: the connection that the call leaves; what they were where it is refused
abbrev pub left_loaded : List ℕ → Connection → Result ⊤ Refusal → Loaded
left_loaded state c (Ok tt) = Is c
left_loaded state c (Err refusal) = loaded state

-- fresh: in 940 bytes, whatever they hold
unfoldable pub fresh_result : List ℕ → List ℕ → ℕ → ℕ → ℕ
fresh_result id secret width room =
    pick (eqb room state_size) (result_of (refusal_in (fresh_of id secret width).outcome) 0 0) not_taken

unfoldable pub fresh_state : List ℕ → List ℕ → ℕ → List ℕ → List ℕ
fresh_state id secret width state =
    pick (eqb (length state) state_size)
    (left_in state (fresh_of id secret width).connection (fresh_of id secret width).outcome)
    state

unfoldable pub fresh_loads : List ℕ → List ℕ → ℕ → List ℕ → Loaded
fresh_loads id secret width state =
    pick (eqb (length state) state_size)
    (left_loaded state (fresh_of id secret width).connection (fresh_of id secret width).outcome)
    (loaded state)

-- close and start again, each as what it does with a connection
abbrev pub called_result : (Connection → Called) → List ℕ → ℕ
called_result call state = pick (is_saved state) (result_of (refusal_in (call (connection_in state)).outcome) 0 0) not_taken

abbrev pub called_state : (Connection → Called) → List ℕ → List ℕ
called_state call state =
    pick (is_saved state)
    (left_in state (call (connection_in state)).connection (call (connection_in state)).outcome)
    state

abbrev pub called_loads : (Connection → Called) → List ℕ → Loaded
called_loads call state =
    pick (is_saved state)
    (left_loaded state (call (connection_in state)).connection (call (connection_in state)).outcome)
    (loaded state)

unfoldable pub close_result : List ℕ → ℕ
close_result state = called_result closed_of state

unfoldable pub close_state : List ℕ → List ℕ
close_state state = called_state closed_of state

unfoldable pub close_loads : List ℕ → Loaded
close_loads state = called_loads closed_of state

unfoldable pub start_result : List ℕ → ℕ
start_result state = called_result started_of state

unfoldable pub start_state : List ℕ → List ℕ
start_state state = called_state started_of state

unfoldable pub start_loads : List ℕ → Loaded
start_loads state = called_loads started_of state

-- the state's number, as the count
unfoldable pub state_result : List ℕ → ℕ
state_result state = pick (is_saved state) (result_of 0 0 (get_or state handshake_place 0)) not_taken

-- the arrival report (02, P1: "the arrival report counts over the width"), and the width that it counts over, each as
-- the count
unfoldable pub arrived_result : List ℕ → ℕ
arrived_result state =
    pick (is_saved state) (result_of 0 0 (arrival_of (connection_in state).handshake.protection.window)) not_taken

unfoldable pub width_result : List ℕ → ℕ
width_result state =
    pick (is_saved state) (result_of 0 0 (connection_in state).handshake.protection.window.width) not_taken

-- a send, as what it does with a connection: its answer, the connection that it leaves, and the output
abbrev pub sent_result : Sent → ℕ
sent_result sent = result_of (refusal_in sent.outcome) sent.written 0

abbrev pub sent_state : List ℕ → Sent → List ℕ
sent_state state sent = left_in state sent.connection sent.outcome

abbrev pub sent_loads : List ℕ → Sent → Loaded
sent_loads state sent = left_loaded state sent.connection sent.outcome

unfoldable pub data_result : List ℕ → List ℕ → ℕ → ℕ
data_result state bytes room = pick (is_saved state) (sent_result (data_sent (connection_in state) bytes room)) not_taken

unfoldable pub data_state : List ℕ → List ℕ → ℕ → List ℕ
data_state state bytes room = pick (is_saved state) (sent_state state (data_sent (connection_in state) bytes room)) state

unfoldable pub data_loads : List ℕ → List ℕ → ℕ → Loaded
data_loads state bytes room =
    pick (is_saved state) (sent_loads state (data_sent (connection_in state) bytes room)) (loaded state)

unfoldable pub data_out : List ℕ → List ℕ → List ℕ → List ℕ
data_out state bytes out = pick (is_saved state) (data_output (connection_in state) bytes out) out

-- an alert goes out clear (0) or protected (1); any other number is out of range
abbrev pub sense : {A : Type 0} → ℕ → (Bool → A) → A → A
sense protected sent other = pick (eqb protected 0) (sent false) (pick (eqb protected 1) (sent true) other)

unfoldable pub alert_result : List ℕ → ℕ → ℕ → ℕ → List ℕ → ℕ → ℕ
alert_result state protected level description answered room =
    pick (is_saved state)
    (sense protected
    (λ is_protected. sent_result (alert_sent (connection_in state) is_protected level description answered room))
    not_taken)
    not_taken

unfoldable pub alert_state : List ℕ → ℕ → ℕ → ℕ → List ℕ → ℕ → List ℕ
alert_state state protected level description answered room =
    pick (is_saved state)
    (sense protected
    (λ is_protected. sent_state state (alert_sent (connection_in state) is_protected level description answered room))
    state)
    state

unfoldable pub alert_loads : List ℕ → ℕ → ℕ → ℕ → List ℕ → ℕ → Loaded
alert_loads state protected level description answered room =
    pick (is_saved state)
    (sense protected
    (λ is_protected. sent_loads state (alert_sent (connection_in state) is_protected level description answered room))
    (loaded state))
    (loaded state)

unfoldable pub alert_out : List ℕ → ℕ → ℕ → ℕ → List ℕ → List ℕ → List ℕ
alert_out state protected level description answered out =
    pick (is_saved state)
    (sense protected (λ is_protected. alert_output (connection_in state) is_protected level description answered out) out)
    out

-- receive: a saved connection, a tally of 16 bytes, answers of 192
unfoldable pub lent_for : List ℕ → ℕ → ℕ → Bool
lent_for state counts places = pick (eqb counts 16) (pick (eqb places 192) (is_saved state) false) false

-- a datagram refused as a whole touches nothing; 1 to 5 give the offset of the record at fault as the count
abbrev pub taken_result : ℕ → Result ℕ Untaken → ℕ
taken_result written (Ok count) = result_of 0 written count
taken_result written (Err (T.Refused refusal)) = result_of (refusal_number refusal) 0 0
taken_result written (Err (T.Misframed refusal at)) = result_of (refusal_number refusal) 0 at

abbrev pub where_taken : {A : Type 0} → Result ℕ Untaken → A → A → A
where_taken (Ok count) after before = after
where_taken (Err (T.Refused refusal)) after before = before
where_taken (Err (T.Misframed refusal at)) after before = before

abbrev pub got : List ℕ → List ℕ → List ℕ → ℕ → Received
got state d random room = received_of (connection_in state) d random room

unfoldable pub receive_result : List ℕ → List ℕ → List ℕ → List ℕ → List ℕ → ℕ → ℕ
receive_result state tally answers d random room =
    pick (lent_for state (length tally) (length answers))
    (taken_result (got state d random room).written (got state d random room).taken)
    not_taken

unfoldable pub receive_state : List ℕ → List ℕ → List ℕ → List ℕ → List ℕ → ℕ → List ℕ
receive_state state tally answers d random room =
    pick (lent_for state (length tally) (length answers))
    (where_taken (got state d random room).taken (saved_of (got state d random room).connection) state)
    state

unfoldable pub receive_loads : List ℕ → List ℕ → List ℕ → List ℕ → List ℕ → ℕ → Loaded
receive_loads state tally answers d random room =
    pick (lent_for state (length tally) (length answers))
    (where_taken (got state d random room).taken (Is (got state d random room).connection) (loaded state))
    (loaded state)

-- the tally "brought up to date where it stands", with the answers
unfoldable pub receive_tally : List ℕ → List ℕ → List ℕ → List ℕ → List ℕ → ℕ → List ℕ
receive_tally state tally answers d random room =
    pick (lent_for state (length tally) (length answers))
    (where_taken (got state d random room).taken
    (tally_bytes (counted_of (tally_in tally) (got state d random room).answers))
    tally)
    tally

unfoldable pub receive_answers : List ℕ → List ℕ → List ℕ → List ℕ → List ℕ → ℕ → List ℕ
receive_answers state tally answers d random room =
    pick (lent_for state (length tally) (length answers))
    (where_taken (got state d random room).taken (report_of (got state d random room).answers) answers)
    answers

-- "A success writes the counted bytes at the front and no others."
unfoldable pub receive_out : List ℕ → List ℕ → List ℕ → List ℕ → List ℕ → List ℕ → List ℕ
receive_out state tally answers d random out =
    pick (lent_for state (length tally) (length answers)) (output_of (connection_in state) d random out) out
