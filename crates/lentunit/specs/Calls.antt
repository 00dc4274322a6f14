-- The exported calls: each is a call of the unit on the unit that the lent bytes hold. "16: argument out of range" is stretched to
-- bytes that are no saved unit, and to a tally or answers of another size. A refused call leaves every lent byte as it was.
use Rattle.std.specs.Prelude.{Bool, false, List, ℕ, length, get_or, eqb, Err, Ok, Result, ⊤}
use Rattle.connection.specs.declared.refusal.Refusal.{Refusal}
use Rattle.digest.specs.Pick.{pick}
use Rattle.record.specs.Window.{arrival_of}
use Rattle.lent.specs.Calls.{result_of, not_taken, refusal_in, sense, taken_result, where_taken}
use Rattle.lent.specs.Counts.{tally_bytes, tally_in}
use Rattle.unit.specs.Calls.{fresh_of, closed_of, started_of}
use Rattle.unit.specs.Hello.{hello_sent, hello_output, again_sent, again_output}
use Rattle.unit.specs.Receive.{received_of, output_of}
use Rattle.unit.specs.Send.{data_sent, data_output, alert_sent, alert_output}
use Rattle.unit.specs.Tally.{counted_of}
use Rattle.unit.specs.declared.calls.Called.{Called}
use Rattle.unit.specs.declared.receive.Received.{Received}
use Rattle.unit.specs.declared.send.Sent.{Sent}
use Rattle.unit.specs.declared.unit.Unit.{Unit}
use Rattle.lentunit.specs.Report.{report_of}
use Rattle.lentunit.specs.Saved.{unit_size, state_place, saved_of, is_saved, unit_in, Loaded, Is, loaded}

-- the lent bytes after a call: the unit that it leaves; untouched where it is refused
abbrev pub left_in : List ℕ → Unit → Result ⊤ Refusal → List ℕ
left_in state u (Ok tt) = saved_of u
left_in state u (Err refusal) = state

-- what they load as then: the unit that the call leaves; what they were where it is refused
abbrev pub left_loaded : List ℕ → Unit → Result ⊤ Refusal → Loaded
left_loaded state u (Ok tt) = Is u
left_loaded state u (Err refusal) = loaded state

-- fresh: in 180 bytes, whatever they hold
unfoldable pub fresh_result : List ℕ → List ℕ → ℕ → ℕ → ℕ
fresh_result id secret width room =
    pick (eqb room unit_size) (result_of (refusal_in (fresh_of id secret width).outcome) 0 0) not_taken

unfoldable pub fresh_state : List ℕ → List ℕ → ℕ → List ℕ → List ℕ
fresh_state id secret width state =
    pick (eqb (length state) unit_size)
    (left_in state (fresh_of id secret width).unit (fresh_of id secret width).outcome)
    state

unfoldable pub fresh_loads : List ℕ → List ℕ → ℕ → List ℕ → Loaded
fresh_loads id secret width state =
    pick (eqb (length state) unit_size)
    (left_loaded state (fresh_of id secret width).unit (fresh_of id secret width).outcome)
    (loaded state)

-- close and start again, each as what it does with a unit
abbrev pub called_result : (Unit → Called) → List ℕ → ℕ
called_result call state = pick (is_saved state) (result_of (refusal_in (call (unit_in state)).outcome) 0 0) not_taken

abbrev pub called_state : (Unit → Called) → List ℕ → List ℕ
called_state call state =
    pick (is_saved state) (left_in state (call (unit_in state)).unit (call (unit_in state)).outcome) state

abbrev pub called_loads : (Unit → Called) → List ℕ → Loaded
called_loads call state =
    pick (is_saved state) (left_loaded state (call (unit_in state)).unit (call (unit_in state)).outcome) (loaded state)

unfoldable pub close_result : List ℕ → ℕ
close_result state = called_result closed_of state

unfoldable pub close_state : List ℕ → List ℕ
close_state state = called_state closed_of state

unfoldable pub close_loads : List ℕ → Loaded
close_loads state = called_loads closed_of state

unfoldable pub start_result : List ℕ → ℕ
start_result state = called_result started_of state

unfoldable pub start_state : List ℕ → List ℕ
start_state state = called_state started_of state

unfoldable pub start_loads : List ℕ → Loaded
start_loads state = called_loads started_of state

-- the state's number, the arrival report and the width that it counts over, each as the count
unfoldable pub state_result : List ℕ → ℕ
state_result state = pick (is_saved state) (result_of 0 0 (get_or state state_place 0)) not_taken

unfoldable pub arrived_result : List ℕ → ℕ
arrived_result state =
    pick (is_saved state) (result_of 0 0 (arrival_of (unit_in state).protection.window)) not_taken

unfoldable pub width_result : List ℕ → ℕ
width_result state = pick (is_saved state) (result_of 0 0 (unit_in state).protection.window.width) not_taken

-- a call that writes, as what it does with a unit: its answer, the unit that it leaves, and the output
abbrev pub sent_result : Sent → ℕ
sent_result sent = result_of (refusal_in sent.outcome) sent.written 0

abbrev pub sent_state : List ℕ → Sent → List ℕ
sent_state state sent = left_in state sent.unit sent.outcome

abbrev pub sent_loads : List ℕ → Sent → Loaded
sent_loads state sent = left_loaded state sent.unit sent.outcome

-- the hello
unfoldable pub hello_result : List ℕ → List ℕ → List ℕ → ℕ → ℕ → ℕ
hello_result state random macs refresh room =
    pick (is_saved state) (sent_result (hello_sent (unit_in state) random macs refresh room)) not_taken

unfoldable pub hello_state : List ℕ → List ℕ → List ℕ → ℕ → ℕ → List ℕ
hello_state state random macs refresh room =
    pick (is_saved state) (sent_state state (hello_sent (unit_in state) random macs refresh room)) state

unfoldable pub hello_loads : List ℕ → List ℕ → List ℕ → ℕ → ℕ → Loaded
hello_loads state random macs refresh room =
    pick (is_saved state) (sent_loads state (hello_sent (unit_in state) random macs refresh room)) (loaded state)

unfoldable pub hello_out : List ℕ → List ℕ → List ℕ → ℕ → List ℕ → List ℕ
hello_out state random macs refresh out = pick (is_saved state) (hello_output (unit_in state) random macs refresh out) out

-- "a call gives the same datagram again": the bytes of the unit are only read
unfoldable pub again_result : List ℕ → ℕ → ℕ
again_result state room = pick (is_saved state) (sent_result (again_sent (unit_in state) room)) not_taken

unfoldable pub again_out : List ℕ → List ℕ → List ℕ
again_out state out = pick (is_saved state) (again_output (unit_in state) out) out

-- data
unfoldable pub data_result : List ℕ → List ℕ → ℕ → ℕ
data_result state bytes room = pick (is_saved state) (sent_result (data_sent (unit_in state) bytes room)) not_taken

unfoldable pub data_state : List ℕ → List ℕ → ℕ → List ℕ
data_state state bytes room = pick (is_saved state) (sent_state state (data_sent (unit_in state) bytes room)) state

unfoldable pub data_loads : List ℕ → List ℕ → ℕ → Loaded
data_loads state bytes room = pick (is_saved state) (sent_loads state (data_sent (unit_in state) bytes room)) (loaded state)

unfoldable pub data_out : List ℕ → List ℕ → List ℕ → List ℕ
data_out state bytes out = pick (is_saved state) (data_output (unit_in state) bytes out) out

-- an alert goes out clear (0) or protected (1); any other number is out of range
unfoldable pub alert_result : List ℕ → ℕ → ℕ → ℕ → List ℕ → ℕ → ℕ
alert_result state protected level description answered room =
    pick (is_saved state)
    (sense protected
    (λ is_protected. sent_result (alert_sent (unit_in state) is_protected level description answered room))
    not_taken)
    not_taken

unfoldable pub alert_state : List ℕ → ℕ → ℕ → ℕ → List ℕ → ℕ → List ℕ
alert_state state protected level description answered room =
    pick (is_saved state)
    (sense protected
    (λ is_protected. sent_state state (alert_sent (unit_in state) is_protected level description answered room))
    state)
    state

unfoldable pub alert_loads : List ℕ → ℕ → ℕ → ℕ → List ℕ → ℕ → Loaded
alert_loads state protected level description answered room =
    pick (is_saved state)
    (sense protected
    (λ is_protected. sent_loads state (alert_sent (unit_in state) is_protected level description answered room))
    (loaded state))
    (loaded state)

unfoldable pub alert_out : List ℕ → ℕ → ℕ → ℕ → List ℕ → List ℕ → List ℕ
alert_out state protected level description answered out =
    pick (is_saved state)
    (sense protected (λ is_protected. alert_output (unit_in state) is_protected level description answered out) out)
    out

-- receive: a saved unit, a tally of 16 bytes, answers of 192
unfoldable pub lent_for : List ℕ → ℕ → ℕ → Bool
lent_for state counts places = pick (eqb counts 16) (pick (eqb places 192) (is_saved state) false) false

abbrev pub got : List ℕ → List ℕ → ℕ → Received
got state d room = received_of (unit_in state) d room

unfoldable pub receive_result : List ℕ → List ℕ → List ℕ → List ℕ → ℕ → ℕ
receive_result state tally answers d room =
    pick (lent_for state (length tally) (length answers))
    (taken_result (got state d room).written (got state d room).taken)
    not_taken

unfoldable pub receive_state : List ℕ → List ℕ → List ℕ → List ℕ → ℕ → List ℕ
receive_state state tally answers d room =
    pick (lent_for state (length tally) (length answers))
    (where_taken (got state d room).taken (saved_of (got state d room).unit) state)
    state

unfoldable pub receive_loads : List ℕ → List ℕ → List ℕ → List ℕ → ℕ → Loaded
receive_loads state tally answers d room =
    pick (lent_for state (length tally) (length answers))
    (where_taken (got state d room).taken (Is (got state d room).unit) (loaded state))
    (loaded state)

-- the tally "brought up to date where it stands", with the answers
unfoldable pub receive_tally : List ℕ → List ℕ → List ℕ → List ℕ → ℕ → List ℕ
receive_tally state tally answers d room =
    pick (lent_for state (length tally) (length answers))
    (where_taken (got state d room).taken (tally_bytes (counted_of (tally_in tally) (got state d room).answers)) tally)
    tally

unfoldable pub receive_answers : List ℕ → List ℕ → List ℕ → List ℕ → ℕ → List ℕ
receive_answers state tally answers d room =
    pick (lent_for state (length tally) (length answers))
    (where_taken (got state d room).taken (report_of (got state d room).answers) answers)
    answers

-- "A success writes the counted bytes at the front and no others."
unfoldable pub receive_out : List ℕ → List ℕ → List ℕ → List ℕ → List ℕ → List ℕ
receive_out state tally answers d out =
    pick (lent_for state (length tally) (length answers)) (output_of (unit_in state) d out) out
