-- The hello, and what is said again (02, P7: "write the ClientHello"; "a call gives the same datagram again until the first data or
-- the warning on a repeated Finished arrives").
use Rattle.std.specs.Prelude.{false, List, ℕ, length, eqb, ltb, leb, Err, None, Ok, Option, Result, Some, ⊤}
use Rattle.connection.specs.declared.refusal.Refusal.{Refusal}
use Rattle.digest.specs.Pick.{pick}
use Rattle.record.specs.Written.{record_of, written_of}
use Rattle.record.specs.declared.header.Content.TheVariants as C
use Rattle.message.specs.Offer.{kinds_named, offer_hello}
use Rattle.message.specs.declared.offer.Kinds.{Kinds}
use Rattle.message.specs.declared.offer.Offer.{Offer}
use Rattle.connection.specs.Sent.{sum_of}
use Rattle.connection.specs.declared.refusal.Refusal.TheVariants.{Room, Ended, NotAllowed, Argument}
use Rattle.unit.specs.Unit.{greeted, flight_of}
use Rattle.unit.specs.Send.{unsent, done_with, sent_if, output_if}
use Rattle.unit.specs.declared.state.State.{State}
use Rattle.unit.specs.declared.state.State.TheVariants as S
use Rattle.unit.specs.declared.send.Sent.{Sent}
use Rattle.unit.specs.declared.unit.Unit.{Unit}

-- the ClientHello in a record of its own: clear number 0, without a length
unfoldable pub hello_datagram : List ℕ → List ℕ → Offer → List ℕ
hello_datagram id random offer = record_of false false C.Handshake 0 (offer_hello random id offer)

abbrev pub offer_of : Kinds → ℕ → Offer
offer_of kinds refresh = record { kinds = kinds; refresh = refresh }

-- 7 and 8, by the state: in Idle only
abbrev pub may_hello : State → Result ⊤ Refusal
may_hello S.Idle = Ok tt
may_hello S.Sent = Err NotAllowed
may_hello S.Replied = Err NotAllowed
may_hello S.Spec = Err NotAllowed
may_hello S.Opening = Err NotAllowed
may_hello S.Open = Err NotAllowed
may_hello S.Closed = Err Ended
may_hello S.Barred = Err Ended

-- 6; else the hello is written, and counts as sent
unfoldable pub greeted_with : Unit → List ℕ → Offer → ℕ → Sent
greeted_with u random offer room =
    let said = hello_datagram u.id random offer in
    pick (leb (length said) room) (done_with (length said) (greeted u random offer (sum_of said))) (unsent u Room)

-- 16: random not 16, refresh over 255, kinds other than one or both of 2 and 3; then 7, 8
abbrev pub hello_as : Unit → List ℕ → ℕ → ℕ → Option Kinds → Sent
hello_as u random refresh room (Some kinds) = sent_if u (may_hello u.state) (greeted_with u random (offer_of kinds refresh) room)
hello_as u random refresh room None = unsent u Argument

unfoldable pub hello_sent : Unit → List ℕ → List ℕ → ℕ → ℕ → Sent
hello_sent u random macs refresh room =
    pick (eqb (length random) 16)
    (pick (ltb 255 refresh) (unsent u Argument) (hello_as u random refresh room (kinds_named macs)))
    (unsent u Argument)

abbrev pub hello_output_as : Unit → List ℕ → ℕ → List ℕ → Option Kinds → List ℕ
hello_output_as u random refresh out (Some kinds) =
    output_if out (may_hello u.state) (written_of out (hello_datagram u.id random (offer_of kinds refresh)))
hello_output_as u random refresh out None = out

unfoldable pub hello_output : Unit → List ℕ → List ℕ → ℕ → List ℕ → List ℕ
hello_output u random macs refresh out =
    pick (eqb (length random) 16) (pick (ltb 255 refresh) out (hello_output_as u random refresh out (kinds_named macs))) out

-- the same datagram again: 6, or it is written and nothing changes
unfoldable pub said_again : Unit → List ℕ → ℕ → Sent
said_again u bytes room = pick (leb (length bytes) room) (done_with (length bytes) u) (unsent u Room)

-- the hello that was sent
abbrev pub hello_said : Unit → List ℕ
hello_said u = hello_datagram u.id u.protection.keys.client u.offer

abbrev pub again_in : Unit → State → ℕ → Sent
again_in u S.Idle room = unsent u NotAllowed
again_in u S.Sent room = said_again u (hello_said u) room
again_in u S.Replied room = said_again u (hello_said u) room
again_in u S.Spec room = said_again u (hello_said u) room
again_in u S.Opening room = said_again u (flight_of u) room
again_in u S.Open room = unsent u NotAllowed
again_in u S.Closed room = unsent u Ended
again_in u S.Barred room = unsent u Ended

abbrev pub again_sent : Unit → ℕ → Sent
again_sent u room = again_in u u.state room

abbrev pub again_output_in : Unit → State → List ℕ → List ℕ
again_output_in u S.Idle out = out
again_output_in u S.Sent out = written_of out (hello_said u)
again_output_in u S.Replied out = written_of out (hello_said u)
again_output_in u S.Spec out = written_of out (hello_said u)
again_output_in u S.Opening out = written_of out (flight_of u)
again_output_in u S.Open out = out
again_output_in u S.Closed out = out
again_output_in u S.Barred out = out

abbrev pub again_output : Unit → List ℕ → List ℕ
again_output u out = again_output_in u u.state out
