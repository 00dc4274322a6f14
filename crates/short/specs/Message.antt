-- A short message taken (02, P2): the gatherer's step, then receive's own definition on the datagram that is shown.
use Rattle.std.specs.Prelude.{Bool, true, false, List, ℕ, length, eqb, ltb, Option, Some, None, Result, Ok, Err}
use Rattle.digest.specs.Pick.{pick}
use Rattle.gather.specs.Gatherer.{Left, step_of, datagram_of}
use Rattle.gather.specs.Gatherer as G
use Rattle.gather.specs.declared.refusal.Refusal.{Refusal}
use Rattle.gather.specs.declared.refusal.Refusal.TheVariants.{Argument, Room}
use Rattle.gather.specs.declared.gatherer.Gatherer.{Gatherer}
use Rattle.gather.specs.declared.gatherer.Answer.{Answer}
use Rattle.gather.specs.declared.gatherer.Answer.TheVariants as A
use Rattle.connection.specs.Receive.{received_of, output_of}
use Rattle.connection.specs.declared.connection.Connection.{Connection}
use Rattle.connection.specs.declared.receive.Received.{Received}
use Rattle.short.specs.declared.take.Messaged.{Messaged}

-- "A message without concatenation, or of total 1, .. is shown where it was received; a gathered one is shown in the assembly
-- buffer": whether an answer shows a datagram
abbrev pub is_shown : Result Answer Refusal → Bool
is_shown (Err refusal) = false
is_shown (Ok (A.Waiting ports reference have total)) = false
is_shown (Ok (A.Received ports start)) = true
is_shown (Ok (A.Gathered ports size)) = true

-- what receive gives of the datagram that is shown, "whatever answer the gathered datagram then gets, 1 to 5 included"
unfoldable pub taken_of : Connection → Result Answer Refusal → List ℕ → List ℕ → List ℕ → ℕ → Option Received
taken_of c answer message assembly random room =
    pick (is_shown answer) (Some (received_of c (datagram_of answer message assembly) random room)) None

unfoldable pub heard_of : Connection → Result Answer Refusal → List ℕ → List ℕ → List ℕ → List ℕ → List ℕ
heard_of c answer message assembly random out =
    pick (is_shown answer) (output_of c (datagram_of answer message assembly) random out) out

-- the connection then: without a datagram it is as it was
abbrev pub connection_after : Connection → Option Received → Connection
connection_after c None = c
connection_after c (Some received) = received.connection

-- what a message leaves: what comes back, the gatherer, and the lent bytes
pub record Leaves : Type 0 where
  pub back : Messaged
  pub gatherer : Gatherer
  pub store : List ℕ
  pub assembly : List ℕ
  pub out : List ℕ

abbrev pub leaves : Messaged → Gatherer → List ℕ → List ℕ → List ℕ → Leaves
leaves r g store assembly out = record { back = r; gatherer = g; store = store; assembly = assembly; out = out }

-- What the gatherer makes of a message, whatever the connection: 16 for the random and the store, 6 for the output, and then its
-- own step, which has 6 for the assembly buffer, and 19 to 22. "They come after 16 and 6 and before 1, in that order".
unfoldable pub gathered_of : Gatherer → List ℕ → List ℕ → List ℕ → List ℕ → ℕ → Left
gathered_of g store message assembly random room =
    pick (eqb (length random) 16)
    (pick (ltb (length store) 5600) (G.leaves g (Err Argument) store assembly)
    (pick (ltb room 128) (G.leaves g (Err Room) store assembly) (step_of g store message assembly)))
    (G.leaves g (Err Argument) store assembly)

-- and then the datagram that it shows: 1 and what follows, by receive
abbrev pub received : Connection → List ℕ → List ℕ → List ℕ → Left → Leaves
received c message random out l =
    leaves (record { answer = l.answer; received = taken_of c l.answer message l.assembly random (length out) }) l.gatherer l.store
    l.assembly (heard_of c l.answer message l.assembly random out)

unfoldable pub message_of : Connection → Gatherer → List ℕ → List ℕ → List ℕ → List ℕ → List ℕ → Leaves
message_of c g store message assembly random out =
    received c message random out (gathered_of g store message assembly random (length out))

-- a refusal of the message itself
abbrev pub refusing : Refusal → Messaged
refusing refusal = record { answer = Err refusal; received = None }
