-- What a message leaves, by what the gatherer makes of it: statements over the definition that the contract cites.
use Rattle.std.specs.Prelude.{◌≡◌, true, false, List, ℕ, length, eqb, ltb, Some, None}
use Rattle.gather.specs.Gatherer.{Left, datagram_of}
use Rattle.gather.specs.declared.refusal.Refusal.TheVariants.{Argument, Room}
use Rattle.gather.specs.declared.gatherer.Gatherer.{Gatherer}
use Rattle.connection.specs.Receive.{received_of, output_of}
use Rattle.connection.specs.declared.connection.Connection.{Connection}
use Rattle.short.specs.Message.{is_shown, connection_after, leaves, gathered_of, refusing, message_of}

module _ (c : Connection) (g : Gatherer) (store message assembly random out : List ℕ) where
  abbrev made : Left
  made = gathered_of g store message assembly random (length out)

  -- what the datagram gets changes nothing of the gathering: "a reference is finished by its last part, whatever answer the
  -- gathered datagram then gets, 1 to 5 included"
  abbrev pub Alone : Type 0
  Alone =
      ((message_of c g store message assembly random out).gatherer ≡ made.gatherer)
      × (((message_of c g store message assembly random out).back.answer ≡ made.answer)
      × (((message_of c g store message assembly random out).store ≡ made.store)
      × ((message_of c g store message assembly random out).assembly ≡ made.assembly)))

  -- a message that shows no datagram, refused or waiting, leaves the connection and the output
  abbrev pub Quiet : Type 0
  Quiet =
      is_shown made.answer ≡ false
      → ((message_of c g store message assembly random out).back.received ≡ None)
      × ((connection_after c (message_of c g store message assembly random out).back.received ≡ c)
      × ((message_of c g store message assembly random out).out ≡ out))

  -- one that shows a datagram: receive's own definition on that datagram
  abbrev pub ByReceive : Type 0
  ByReceive =
      is_shown made.answer ≡ true
      → ((message_of c g store message assembly random out).back.received
      ≡ Some (received_of c (datagram_of made.answer message made.assembly) random (length out)))
      × ((message_of c g store message assembly random out).out
      ≡ output_of c (datagram_of made.answer message made.assembly) random out)

  -- 16 and 6 for what is lent to a receive leave everything, the gathering included
  abbrev pub LentWrong : Type 0
  LentWrong =
      (eqb (length random) 16 ≡ false
      → message_of c g store message assembly random out ≡ leaves (refusing Argument) g store assembly out)
      × (eqb (length random) 16 ≡ true → ltb (length store) 5600 ≡ false → ltb (length out) 128 ≡ true
      → message_of c g store message assembly random out ≡ leaves (refusing Room) g store assembly out)
