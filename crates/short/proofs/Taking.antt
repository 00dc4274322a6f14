-- A message is what the gatherer makes of it, and then the datagram that it shows.
use mathlib.Core.Path.{◌≡◌, ap, ◌∙◌}
use mathlib.Core.List.{List}
use Prim.Native.Nat.{ℕ}
use lib.ListN.{length}
use Rattle.std.specs.Prelude.{Option}
use Rattle.gather.specs.Gatherer.{Left}
use Rattle.connection.specs.declared.connection.Connection.{Connection}
use Rattle.connection.specs.declared.receive.Received.{Received}
use Rattle.gather.specs.declared.gatherer.Gatherer.{Gatherer}
use Rattle.short.specs.Message.{taken_of, heard_of, leaves, gathered_of, received, message_of}

module _ (c : Connection) (g : Gatherer) (store message assembly random out : List ℕ) where
  pub message_on : (l : Left) {heard : Option Received} {written : List ℕ}
      → l ≡ gathered_of g store message assembly random (length out)
      → heard ≡ taken_of c l.answer message l.assembly random (length out)
      → written ≡ heard_of c l.answer message l.assembly random out
      → leaves (record { answer = l.answer; received = heard }) l.gatherer l.store l.assembly written
      ≡ message_of c g store message assembly random out
  unfolding message_of
  message_on l el eh ew =
      (λ j. leaves (record { answer = l.answer; received = eh j }) l.gatherer l.store l.assembly (ew j))
      ∙ ap (received c message random out) el
