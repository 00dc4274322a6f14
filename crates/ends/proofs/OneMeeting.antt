-- A handshake of a setting, in whatever rooms, goes one way: two that meet have the same ends and the same datagrams. The idea: each call
-- is an equation, so what it leaves is the same if what it was given is; and what was written is the counted bytes at the front.
use mathlib.Core.Path.{◌≡◌, sym, ◌∙◌, ap, ap₂}
use mathlib.Core.List.{List}
use Prim.Native.Nat.{ℕ}
use lib.ListN.{length, take}
use Rattle.digest.specs.Bytes.{laid_over}
use Rattle.connection.specs.Receive as Ashore
use Rattle.connection.specs.declared.calls.Called.{Called as CalledAshore}
use Rattle.connection.specs.declared.receive.Received.{Received as ReceivedAshore}
use Rattle.unit.specs.Hello.{hello_sent, hello_output}
use Rattle.unit.specs.Receive as Aboard
use Rattle.unit.specs.Send.{done_with}
use Rattle.unit.specs.declared.calls.Called.{Called as CalledAboard}
use Rattle.unit.specs.declared.receive.Received.{Received as ReceivedAboard}
use Rattle.unit.specs.declared.send.Sent.{Sent as SentAboard}
use Rattle.demands.proofs.Refusals.{laid_front}
use Rattle.ends.specs.InOrder.{Setting, Rooms, Met}

-- what was laid at the front of the same room, as many bytes, is the same
same_laid : (out a b : List ℕ) → length a ≡ length b → laid_over out 0 a ≡ laid_over out 0 b → a ≡ b
same_laid out a b size same = sym (laid_front out a) ∙ ap₂ take size same ∙ laid_front out b

module _ (s : Setting) (r : Rooms) (m p : Met s r) where
  planted_same : m.u₀ ≡ p.u₀
  planted_same = ap (λ (x : CalledAboard). x.unit) (sym m.planted_aboard ∙ p.planted_aboard)

  ashore_same : m.c₀ ≡ p.c₀
  ashore_same = ap (λ (x : CalledAshore). x.connection) (sym m.planted_ashore ∙ p.planted_ashore)

  -- the hello
  greeted : done_with (length m.hello) m.u₁ ≡ done_with (length p.hello) p.u₁
  greeted =
      sym m.greets ∙ ap (λ u. hello_sent u s.client s.kinds s.refresh (length r.for_hello)) planted_same ∙ p.greets

  pub same_hello : m.hello ≡ p.hello
  same_hello =
      same_laid r.for_hello m.hello p.hello (ap (λ (x : SentAboard). x.written) greeted)
      (sym m.hello_written ∙ ap (λ u. hello_output u s.client s.kinds s.refresh r.for_hello) planted_same ∙ p.hello_written)

  greeted_same : m.u₁ ≡ p.u₁
  greeted_same = ap (λ (x : SentAboard). x.unit) greeted

  -- the reply
  replied : Ashore.received_of m.c₀ m.hello s.server (length r.for_reply) ≡ Ashore.received_of p.c₀ p.hello s.server (length r.for_reply)
  replied = ap₂ (λ c x. Ashore.received_of c x s.server (length r.for_reply)) ashore_same same_hello

  pub same_reply : m.reply ≡ p.reply
  same_reply =
      same_laid r.for_reply m.reply p.reply (ap (λ (x : ReceivedAshore). x.written) (sym m.replies ∙ replied ∙ p.replies))
      (sym m.reply_written ∙ ap₂ (λ c x. Ashore.output_of c x s.server r.for_reply) ashore_same same_hello ∙ p.reply_written)

  replied_same : m.c₁ ≡ p.c₁
  replied_same = ap (λ (x : ReceivedAshore). x.connection) (sym m.replies ∙ replied ∙ p.replies)

  -- the flight
  opened : Aboard.received_of m.u₁ m.reply (length r.for_flight) ≡ Aboard.received_of p.u₁ p.reply (length r.for_flight)
  opened = ap₂ (λ u x. Aboard.received_of u x (length r.for_flight)) greeted_same same_reply

  pub same_flight : m.flight ≡ p.flight
  same_flight =
      same_laid r.for_flight m.flight p.flight (ap (λ (x : ReceivedAboard). x.written) (sym m.opens ∙ opened ∙ p.opens))
      (sym m.flight_written ∙ ap₂ (λ u x. Aboard.output_of u x r.for_flight) greeted_same same_reply ∙ p.flight_written)

  -- both open
  pub same_unit : m.u₂ ≡ p.u₂
  same_unit = ap (λ (x : ReceivedAboard). x.unit) (sym m.opens ∙ opened ∙ p.opens)

  pub same_shore : m.c₂ ≡ p.c₂
  same_shore =
      ap (λ (x : ReceivedAshore). x.connection)
      (sym m.opens_ashore ∙ ap₂ (λ c x. Ashore.received_of c x r.random (length r.for_none)) replied_same same_flight ∙ p.opens_ashore)
