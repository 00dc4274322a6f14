-- What the shore gives on a datagram and on a send, from the rows of the demands.
use mathlib.Core.Path.{◌≡◌, ◌∙◌, ap, ap₂}
use mathlib.Core.Bool.{true}
use mathlib.Core.List.{List, []}
use Prim.Native.Nat.{ℕ, ◌+◌, ◌≤◌}
use lib.ListN.{length, take}
use Rattle.digest.specs.Bytes.{laid_over}
use Rattle.digest.specs.Mac.{size_of}
use Rattle.record.specs.Datagram.{framed, framing_of}
use Rattle.record.specs.declared.header.Content.TheVariants as C
use Rattle.record.specs.declared.reader.Record.{Record}
use Rattle.connection.specs.Receive.{received_of, output_of, first_reply, slots_of}
use Rattle.connection.specs.Send.{data_sent, data_output, next_protected, after_send}
use Rattle.connection.specs.declared.answer.Answer.{Answer}
use Rattle.connection.specs.declared.answer.Slot.{Slot}
use Rattle.connection.specs.declared.connection.Connection.{Connection}
use Rattle.connection.specs.declared.receive.Untaken.TheVariants as T
use Rattle.connection.specs.declared.state.State.TheVariants as S
use Rattle.demands.specs.Runs.{Returned, received, sent, called, Step, step_of}
use Rattle.demands.specs.Calls.{Chain, GoodData, data_sent_lem}
use Rattle.demands.proofs.Calls.{by_chain, call_is}
use Rattle.demands.proofs.Refusals.{laid_front}
use Rattle.std.specs.Prelude.{Ok, ⊤, Result}
use Rattle.connection.specs.declared.receive.Untaken.{Untaken}
use Rattle.connection.specs.declared.refusal.Refusal.{Refusal}

-- what stands in a result
abbrev taken_in : Returned → Result ℕ Untaken
taken_in (received taken answers written) = taken
taken_in (sent outcome written) = Ok 0
taken_in (called outcome) = Ok 0

abbrev slots_in : Returned → List Slot
slots_in (received taken answers written) = answers
slots_in (sent outcome written) = []
slots_in (called outcome) = []

abbrev written_in : Returned → ℕ
written_in (received taken answers written) = written
written_in (sent outcome written) = written
written_in (called outcome) = 0

abbrev outcome_in : Returned → Result ⊤ Refusal
outcome_in (received taken answers written) = Ok tt
outcome_in (sent outcome written) = outcome
outcome_in (called outcome) = outcome

-- ---- receive

module _ (c : Connection) (d random out : List ℕ) (rs : List Record) (answers : List Answer) (left : Connection) (lr : length random ≡ 16)
    (lo : 128 ≤ length out) (f : framing_of d ≡ framed rs) (chain : Chain random d c rs answers left) where
  pub record Took : Type 0 where
    pub gives : received_of c d random (length out)
        ≡ record { taken = Ok (length rs); answers = slots_of answers; written = length (first_reply c random d rs); connection = left }
    pub writes : output_of c d random out ≡ laid_over out 0 (first_reply c random d rs)

  pub took : Took
  unfolding step_of
  took =
      let e = call_is c (by_chain c {out = out} lr lo f chain) in
      record {
        gives = λ i. record { taken = taken_in (e i).result; answers = slots_in (e i).result; written = written_in (e i).result; connection = (e i).connection };
        writes = ap (λ (s : Step). s.output) e;
      }

-- ---- send data

module _ (c : Connection) (bytes out : List ℕ) (good : GoodData bytes) (is_open : c.handshake.state ≡ S.Open)
    (few : c.handshake.protection.protected ≤ 65535) (room : 3 + length bytes + size_of c.handshake.protection.keys.mac ≤ length out) where
  abbrev next : List ℕ
  next = next_protected c.handshake C.Data bytes

  pub record Sent : Type 0 where
    pub done : (data_sent c bytes (length out)).outcome ≡ Ok tt
    pub leaves : (data_sent c bytes (length out)).connection ≡ after_send true c next
    pub datagram : take (data_sent c bytes (length out)).written (data_output c bytes out) ≡ next

  pub sends : Sent
  unfolding step_of
  sends =
      let e = call_is c (data_sent_lem {bytes = bytes} {out = out} good is_open few room) in
      record {
        done = ap (λ (s : Step). outcome_in s.result) e;
        leaves = ap (λ (s : Step). s.connection) e;
        datagram = ap₂ take (ap (λ (s : Step). written_in s.result) e) (ap (λ (s : Step). s.output) e) ∙ laid_front out next;
      }
