-- Demand 2 at the shipboard end: data is handed out only after the shore's Finished was verified in that handshake (02, P7: "verify our
-- Finished").
use Rattle.std.specs.Prelude.{◌≡◌, false, List, [], ◌∷◌, ◌++◌, ℕ, Ok}
use Rattle.record.specs.declared.header.Content.TheVariants as C
use Rattle.record.specs.declared.reader.Record.{Record}
use Rattle.message.specs.Agreement.{agreement_of}
use Rattle.message.specs.Finished.{server_verify, judged_of}
use Rattle.message.specs.Offer.{offer_hello}
use Rattle.message.specs.declared.acceptance.Plan.{Plan}
use Rattle.message.specs.declared.offer.Offer.{Offer}
use Rattle.unit.specs.Answer.{as_ashore}
use Rattle.unit.specs.Judge.{judged_record}
use Rattle.unit.specs.declared.answer.Answer.TheVariants.{Open}
use Rattle.demands.specs.Past.{shuts}
use Rattle.demands.specs.Ship.Genuine.{Protected}
use Rattle.demands.specs.Ship.Events.{Event, after, Happened, answered, greeted, said_again, wrote, closed, started, refused, history}
use Rattle.demands.specs.Ship.Runs.{fresh_ship}
use Rattle.demands.specs.Ship.HandedOut.{HandsOut}
use Rattle.demands.specs.Ship.Past.{is_hello, read, last_read, keys_for}

-- no hello, no ServerHello, no closing and no start
abbrev pub Quiet : List Happened → Type 0
Quiet [] = Unit
Quiet (answered d r a ∷ past) = (is_hello a ≡ false) × (shuts (as_ashore a) ≡ false) × Quiet past
Quiet (greeted random macs refresh bytes ∷ past) = ⊥
Quiet (said_again bytes ∷ past) = Quiet past
Quiet (wrote protected bytes ∷ past) = Quiet past
Quiet (closed ∷ past) = ⊥
Quiet (started ∷ past) = ⊥
Quiet (refused ∷ past) = Quiet past

-- The shore's Finished was verified: an answer Open, to a protected handshake record whose code is right under the keys of the last two
-- hellos before it, and whose contents are those of "server finished" over the very messages of this run: the hello that we wrote and
-- the ServerHello that answered it.
pub record Verified (id secret : List ℕ) (past : List Happened) : Type 0 where
  pub between : List Happened
  pub d : List ℕ
  pub r : Record
  pub size : ℕ
  pub before : List Happened
  pub split : past ≡ between ++ (answered d r (Open size) ∷ before)
  pub quiet : Quiet between
  pub random : List ℕ
  pub offer : Offer
  pub m : List ℕ
  pub replied : last_read before ≡ read random offer m
  pub plan : Plan
  pub agreed : agreement_of m id offer ≡ Ok plan
  pub handshake : r.content ≡ C.Handshake
  pub c : List ℕ
  pub coded : Protected (keys_for secret random m plan) d r c
  pub finished : judged_of c (server_verify secret (offer_hello random id offer) m) ≡ Ok tt

unfoldable pub OnlyAfterFinished : Type 0
OnlyAfterFinished =
    (id secret : List ℕ) (width : ℕ) (es : List Event) (d : List ℕ) (r : Record)
    → HandsOut (judged_record (after (fresh_ship id secret width) es) d r).answer
    → Verified id secret (history (fresh_ship id secret width) es [])
