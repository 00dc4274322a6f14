-- Hellos of one layout are answered alike: each greeting is a row of the table by what is heard of it, which is the same; and
-- the size of a reply is told by the MAC kind alone.
use mathlib.Core.Path.{◌≡◌, refl, sym, ◌∙◌, ap}
use mathlib.Core.List.{List}
use Prim.Native.Nat.{ℕ}
use lib.ListN.{length}
use Rattle.record.specs.declared.reader.Record.{Record}
use Rattle.message.specs.Values.{Values}
use Rattle.message.specs.Acceptance.{heard_of}
use Rattle.message.specs.Blank.{blanked}
use Rattle.message.specs.declared.acceptance.Unheard.TheVariants as H
use Rattle.message.proofs.Blanks.{alike_sound, alike_heard, heard_alike}
use Rattle.message.proofs.SetsSaid.{sets_as_written}
use Rattle.connection.specs.Handshake.{planted}
use Rattle.connection.specs.Judge.{judged_record, fragment_of}
use Rattle.connection.specs.declared.answer.Answer.TheVariants as W
use Rattle.connection.specs.declared.answer.Judged.{Judged}
use Rattle.connection.specs.declared.handshake.Handshake.{Handshake}
use Rattle.connection.proofs.Replying.{reply_size_lem}
use Rattle.demands.specs.Seen.{seen_in}
use Rattle.demands.specs.Table.{Greets, row_reply, row_hello_malformed, row_unacceptable}
use Rattle.demands.specs.Sets.{Brings, AnsweredAlike, Sets}
use Rattle.demands.proofs.Table.{row_is}
use Rattle.connection.specs.declared.sent.SentRecords.{SentRecords}
use Rattle.std.specs.Prelude.{Err, Ok, Result}
use Rattle.message.specs.declared.acceptance.Plan.{Plan}
use Rattle.message.specs.declared.acceptance.Unheard.{Unheard}

module _ (h : Handshake) (sent : SentRecords) (random d e : List ℕ) (r q : Record) (lr : length random ≡ 16) (li : length h.id ≡ 8)
    (g : Greets h (seen_in d r)) (k : Greets h (seen_in e q)) where
  by_heard : (x : Result Plan Unheard) → heard_of (fragment_of d r) h.id ≡ x → heard_of (fragment_of e q) h.id ≡ x
      → (judged_record h sent random d r).answer ≡ (judged_record h sent random e q).answer
  by_heard (Ok plan) a b =
      ap (λ (j : Judged). j.answer) (row_is h sent random d r (row_reply plan g a))
      ∙ ap W.Reply
      (reply_size_lem (planted h) random (fragment_of d r) plan lr li ∙ sym (reply_size_lem (planted h) random (fragment_of e q) plan lr li))
      ∙ sym (ap (λ (j : Judged). j.answer) (row_is h sent random e q (row_reply plan k b)))
  by_heard (Err (H.Malformed fault)) a b =
      ap (λ (j : Judged). j.answer) (row_is h sent random d r (row_hello_malformed fault g a))
      ∙ sym (ap (λ (j : Judged). j.answer) (row_is h sent random e q (row_hello_malformed fault k b)))
  by_heard (Err (H.Unacceptable condition)) a b =
      ap (λ (j : Judged). j.answer) (row_is h sent random d r (row_unacceptable condition g a))
      ∙ sym (ap (λ (j : Judged). j.answer) (row_is h sent random e q (row_unacceptable condition k b)))

answered : (h : Handshake) (sent : SentRecords) (random d e : List ℕ) (r q : Record) (v w : Values)
    → length random ≡ 16
    → length h.id ≡ 8
    → blanked v ≡ blanked w
    → Brings d r v
    → Brings e q w
    → Greets h (seen_in d r)
    → Greets h (seen_in e q)
    → (judged_record h sent random d r).answer ≡ (judged_record h sent random e q).answer
answered h sent random d e r q v w lr li same x y g k =
    by_heard h sent random d e r q lr li g k (heard_of (fragment_of d r) h.id) refl
    (ap (λ (m : List ℕ). heard_of m h.id) y.message
    ∙ sym (alike_heard v w h.id same x.sound y.sound)
    ∙ sym (ap (λ (m : List ℕ). heard_of m h.id) x.message))

pub answered_alike : AnsweredAlike
answered_alike = record { sound = alike_sound; answered = answered }

pub sets : Sets
sets = record { as_written = sets_as_written; heard_alike = heard_alike; answered_alike = answered_alike }
