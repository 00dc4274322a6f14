-- The replacement: only a handshake in Spec answers Open, to a protected record; in Open that is the started one.
use mathlib.Core.Path.{◌≡◌, refl, sym, ◌∙◌, ap, ap₂, subst}
use mathlib.Core.Bool.{Bool, true, false}
use mathlib.Core.List.{List, [], ◌∷◌}
use Prim.Native.Nat.{ℕ}
use native.Mathlib.Omega.{arith}
use Rattle.record.specs.declared.reader.Record.{Record}
use Rattle.connection.specs.Connection.{connection_of}
use Rattle.connection.specs.Handshake.{with_state, none_started}
use Rattle.connection.specs.Asked.{whom_of, asked_of}
use Rattle.connection.specs.Judge.{judged_record, fragment_of}
use Rattle.connection.specs.Told.{sent_after, started_to, told_record}
use Rattle.connection.specs.declared.state.State.TheVariants as S
use Rattle.connection.specs.declared.asked.Whom.{Whom}
use Rattle.connection.specs.declared.asked.Whom.TheVariants as A
use Rattle.connection.specs.declared.answer.Answer.{Answer}
use Rattle.connection.specs.declared.answer.Answer.TheVariants as W
use Rattle.connection.specs.declared.answer.Judged.{Judged}
use Rattle.connection.specs.declared.sent.SentRecords.{SentRecords}
use Rattle.connection.specs.declared.handshake.Handshake.{Handshake}
use Rattle.connection.specs.declared.connection.Connection.{Connection}
use Rattle.demands.specs.Table.{Row}
use Rattle.demands.specs.Table.{row_ended, row_returned, row_not_allowed, row_reply, row_hello_malformed, row_unacceptable, row_resent, row_change, row_change_malformed, row_clear_malformed, row_checksum, row_clear_warning, row_clear_critical, row_clear_fatal, row_forged, row_old, row_repeated, row_malformed, row_data, row_warning, row_critical, row_barred, row_open, row_again, row_wrong_finished}
use Rattle.demands.specs.Asked.{RightBeside, Asks, asks_only, asks_its_hello, asks_open_hello, asks_new_hello, asks_clear, asks_clear_alone, asks_right, asks_protected}
use Rattle.demands.specs.Past.{case_of, among}
use Rattle.demands.specs.Refusals.{marked}
use Rattle.demands.specs.Changes.{Leaves}
use Rattle.demands.specs.Replaced.{ReplacedExactly}
use Rattle.demands.proofs.Genuine.{true_false}
use Rattle.demands.proofs.Table.{row_of}
use Rattle.demands.proofs.Asked.{asks_of, told_by_lem}
use Rattle.demands.proofs.Changes.{leaves}
use Rattle.demands.proofs.Lives.{only_asked}

abbrev opens : Answer → Bool
opens a = among (case_of a) (4 ∷ [])

module _ (h : Handshake) (sent : SentRecords) (random d : List ℕ) (r : Record) where
  -- Open is the answer to a protected record in Spec
  opens_facts : {j : Judged} → Row h sent random d r j → opens j.answer ≡ true → (h.state ≡ S.Spec) × (r.protected ≡ true)
  opens_facts (row_ended e) z = true_false false z refl
  opens_facts (row_returned q) z = true_false false z refl
  opens_facts (row_not_allowed e a n) z = true_false false z refl
  opens_facts (row_reply plan g e) z = true_false false z refl
  opens_facts (row_hello_malformed fault g e) z = true_false false z refl
  opens_facts (row_unacceptable condition g e) z = true_false false z refl
  opens_facts (row_resent s i y e) z = true_false false z refl
  opens_facts (row_change s q c e) z = true_false false z refl
  opens_facts (row_change_malformed s q c e) z = true_false false z refl
  opens_facts (row_clear_malformed s q c e) z = true_false false z refl
  opens_facts (row_checksum a s q c e n) z = true_false false z refl
  opens_facts (row_clear_warning a s q c e m l) z = true_false false z refl
  opens_facts (row_clear_critical a s q c e m l) z = true_false false z refl
  opens_facts (row_clear_fatal a s q c e m l) z = true_false false z refl
  opens_facts (row_forged g f) z = true_false false z refl
  opens_facts (row_old c g s e) z = true_false false z refl
  opens_facts (row_repeated c g s e) z = true_false false z refl
  opens_facts (row_malformed c w n m) z = true_false false z refl
  opens_facts (row_data c w n e m) z = true_false false z refl
  opens_facts (row_warning c w a n e m l) z = true_false false z refl
  opens_facts (row_critical c w a n e m l) z = true_false false z refl
  opens_facts (row_barred c w a n e m l) z = true_false false z refl
  opens_facts (row_open c w n s e m) z = (s, n.guarded.protection)
  opens_facts (row_again c w n s e m) z = true_false false z refl
  opens_facts (row_wrong_finished c w n e m) z = true_false false z refl

module _ (c : Connection) (random d : List ℕ) (r : Record) where
  -- a protected record that is for the started one is right there
  right_there : {w : Whom} → Asks c d r w → w ≡ A.Started → r.protected ≡ true → RightBeside c d r
  right_there (asks_only n) e p = let z : ◌≡◌ {A = ℕ} 0 1 = cc in absurd (omega arith)
  right_there (asks_its_hello o i z s k) e p =
      true_false r.protected p i.clear
  right_there (asks_open_hello o i z n k) e p = let y : ◌≡◌ {A = ℕ} 0 1 = cc in absurd (omega arith)
  right_there (asks_new_hello o i z n k) e p = let y : ◌≡◌ {A = ℕ} 0 1 = cc in absurd (omega arith)
  right_there (asks_clear o q n s) e p = true_false r.protected p q
  right_there (asks_clear_alone o q n s) e p = let z : ◌≡◌ {A = ℕ} 0 1 = cc in absurd (omega arith)
  right_there (asks_right q) e p = q
  right_there (asks_protected o q n) e p = let z : ◌≡◌ {A = ℕ} 0 1 = cc in absurd (omega arith)

  abbrev by : Whom → Judged
  by w = judged_record (asked_of c w) c.sent random d r

  facts_of : (w : Whom) → (by w).answer ≡ W.Open → ((asked_of c w).state ≡ S.Spec) × (r.protected ≡ true)
  facts_of w e = opens_facts (asked_of c w) c.sent random d r (row_of (asked_of c w) c.sent random d r) (ap opens e)

  -- where the started one goes
  abbrev goes : Handshake → Answer → Connection
  goes h a = started_to c h (sent_after c.sent h.kept a) h.state

  by_whom : c.handshake.state ≡ S.Open → (w : Whom) → whom_of c d r ≡ w → (by w).answer ≡ W.Open
      → RightBeside c d r × ((told_record c random d r).connection ≡ connection_of (with_state (marked c.started r.number) S.Open) none_started c.sent)
  by_whom o A.Only e a = absurd (only_asked c d r (subst (Asks c d r) e (asks_of c d r)) refl o)
  by_whom o A.Open e a =
      let z : S.Open ≡ S.Spec = sym o ∙ (facts_of A.Open a).0 in let n : ◌≡◌ {A = ℕ} 0 1 = cc in absurd (omega arith)
  by_whom o A.Started e a =
      let left : (by A.Started).handshake ≡ with_state (marked c.started r.number) S.Open
      = subst (Leaves c.started random (fragment_of d r) r.protected r.number (by A.Started).handshake) a
      (leaves c.started c.sent random d r (row_of c.started c.sent random d r)) in (
        right_there (subst (Asks c d r) e (asks_of c d r)) refl (facts_of A.Started a).1,
        ap (λ t. t.connection) (told_by_lem c random d r A.Started e) ∙ ap₂ goes left a,
      )
  by_whom o A.Newcomer e a =
      let z : S.Idle ≡ S.Spec = (facts_of A.Newcomer a).0 in let n : ◌≡◌ {A = ℕ} 0 1 = cc in absurd (omega arith)

pub replaced_exactly : ReplacedExactly
unfolding ReplacedExactly
replaced_exactly c random d r o e =
    by_whom c random d r o (whom_of c d r) refl (sym (ap (λ t. t.answer) (told_by_lem c random d r (whom_of c d r) refl)) ∙ e)
