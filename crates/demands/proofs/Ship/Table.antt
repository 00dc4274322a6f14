-- The unit's table holds. The idea: the rule of a record decides what is tested next; each way out of the tests is a row, and each row
-- leads the tests to its end.
use mathlib.Core.Path.{◌≡◌, refl, sym, ◌∙◌, ap, ap₂, subst}
use mathlib.Core.Logic.{◌⊎◌, inl, inr}
use mathlib.Core.Bool.{Bool, true, false}
use mathlib.Core.List.{List}
use Prim.Native.Nat.{ℕ, ◌+◌}
use native.Mathlib.Omega.{arith}
use lib.ListN.{length, get_or, take}
use lib.Seq.{take_at}
use lib.Dec.{eqb}
use borrow.Author.Tests.{eq-eqb, ne_eqb, eqb-true, eqb-false}
use Rattle.digest.specs.Pick.{pick}
use Rattle.digest.specs.Hmac.{hmac}
use Rattle.digest.specs.Mac.{size_of}
use Rattle.record.specs.Code.{fragment_by, code_by}
use Rattle.record.specs.Protection.{opened_to}
use Rattle.record.specs.Window.{accept_of, emptied}
use Rattle.record.specs.declared.header.Content.{Content}
use Rattle.record.specs.declared.header.Content.TheVariants as C
use Rattle.record.specs.declared.keys.Sense.TheVariants.{FromShore}
use Rattle.record.specs.declared.window.Window.{Window}
use Rattle.record.specs.declared.window.NotNew.TheVariants as A
use Rattle.record.specs.declared.protection.Opening.{Opening}
use Rattle.record.specs.declared.reader.Record.{Record}
use Rattle.record.proofs.Protected.{coded_opens, uncoded_forged}
use Rattle.message.specs.Agreement.{agreement_of}
use Rattle.message.specs.Alert.{alert_of, description_number}
use Rattle.message.specs.Change.{is_change}
use Rattle.message.specs.Finished.{judged_of}
use Rattle.message.specs.Request.{is_request}
use Rattle.message.specs.declared.agreement.Disagreed.TheVariants as G
use Rattle.message.specs.declared.alert.Alert.{Alert}
use Rattle.message.specs.declared.alert.Level.{Level}
use Rattle.message.specs.declared.alert.Level.TheVariants as L
use Rattle.message.specs.declared.finished.Unverified.TheVariants as F
use Rattle.connection.specs.Judge.{fragment_of}
use Rattle.connection.specs.Sent.{matches_of}
use Rattle.connection.specs.declared.refusal.Refusal.TheVariants as X
use Rattle.unit.specs.State.{kind_of, rule_of, settled}
use Rattle.unit.specs.Step.{step, refusing}
use Rattle.unit.specs.Clear.{request_in, changed_by, by_level, heard_by, heard_alert, requested_by}
use Rattle.unit.specs.Protected.{finished_in, verified_to, verified_by, handshake_by, warned, protected_level, alerted_to, alerted_by, content_by, unprotected_to, unprotected_by}
use Rattle.unit.specs.Unit.{with_state, with_window, left_by}
use Rattle.unit.specs.Agree.{agreed_to, agreed_by, judged}
use Rattle.unit.specs.Judge.{kind_in, step_by, stepped_by, ruled_by, judged_record}
use Rattle.unit.specs.declared.state.State.{State}
use Rattle.unit.specs.declared.state.State.TheVariants as S
use Rattle.unit.specs.declared.state.Kind.{Kind}
use Rattle.unit.specs.declared.state.Kind.TheVariants as K
use Rattle.unit.specs.declared.state.Rule.{Rule}
use Rattle.unit.specs.declared.state.Rule.TheVariants as T
use Rattle.unit.specs.declared.step.Move.TheVariants.{Stay, Settle, Change}
use Rattle.unit.specs.declared.step.Step.{Step}
use Rattle.unit.specs.declared.answer.Answer.{Answer}
use Rattle.unit.specs.declared.answer.Answer.TheVariants as W
use Rattle.unit.specs.declared.agree.Judged.{Judged}
use Rattle.unit.specs.declared.unit.Unit.{Unit as Ship}
use Rattle.demands.specs.Ship.Genuine.{Protected, shore_key}
use Rattle.demands.specs.Ship.Table.{Midway, Up, Outside, Over, Ruled, New, Stays, Shuts, Marked, Row, TableHolds}
use Rattle.demands.specs.Ship.Table.{at_end, not_allowed, not_first, forged, too_old, repeated, bad_hello, bad_request, bad_change, bad_alert, unacceptable, checksum, ignored_request, reported_request, warning}
use Rattle.demands.specs.Ship.Table.{critical, fatal, no_change, no_alert, no_message, no_data, some_data, protected_warning, repeated_finished, protected_critical, protected_ignored, protected_reported, finished_again, wrong_finished}
use Rattle.demands.specs.Ship.Table.{row_stays, row_shuts, row_hello, row_change, row_marked, row_opens, row_bars}
use Rattle.demands.proofs.Genuine.{true_false}
use Rattle.demands.proofs.Ship.Genuine.{coded-or-not}
use Rattle.std.specs.Prelude.{Err, None, Ok, Option, Result, Some, ⊤}
use Rattle.message.specs.declared.acceptance.Plan.{Plan}
use Rattle.message.specs.declared.agreement.Disagreed.{Disagreed}
use Rattle.message.specs.declared.finished.Unverified.{Unverified}
use Rattle.record.specs.declared.window.NotNew.{NotNew}

-- ---- what a rule of the table says of the state and of the kind

-- the kinds that are protected; the table opens alerts and handshake records in Spec, and all four in Opening and Open
pub data Guards : State → Kind → Type 0 where
  spec-alert : Guards S.Spec K.ProtectedAlert
  spec-handshake : Guards S.Spec K.ProtectedHandshake
  up-change : {s : State} → Up s → Guards s K.ProtectedChange
  up-alert : {s : State} → Up s → Guards s K.ProtectedAlert
  up-handshake : {s : State} → Up s → Guards s K.ProtectedHandshake
  up-data : {s : State} → Up s → Guards s K.ProtectedData

-- states in which a HelloRequest is heard
pub Live : State → Type 0
Live s = Over s → ⊥

pub lives : (s : State) → (s ≡ S.Closed → ⊥) → (s ≡ S.Barred → ⊥) → Live s
unfolding Live
lives s a b (inl e) = a e
lives s a b (inr e) = b e

-- one of the two states
abbrev pub Says : State → Kind → Rule → Type 0
Says s k T.Ended = Over s
Says s k T.NotAllowed = Live s
Says s k T.Agree = Midway s × (k ≡ K.ClearHello)
Says s k T.Request = Live s × (k ≡ K.ClearRequest)
Says s k T.Change = (s ≡ S.Replied) × (k ≡ K.ClearChange)
Says s k T.Hear = Midway s × (k ≡ K.ClearAlert)
Says s k T.Unprotect = Guards s k

idle-live : Live S.Idle
unfolding Live
idle-live (inl e) = let z : ◌≡◌ {A = ℕ} 0 1 = cc in omega arith
idle-live (inr e) = let z : ◌≡◌ {A = ℕ} 0 1 = cc in omega arith

sent-live : Live S.Sent
unfolding Live
sent-live (inl e) = let z : ◌≡◌ {A = ℕ} 0 1 = cc in omega arith
sent-live (inr e) = let z : ◌≡◌ {A = ℕ} 0 1 = cc in omega arith

replied-live : Live S.Replied
unfolding Live
replied-live (inl e) = let z : ◌≡◌ {A = ℕ} 0 1 = cc in omega arith
replied-live (inr e) = let z : ◌≡◌ {A = ℕ} 0 1 = cc in omega arith

spec-live : Live S.Spec
unfolding Live
spec-live (inl e) = let z : ◌≡◌ {A = ℕ} 0 1 = cc in omega arith
spec-live (inr e) = let z : ◌≡◌ {A = ℕ} 0 1 = cc in omega arith

opening-live : Live S.Opening
unfolding Live
opening-live (inl e) = let z : ◌≡◌ {A = ℕ} 0 1 = cc in omega arith
opening-live (inr e) = let z : ◌≡◌ {A = ℕ} 0 1 = cc in omega arith

open-live : Live S.Open
unfolding Live
open-live (inl e) = let z : ◌≡◌ {A = ℕ} 0 1 = cc in omega arith
open-live (inr e) = let z : ◌≡◌ {A = ℕ} 0 1 = cc in omega arith

pub rule-says : (s : State) (k : Kind) → Says s k (rule_of s k)
rule-says S.Idle K.ClearHello = idle-live
rule-says S.Idle K.ClearRequest = (idle-live, refl)
rule-says S.Idle K.ClearChange = idle-live
rule-says S.Idle K.ClearAlert = idle-live
rule-says S.Idle K.OtherClear = idle-live
rule-says S.Idle K.ProtectedChange = idle-live
rule-says S.Idle K.ProtectedAlert = idle-live
rule-says S.Idle K.ProtectedHandshake = idle-live
rule-says S.Idle K.ProtectedData = idle-live
rule-says S.Sent K.ClearHello = (inl refl, refl)
rule-says S.Sent K.ClearRequest = (sent-live, refl)
rule-says S.Sent K.ClearChange = sent-live
rule-says S.Sent K.ClearAlert = (inl refl, refl)
rule-says S.Sent K.OtherClear = sent-live
rule-says S.Sent K.ProtectedChange = sent-live
rule-says S.Sent K.ProtectedAlert = sent-live
rule-says S.Sent K.ProtectedHandshake = sent-live
rule-says S.Sent K.ProtectedData = sent-live
rule-says S.Replied K.ClearHello = (inr (inl refl), refl)
rule-says S.Replied K.ClearRequest = (replied-live, refl)
rule-says S.Replied K.ClearChange = (refl, refl)
rule-says S.Replied K.ClearAlert = (inr (inl refl), refl)
rule-says S.Replied K.OtherClear = replied-live
rule-says S.Replied K.ProtectedChange = replied-live
rule-says S.Replied K.ProtectedAlert = replied-live
rule-says S.Replied K.ProtectedHandshake = replied-live
rule-says S.Replied K.ProtectedData = replied-live
rule-says S.Spec K.ClearHello = (inr (inr refl), refl)
rule-says S.Spec K.ClearRequest = (spec-live, refl)
rule-says S.Spec K.ClearChange = spec-live
rule-says S.Spec K.ClearAlert = (inr (inr refl), refl)
rule-says S.Spec K.OtherClear = spec-live
rule-says S.Spec K.ProtectedChange = spec-live
rule-says S.Spec K.ProtectedAlert = spec-alert
rule-says S.Spec K.ProtectedHandshake = spec-handshake
rule-says S.Spec K.ProtectedData = spec-live
rule-says S.Opening K.ClearHello = opening-live
rule-says S.Opening K.ClearRequest = (opening-live, refl)
rule-says S.Opening K.ClearChange = opening-live
rule-says S.Opening K.ClearAlert = opening-live
rule-says S.Opening K.OtherClear = opening-live
rule-says S.Opening K.ProtectedChange = up-change (inl refl)
rule-says S.Opening K.ProtectedAlert = up-alert (inl refl)
rule-says S.Opening K.ProtectedHandshake = up-handshake (inl refl)
rule-says S.Opening K.ProtectedData = up-data (inl refl)
rule-says S.Open K.ClearHello = open-live
rule-says S.Open K.ClearRequest = (open-live, refl)
rule-says S.Open K.ClearChange = open-live
rule-says S.Open K.ClearAlert = open-live
rule-says S.Open K.OtherClear = open-live
rule-says S.Open K.ProtectedChange = up-change (inr refl)
rule-says S.Open K.ProtectedAlert = up-alert (inr refl)
rule-says S.Open K.ProtectedHandshake = up-handshake (inr refl)
rule-says S.Open K.ProtectedData = up-data (inr refl)
rule-says S.Closed k = inl refl
rule-says S.Barred k = inr refl

pub ruled-says : (u : Ship) (d : List ℕ) (r : Record) (rule : Rule) → Ruled u d r rule → Says u.state (kind_in d r) rule
ruled-says u d r rule e = subst (Says u.state (kind_in d r)) e (rule-says u.state (kind_in d r))

-- ---- what is opened is protected

abbrev pub protected_kind : Kind → Bool
protected_kind K.ClearHello = false
protected_kind K.ClearRequest = false
protected_kind K.ClearChange = false
protected_kind K.ClearAlert = false
protected_kind K.OtherClear = false
protected_kind K.ProtectedChange = true
protected_kind K.ProtectedAlert = true
protected_kind K.ProtectedHandshake = true
protected_kind K.ProtectedData = true

pub kind_protected : (c : Content) (p : Bool) (first : ℕ) → protected_kind (kind_of c p first) ≡ p
kind_protected C.ChangeCipherSpec true first = refl
kind_protected C.ChangeCipherSpec false first = refl
kind_protected C.Alert true first = refl
kind_protected C.Alert false first = refl
kind_protected C.Handshake true first = refl
kind_protected C.Handshake false first = told (eqb first 2) (eqb first 0)
  where
    told : (a b : Bool) → protected_kind (pick a K.ClearHello (pick b K.ClearRequest K.OtherClear)) ≡ false
    told true b = refl
    told false true = refl
    told false false = refl
kind_protected C.Data true first = refl
kind_protected C.Data false first = refl

guards-protected : (s : State) (k : Kind) → Guards s k → protected_kind k ≡ true
guards-protected s K.ClearHello x' = elim x' [ ]
guards-protected s K.ClearRequest x'' = elim x'' [ ]
guards-protected s K.ClearChange x3 = elim x3 [ ]
guards-protected s K.ClearAlert x4 = elim x4 [ ]
guards-protected s K.OtherClear x5 = elim x5 [ ]
guards-protected S.Spec K.ProtectedAlert spec-alert = refl
guards-protected S.Spec K.ProtectedHandshake spec-handshake = refl
guards-protected s K.ProtectedChange (up-change e) = refl
guards-protected s K.ProtectedAlert (up-alert e) = refl
guards-protected s K.ProtectedHandshake (up-handshake e) = refl
guards-protected s K.ProtectedData (up-data e) = refl

-- what is opened is opened in Spec, Opening or Open, data in the last two
guards-state : (s : State) (k : Kind) → Guards s k → (s ≡ S.Spec) ⊎ Up s
guards-state s K.ClearHello x' = elim x' [ ]
guards-state s K.ClearRequest x'' = elim x'' [ ]
guards-state s K.ClearChange x3 = elim x3 [ ]
guards-state s K.ClearAlert x4 = elim x4 [ ]
guards-state s K.OtherClear x5 = elim x5 [ ]
guards-state S.Spec K.ProtectedAlert spec-alert = inl refl
guards-state S.Spec K.ProtectedHandshake spec-handshake = inl refl
guards-state s K.ProtectedChange (up-change x) = inr x
guards-state s K.ProtectedAlert (up-alert x) = inr x
guards-state s K.ProtectedHandshake (up-handshake x) = inr x
guards-state s K.ProtectedData (up-data x) = inr x

pub data-up : (s : State) (k : Kind) → k ≡ K.ProtectedData → Guards s k → Up s
data-up s K.ClearHello e x'' = elim x'' [ ]
data-up s K.ClearRequest e x3 = elim x3 [ ]
data-up s K.ClearChange e x4 = elim x4 [ ]
data-up s K.ClearAlert e x5 = elim x5 [ ]
data-up s K.OtherClear e x6 = elim x6 [ ]
data-up S.Spec K.ProtectedAlert e spec-alert = let z : ◌≡◌ {A = ℕ} 0 1 = cc in absurd (omega arith)
data-up S.Spec K.ProtectedHandshake e spec-handshake = let z : ◌≡◌ {A = ℕ} 0 1 = cc in absurd (omega arith)
data-up s K.ProtectedChange e (up-change o) = o
data-up s K.ProtectedAlert e (up-alert o) = o
data-up s K.ProtectedHandshake e (up-handshake o) = o
data-up s K.ProtectedData e (up-data o) = o

-- ---- what the unit's own words for outcomes come to

ignored-in : (s : State) → Midway s → request_in s ≡ W.Ignored
ignored-in s (inl e) = ap request_in e
ignored-in s (inr (inl e)) = ap request_in e
ignored-in s (inr (inr e)) = ap request_in e

reported-in : (s : State) → Outside s → request_in s ≡ W.Request
reported-in s (inl e) = ap request_in e
reported-in s (inr (inl e)) = ap request_in e
reported-in s (inr (inr e)) = ap request_in e

settled-open : (s : State) → Up s → settled s ≡ S.Open
settled-open s (inl e) = ap settled e
settled-open s (inr e) = ap settled e

settled-spec : (s : State) → s ≡ S.Spec → settled s ≡ s
settled-spec s e = ap settled e ∙ sym e

module _ (u : Ship) (d : List ℕ) (r : Record) where
  pub is-protected-kind : protected_kind (kind_in d r) ≡ r.protected
  is-protected-kind = kind_protected r.content r.protected (get_or (fragment_of d r) 0 0)

  pub ruled-protected : Ruled u d r T.Unprotect → r.protected ≡ true
  ruled-protected e = sym is-protected-kind ∙ guards-protected u.state (kind_in d r) (ruled-says u d r T.Unprotect e)

  -- a rule that is known
  abbrev ruled_as : Rule → Judged
  ruled_as rule = ruled_by u rule (kind_in d r) r.byte r.number r.start (r.start + r.head) (fragment_of d r)

  ruled_is : (rule : Rule) → Ruled u d r rule → judged_record u d r ≡ ruled_as rule
  unfolding judged_record
  ruled_is rule e = ap ruled_as e

  -- ---- what the tests give, each rule

  ended_is : ruled_as T.Ended ≡ judged (W.Refused X.Ended) u
  unfolding ruled_by step_by left_by
  ended_is = refl

  not_allowed_is : ruled_as T.NotAllowed ≡ judged (W.Refused X.NotAllowed) u
  unfolding ruled_by step_by left_by
  not_allowed_is = refl

  agree-is : (b : Bool) → eqb r.start 0 ≡ b
      → ruled_as T.Agree ≡ pick b (agreed_to u (fragment_of d r) (agreement_of (fragment_of d r) u.id u.offer)) (judged (W.Refused X.NotAllowed) u)
  unfolding ruled_by step_by left_by agreed_by
  agree-is b e = ap (λ x. pick x (agreed_to u (fragment_of d r) (agreement_of (fragment_of d r) u.id u.offer)) (judged (W.Refused X.NotAllowed) u)) e

  request-is : (b : Bool) → is_request (fragment_of d r) ≡ b
      → ruled_as T.Request ≡ pick b (judged (request_in u.state) u) (judged (W.Refused X.Malformed) u)
  unfolding ruled_by step_by left_by requested_by
  request-is true e =
      ap (λ x. stepped_by u (pick x (step (request_in u.state) u.protection.window Stay) (refusing u.protection.window X.Malformed))) e
  request-is false e =
      ap (λ x. stepped_by u (pick x (step (request_in u.state) u.protection.window Stay) (refusing u.protection.window X.Malformed))) e

  change-is : (b : Bool) → is_change (fragment_of d r) ≡ b
      → ruled_as T.Change ≡ pick b (judged W.Spec (with_state (with_window u (emptied u.protection.window)) S.Spec)) (judged (W.Refused X.Malformed) u)
  unfolding ruled_by step_by left_by changed_by
  change-is true e = ap (λ x. stepped_by u (pick x (step W.Spec (emptied u.protection.window) Change) (refusing u.protection.window X.Malformed))) e
  change-is false e = ap (λ x. stepped_by u (pick x (step W.Spec (emptied u.protection.window) Change) (refusing u.protection.window X.Malformed))) e

  hear-is : (x : Option Alert) → alert_of (fragment_of d r) ≡ x → ruled_as T.Hear ≡ stepped_by u (heard_by u.sent u.protection.window x)
  unfolding ruled_by step_by heard_alert
  hear-is x e = ap (λ y. stepped_by u (heard_by u.sent u.protection.window y)) e

  abbrev windowed_to : List ℕ → Kind → Result (Window × ℕ) NotNew → Step
  windowed_to c k (Err A.TooOld) = refusing u.protection.window X.TooOld
  windowed_to c k (Err A.Repeated) = refusing u.protection.window X.Repeated
  windowed_to c k (Ok (w, n)) = content_by w u.protection.keys.mac u.expected u.state k r.number (r.start + r.head) c

  front_is : (c : List ℕ) → Protected u.protection.keys d r c → take (length c) (fragment_of d r) ≡ c
  unfolding fragment_by
  front_is c s =
      ap (take (length c)) s.is_coded
      ∙ take_at c (code_by (hmac (shore_key u.protection.keys r.number)) (size_of u.protection.keys.mac) r.number r.byte c) (length c) refl

  abbrev unprotected_as : Opening → Step
  unprotected_as o =
      unprotected_to u.protection u.expected u.state (kind_in d r) r.number (r.start + r.head) (fragment_of d r) o.protection o.opened

  opened-is : (c : List ℕ) → Protected u.protection.keys d r c → (x : Result (Window × ℕ) NotNew)
      → unprotected_as (opened_to u.protection (length c) x) ≡ windowed_to c (kind_in d r) x
  opened-is c s (Err A.TooOld) = refl
  opened-is c s (Err A.Repeated) = refl
  opened-is c s (Ok (w, n)) =
      ap (content_by w u.protection.keys.mac u.expected u.state (kind_in d r) r.number (r.start + r.head)) (front_is c s)

  unprotect-is : (c : List ℕ) → Protected u.protection.keys d r c → (x : Result (Window × ℕ) NotNew) → accept_of u.protection.window r.number ≡ x
      → ruled_as T.Unprotect ≡ stepped_by u (windowed_to c (kind_in d r) x)
  unfolding ruled_by step_by unprotected_by
  unprotect-is c s x e =
      ap (λ o. stepped_by u (unprotected_as o))
      (coded_opens u.protection FromShore r.number r.byte (fragment_of d r) c s.is_coded ∙ ap (opened_to u.protection (length c)) e)
      ∙ ap (stepped_by u) (opened-is c s x)

  forged_is : r.protected ≡ true → ((c : List ℕ) → Protected u.protection.keys d r c → ⊥) → ruled_as T.Unprotect ≡ judged (W.Refused X.Forged) u
  unfolding ruled_by step_by unprotected_by left_by
  forged_is p never =
      ap (λ o. stepped_by u (unprotected_as o))
      (uncoded_forged u.protection FromShore r.number r.byte (fragment_of d r) (λ c e. never c (record { is_protected = p; is_coded = e })))

  -- ---- every record has a row

  agree-row : Ruled u d r T.Agree → r.start ≡ 0 → (x : Result Plan Disagreed) → agreement_of (fragment_of d r) u.id u.offer ≡ x
      → Row u d r (agreed_to u (fragment_of d r) x)
  agree-row e z (Ok plan) q = row_hello plan e z q
  agree-row e z (Err (G.Unacceptable term)) q = row_stays (unacceptable term e z q)
  agree-row e z (Err G.Malformed) q = row_stays (bad_hello e z q)

  first_row : Ruled u d r T.Agree → (b : Bool) → eqb r.start 0 ≡ b
      → Row u d r (pick b (agreed_to u (fragment_of d r) (agreement_of (fragment_of d r) u.id u.offer)) (judged (W.Refused X.NotAllowed) u))
  first_row e true b = agree-row e (eqb-true r.start 0 b) (agreement_of (fragment_of d r) u.id u.offer) refl
  first_row e false b = row_stays (not_first e (λ z. eqb-false r.start 0 b z))

  asked-row : Ruled u d r T.Request → is_request (fragment_of d r) ≡ true → (s : State) → u.state ≡ s → Row u d r (judged (request_in s) u)
  unfolding Live
  asked-row e b S.Idle q = row_stays (reported_request e b (inl q))
  asked-row e b S.Sent q = row_stays (ignored_request e b (inl q))
  asked-row e b S.Replied q = row_stays (ignored_request e b (inr (inl q)))
  asked-row e b S.Spec q = row_stays (ignored_request e b (inr (inr q)))
  asked-row e b S.Opening q = row_stays (reported_request e b (inr (inl q)))
  asked-row e b S.Open q = row_stays (reported_request e b (inr (inr q)))
  asked-row e b S.Closed q = absurd ((ruled-says u d r T.Request e).0 (inl q))
  asked-row e b S.Barred q = absurd ((ruled-says u d r T.Request e).0 (inr q))

  request-row : Ruled u d r T.Request → (b : Bool) → is_request (fragment_of d r) ≡ b
      → Row u d r (pick b (judged (request_in u.state) u) (judged (W.Refused X.Malformed) u))
  request-row e true b = asked-row e b u.state refl
  request-row e false b = row_stays (bad_request e b)

  change_row : Ruled u d r T.Change → (b : Bool) → is_change (fragment_of d r) ≡ b
      → Row u d r (pick b (judged W.Spec (with_state (with_window u (emptied u.protection.window)) S.Spec)) (judged (W.Refused X.Malformed) u))
  change_row e true b = row_change e b
  change_row e false b = row_stays (bad_change e b)

  level_row : (a : Alert) → Ruled u d r T.Hear → alert_of (fragment_of d r) ≡ Some a → matches_of u.sent a.checksum ≡ true
      → (l : Level) → a.level ≡ l → Row u d r (stepped_by u (by_level u.protection.window l a.description))
  unfolding left_by
  level_row a e q m L.Warning x = row_stays (warning a e q m x)
  level_row a e q m L.Critical x = row_shuts (critical a e q m x)
  level_row a e q m L.Fatal x = row_shuts (fatal a e q m x)

  sum_row : (a : Alert) → Ruled u d r T.Hear → alert_of (fragment_of d r) ≡ Some a → (b : Bool) → matches_of u.sent a.checksum ≡ b
      → Row u d r (stepped_by u (pick b (by_level u.protection.window a.level a.description) (refusing u.protection.window X.Checksum)))
  unfolding left_by
  sum_row a e q true m = level_row a e q m a.level refl
  sum_row a e q false m = row_stays (checksum a e q m)

  hear_row : Ruled u d r T.Hear → (x : Option Alert) → alert_of (fragment_of d r) ≡ x
      → Row u d r (stepped_by u (heard_by u.sent u.protection.window x))
  unfolding left_by
  hear_row e None q = row_stays (bad_alert e q)
  hear_row e (Some a) q = sum_row a e q (matches_of u.sent a.checksum) refl

  module _ (c : List ℕ) (w : Window) (n : New u d r c w) where
    abbrev content_as : Kind → Step
    content_as k = content_by w u.protection.keys.mac u.expected u.state k r.number (r.start + r.head) c

    guarded : Guards u.state (kind_in d r)
    guarded = ruled-says u d r T.Unprotect n.ruled

    -- the row for an answer, at a state that is known
    at-state : (a : Answer) {s t : State} → t ≡ s → Row u d r (judged a (with_state (with_window u w) s))
        → Row u d r (judged a (with_state (with_window u w) t))
    at-state a e x = subst (λ s. Row u d r (judged a (with_state (with_window u w) s))) (sym e) x

    settles-row : (a : Alert) → kind_in d r ≡ K.ProtectedAlert → alert_of c ≡ Some a → a.level ≡ L.Warning
        → eqb (description_number a.description) 57 ≡ true → (u.state ≡ S.Spec) ⊎ Up u.state
        → Row u d r (judged (W.Warning a.description) (with_state (with_window u w) (settled u.state)))
    settles-row a k q l b (inl e) =
        at-state (W.Warning a.description) (settled-spec u.state e) (row_marked c w n (protected_warning a k q l (inr e)))
    settles-row a k q l b (inr o) =
        at-state (W.Warning a.description) (settled-open u.state o) (row_marked c w n (repeated_finished a k q l b o))

    warning-row : (a : Alert) → kind_in d r ≡ K.ProtectedAlert → alert_of c ≡ Some a → a.level ≡ L.Warning
        → (b : Bool) → eqb (description_number a.description) 57 ≡ b
        → Row u d r (stepped_by u (step (W.Warning a.description) w (pick b Settle Stay)))
    unfolding left_by
    warning-row a k q l true b = settles-row a k q l b (guards-state u.state (kind_in d r) guarded)
    warning-row a k q l false b = row_marked c w n (protected_warning a k q l (inl b))

    protected-row : (a : Alert) → kind_in d r ≡ K.ProtectedAlert → alert_of c ≡ Some a → (l : Level) → a.level ≡ l
        → Row u d r (stepped_by u (protected_level w l a.description))
    unfolding left_by warned
    protected-row a k q L.Warning x = warning-row a k q x (eqb (description_number a.description) 57) refl
    protected-row a k q L.Critical x = row_marked c w n (protected_critical a k q x)
    protected-row a k q L.Fatal x = row_bars c w a n k q x

    alert_row : kind_in d r ≡ K.ProtectedAlert → (x : Option Alert) → alert_of c ≡ x → Row u d r (stepped_by u (alerted_to w x))
    unfolding left_by
    alert_row k None q = row_marked c w n (no_alert k q)
    alert_row k (Some a) q = protected-row a k q a.level refl

    finish-row : kind_in d r ≡ K.ProtectedHandshake → is_request c ≡ false → judged_of c u.expected ≡ Ok tt
        → (u.state ≡ S.Spec) ⊎ Up u.state → Row u d r (stepped_by u (finished_in w u.protection.keys.mac u.state))
    unfolding left_by
    finish-row k q v (inl e) =
        subst (λ s. Row u d r (stepped_by u (finished_in w u.protection.keys.mac s))) (sym e) (row_opens c w n e k q v)
    finish-row k q v (inr (inl e)) =
        subst (λ s. Row u d r (stepped_by u (finished_in w u.protection.keys.mac s))) (sym e) (row_marked c w n (finished_again k q v (inl e)))
    finish-row k q v (inr (inr e)) =
        subst (λ s. Row u d r (stepped_by u (finished_in w u.protection.keys.mac s))) (sym e) (row_marked c w n (finished_again k q v (inr e)))

    verified-row : kind_in d r ≡ K.ProtectedHandshake → is_request c ≡ false → (x : Result ⊤ Unverified) → judged_of c u.expected ≡ x
        → Row u d r (stepped_by u (verified_to w u.protection.keys.mac u.state x))
    unfolding left_by
    verified-row k q (Ok tt) v = finish-row k q v (guards-state u.state (kind_in d r) guarded)
    verified-row k q (Err F.Wrong) v = row_marked c w n (wrong_finished k q v)
    verified-row k q (Err F.Malformed) v = row_marked c w n (no_message k q v)

    requested-row : kind_in d r ≡ K.ProtectedHandshake → is_request c ≡ true → (u.state ≡ S.Spec) ⊎ Up u.state
        → Row u d r (judged (request_in u.state) (with_window u w))
    requested-row k q (inl e) =
        subst (λ x. Row u d r (judged x (with_window u w))) (sym (ignored-in u.state (inr (inr e)))) (row_marked c w n (protected_ignored k q e))
    requested-row k q (inr o) =
        subst (λ x. Row u d r (judged x (with_window u w))) (sym (reported-in u.state (inr o))) (row_marked c w n (protected_reported k q o))

    message-row : kind_in d r ≡ K.ProtectedHandshake → (b : Bool) → is_request c ≡ b
        → Row u d r (stepped_by u (pick b (pick b (step (request_in u.state) w Stay) (refusing w X.Malformed)) (verified_by w u.protection.keys.mac u.expected u.state c)))
    unfolding left_by verified_by
    message-row k true q = requested-row k q (guards-state u.state (kind_in d r) guarded)
    message-row k false q = verified-row k q (judged_of c u.expected) refl

    data_row : kind_in d r ≡ K.ProtectedData → (b : Bool) → eqb (length c) 0 ≡ b
        → Row u d r (stepped_by u (pick b (refusing w X.Malformed) (step (W.Data r.number (r.start + r.head) (length c)) w Settle)))
    unfolding left_by
    data_row k true b = row_marked c w n (no_data k (eqb-true (length c) 0 b))
    data_row k false b =
        at-state (W.Data r.number (r.start + r.head) (length c)) (settled-open u.state (data-up u.state (kind_in d r) k guarded))
        (row_marked c w n (some_data k (omega (arith, eqb-false (length c) 0 b))))

    not-clear : {P : Type 0} (k : Kind) → kind_in d r ≡ k → protected_kind k ≡ false → P
    not-clear k e f = true_false r.protected (ruled-protected n.ruled) (sym is-protected-kind ∙ ap protected_kind e ∙ f)

    content_row : (k : Kind) → kind_in d r ≡ k → Row u d r (stepped_by u (content_as k))
    unfolding left_by content_by alerted_by handshake_by requested_by
    content_row K.ClearHello e = not-clear K.ClearHello e refl
    content_row K.ClearRequest e = not-clear K.ClearRequest e refl
    content_row K.ClearChange e = not-clear K.ClearChange e refl
    content_row K.ClearAlert e = not-clear K.ClearAlert e refl
    content_row K.OtherClear e = not-clear K.OtherClear e refl
    content_row K.ProtectedChange e = row_marked c w n (no_change e)
    content_row K.ProtectedAlert e = alert_row e (alert_of c) refl
    content_row K.ProtectedHandshake e = message-row e (is_request c) refl
    content_row K.ProtectedData e = data_row e (eqb (length c) 0) refl

  window_row : Ruled u d r T.Unprotect → (c : List ℕ) → Protected u.protection.keys d r c → (x : Result (Window × ℕ) NotNew)
      → accept_of u.protection.window r.number ≡ x → Row u d r (stepped_by u (windowed_to c (kind_in d r) x))
  unfolding left_by
  window_row e c s (Err A.TooOld) q = row_stays (too_old c e s q)
  window_row e c s (Err A.Repeated) q = row_stays (repeated c e s q)
  window_row e c s (Ok (w, n)) q = content_row c w (record { ruled = e; coded = s; arrived = n; accepted = q }) (kind_in d r) refl

  code_row : Ruled u d r T.Unprotect
      → ((c : List ℕ) × Protected u.protection.keys d r c) ⊎ ((c : List ℕ) → Protected u.protection.keys d r c → ⊥)
      → Row u d r (ruled_as T.Unprotect)
  code_row e (inl (c, s)) =
      subst (Row u d r) (sym (unprotect-is c s (accept_of u.protection.window r.number) refl))
      (window_row e c s (accept_of u.protection.window r.number) refl)
  code_row e (inr never) = subst (Row u d r) (sym (forged_is (ruled-protected e) never)) (row_stays (forged e never))

  rule-row : (rule : Rule) → Ruled u d r rule → Row u d r (ruled_as rule)
  rule-row T.Ended e = subst (Row u d r) (sym ended_is) (row_stays (at_end e))
  rule-row T.NotAllowed e = subst (Row u d r) (sym not_allowed_is) (row_stays (not_allowed e))
  rule-row T.Agree e = subst (Row u d r) (sym (agree-is (eqb r.start 0) refl)) (first_row e (eqb r.start 0) refl)
  rule-row T.Request e = subst (Row u d r) (sym (request-is (is_request (fragment_of d r)) refl)) (request-row e (is_request (fragment_of d r)) refl)
  rule-row T.Change e = subst (Row u d r) (sym (change-is (is_change (fragment_of d r)) refl)) (change_row e (is_change (fragment_of d r)) refl)
  rule-row T.Hear e = subst (Row u d r) (sym (hear-is (alert_of (fragment_of d r)) refl)) (hear_row e (alert_of (fragment_of d r)) refl)
  rule-row T.Unprotect e = code_row e (coded-or-not u.protection.keys d r (ruled-protected e))

  pub row_of : Row u d r (judged_record u d r)
  row_of =
      let rule = rule_of u.state (kind_in d r) in subst (Row u d r) (sym (ruled_is rule refl)) (rule-row rule refl)

  -- ---- what a row says is what the definition gives

  abbrev agreed_as : Result Plan Disagreed → Judged
  agreed_as x = agreed_to u (fragment_of d r) x

  agreed_is : (x : Result Plan Disagreed) → Ruled u d r T.Agree → r.start ≡ 0 → agreement_of (fragment_of d r) u.id u.offer ≡ x
      → judged_record u d r ≡ agreed_as x
  agreed_is x e z q = ruled_is T.Agree e ∙ agree-is true (eq-eqb r.start 0 z) ∙ ap agreed_as q

  heard-is : (a : Alert) → Ruled u d r T.Hear → alert_of (fragment_of d r) ≡ Some a → (b : Bool) → matches_of u.sent a.checksum ≡ b
      → judged_record u d r ≡ stepped_by u (pick b (by_level u.protection.window a.level a.description) (refusing u.protection.window X.Checksum))
  heard-is a e q b m =
      ruled_is T.Hear e ∙ hear-is (Some a) q
      ∙ ap (λ x. stepped_by u (pick x (by_level u.protection.window a.level a.description) (refusing u.protection.window X.Checksum))) m

  leveled-is : (a : Alert) → Ruled u d r T.Hear → alert_of (fragment_of d r) ≡ Some a → matches_of u.sent a.checksum ≡ true
      → (l : Level) → a.level ≡ l → judged_record u d r ≡ stepped_by u (by_level u.protection.window l a.description)
  leveled-is a e q m l x = heard-is a e q true m ∙ ap (λ y. stepped_by u (by_level u.protection.window y a.description)) x

  windowed_is : (c : List ℕ) → Ruled u d r T.Unprotect → Protected u.protection.keys d r c → (x : Result (Window × ℕ) NotNew)
      → accept_of u.protection.window r.number ≡ x → judged_record u d r ≡ stepped_by u (windowed_to c (kind_in d r) x)
  windowed_is c e s x q = ruled_is T.Unprotect e ∙ unprotect-is c s x q

  stays-is : {a : Answer} → Stays u d r a → judged_record u d r ≡ judged a u
  unfolding left_by
  stays-is (at_end e) = ruled_is T.Ended e ∙ ended_is
  stays-is (not_allowed e) = ruled_is T.NotAllowed e ∙ not_allowed_is
  stays-is (not_first e z) = ruled_is T.Agree e ∙ agree-is false (ne_eqb r.start 0 z)
  stays-is (forged e never) = ruled_is T.Unprotect e ∙ forged_is (ruled-protected e) never
  stays-is (too_old c e s q) = windowed_is c e s (Err A.TooOld) q
  stays-is (repeated c e s q) = windowed_is c e s (Err A.Repeated) q
  stays-is (bad_hello e z q) = agreed_is (Err G.Malformed) e z q
  stays-is (bad_request e q) = ruled_is T.Request e ∙ request-is false q
  stays-is (bad_change e q) = ruled_is T.Change e ∙ change-is false q
  stays-is (bad_alert e q) = ruled_is T.Hear e ∙ hear-is None q
  stays-is (unacceptable term e z q) = agreed_is (Err (G.Unacceptable term)) e z q
  stays-is (checksum a e q m) = heard-is a e q false m
  stays-is (ignored_request e q m) = ruled_is T.Request e ∙ request-is true q ∙ ap (λ x. judged x u) (ignored-in u.state m)
  stays-is (reported_request e q m) = ruled_is T.Request e ∙ request-is true q ∙ ap (λ x. judged x u) (reported-in u.state m)
  stays-is (warning a e q m l) = leveled-is a e q m L.Warning l

  shuts-is : {a : Answer} → Shuts u d r a → judged_record u d r ≡ judged a (with_state u S.Closed)
  unfolding left_by
  shuts-is (critical a e q m l) = leveled-is a e q m L.Critical l
  shuts-is (fatal a e q m l) = leveled-is a e q m L.Fatal l

  module _ (c : List ℕ) (w : Window) (n : New u d r c w) where
    new_is : (k : Kind) → kind_in d r ≡ k → judged_record u d r ≡ stepped_by u (content_as c w n k)
    new_is k e =
        windowed_is c n.ruled n.coded (Ok (w, n.arrived)) n.accepted
        ∙ ap (λ x. stepped_by u (content_as c w n x)) e

    alert_is : (x : Option Alert) → kind_in d r ≡ K.ProtectedAlert → alert_of c ≡ x → judged_record u d r ≡ stepped_by u (alerted_to w x)
    unfolding content_by alerted_by
    alert_is x k q = new_is K.ProtectedAlert k ∙ ap (λ y. stepped_by u (alerted_to w y)) q

    level_is : (a : Alert) → kind_in d r ≡ K.ProtectedAlert → alert_of c ≡ Some a → (l : Level) → a.level ≡ l
        → judged_record u d r ≡ stepped_by u (protected_level w l a.description)
    level_is a k q l x = alert_is (Some a) k q ∙ ap (λ y. stepped_by u (protected_level w y a.description)) x

    warned-is : (a : Alert) → kind_in d r ≡ K.ProtectedAlert → alert_of c ≡ Some a → a.level ≡ L.Warning
        → (b : Bool) → eqb (description_number a.description) 57 ≡ b
        → judged_record u d r ≡ stepped_by u (step (W.Warning a.description) w (pick b Settle Stay))
    unfolding warned
    warned-is a k q l b e =
        level_is a k q L.Warning l ∙ ap (λ x. stepped_by u (step (W.Warning a.description) w (pick x Settle Stay))) e

    -- one on a repeated Finished, where it settles nothing
    warned-in-spec : (a : Alert) → kind_in d r ≡ K.ProtectedAlert → alert_of c ≡ Some a → a.level ≡ L.Warning → u.state ≡ S.Spec
        → (b : Bool) → eqb (description_number a.description) 57 ≡ b
        → judged_record u d r ≡ judged (W.Warning a.description) (with_window u w)
    unfolding left_by
    warned-in-spec a k q l e true b =
        warned-is a k q l true b
        ∙ ap (λ s. judged (W.Warning a.description) (with_state (with_window u w) s)) (settled-spec u.state e)
    warned-in-spec a k q l e false b = warned-is a k q l false b

    abbrev message_as : Bool → Step
    message_as b =
        pick b (pick b (step (request_in u.state) w Stay) (refusing w X.Malformed))
        (verified_by w u.protection.keys.mac u.expected u.state c)

    message_is : (b : Bool) → kind_in d r ≡ K.ProtectedHandshake → is_request c ≡ b → judged_record u d r ≡ stepped_by u (message_as b)
    unfolding content_by handshake_by requested_by
    message_is b k q = new_is K.ProtectedHandshake k ∙ ap (λ x. stepped_by u (message_as x)) q

    verdict-is : (x : Result ⊤ Unverified) → kind_in d r ≡ K.ProtectedHandshake → is_request c ≡ false → judged_of c u.expected ≡ x
        → (s : State) → u.state ≡ s → judged_record u d r ≡ stepped_by u (verified_to w u.protection.keys.mac s x)
    unfolding verified_by
    verdict-is x k q v s e =
        message_is false k q ∙ ap₂ (λ y z. stepped_by u (verified_to w u.protection.keys.mac z y)) v e

    data_is : (b : Bool) → kind_in d r ≡ K.ProtectedData → eqb (length c) 0 ≡ b
        → judged_record u d r ≡ stepped_by u (pick b (refusing w X.Malformed) (step (W.Data r.number (r.start + r.head) (length c)) w Settle))
    unfolding content_by
    data_is b k q =
        new_is K.ProtectedData k
        ∙ ap (λ x. stepped_by u (pick x (refusing w X.Malformed) (step (W.Data r.number (r.start + r.head) (length c)) w Settle))) q

    marked_is : {a : Answer} {s : State} → Marked u d r c a s → judged_record u d r ≡ judged a (with_state (with_window u w) s)
    unfolding left_by content_by
    marked_is (no_change k) = new_is K.ProtectedChange k
    marked_is (no_alert k q) = alert_is None k q
    marked_is (no_message k q v) = verdict-is (Err F.Malformed) k q v u.state refl
    marked_is (no_data k z) = data_is true k (eq-eqb (length c) 0 z)
    marked_is (some_data k z) =
        data_is false k (ne_eqb (length c) 0 (λ e. omega arith))
        ∙ ap (λ s. judged (W.Data r.number (r.start + r.head) (length c)) (with_state (with_window u w) s))
        (settled-open u.state (data-up u.state (kind_in d r) k (ruled-says u d r T.Unprotect n.ruled)))
    marked_is (protected_warning a k q l (inl e)) = warned-is a k q l false e
    marked_is (protected_warning a k q l (inr e)) = warned-in-spec a k q l e (eqb (description_number a.description) 57) refl
    marked_is (repeated_finished a k q l e o) =
        warned-is a k q l true e
        ∙ ap (λ s. judged (W.Warning a.description) (with_state (with_window u w) s)) (settled-open u.state o)
    marked_is (protected_critical a k q l) = level_is a k q L.Critical l
    marked_is (protected_ignored k q e) =
        message_is true k q ∙ ap (λ x. judged x (with_window u w)) (ignored-in u.state (inr (inr e)))
    marked_is (protected_reported k q o) = message_is true k q ∙ ap (λ x. judged x (with_window u w)) (reported-in u.state (inr o))
    marked_is (finished_again k q v (inl e)) = verdict-is (Ok tt) k q v S.Opening e
    marked_is (finished_again k q v (inr e)) = verdict-is (Ok tt) k q v S.Open e
    marked_is (wrong_finished k q v) = verdict-is (Err F.Wrong) k q v u.state refl

  pub row_is : {j : Judged} → Row u d r j → judged_record u d r ≡ j
  unfolding left_by
  row_is (row_stays s) = stays-is s
  row_is (row_shuts s) = shuts-is s
  row_is (row_hello plan e z q) = agreed_is (Ok plan) e z q
  row_is (row_change e q) = ruled_is T.Change e ∙ change-is true q
  row_is (row_marked c w n m) = marked_is c w n m
  row_is (row_opens c w n s k q v) = verdict-is c w n (Ok tt) k q v S.Spec s
  row_is (row_bars c w a n k q l) = level_is c w n a k q L.Fatal l

pub table_holds : TableHolds
unfolding TableHolds
table_holds u d r j = (λ e. subst (Row u d r) e (row_of u d r), row_is u d r)
