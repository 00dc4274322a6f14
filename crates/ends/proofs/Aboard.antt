-- What the unit does with the shore's records, row by row: by the table, the protection's laws and what each content is.
use mathlib.Core.Path.{◌≡◌, refl, ◌∙◌, ap, ap₂}
use mathlib.Core.Logic.{◌⊎◌, inl, inr}
use mathlib.Core.Bool.{true, false}
use mathlib.Core.List.{List, [], ◌∷◌}
use Prim.Native.Nat.{ℕ, ◌+◌, ◌≤◌}
use native.Mathlib.Omega.{arith}
use lib.ListN.{length, take, get_or}
use lib.Seq.{take_at}
use lib.Dec.{eqb, ltb}
use borrow.Author.Tests.{eq-eqb, ne_eqb, le-ltb}
use Rattle.digest.specs.Pick.{pick}
use Rattle.digest.specs.Hmac.{hmac}
use Rattle.digest.specs.Mac.{size_of}
use Rattle.record.specs.Keys.{secret_for}
use Rattle.record.specs.Code.{code_by, fragment_by}
use Rattle.record.specs.Window.{accept_of, emptied}
use Rattle.record.specs.Protection.{opened_to, next_record, counted_on, output_by}
use Rattle.record.specs.declared.protection.Writing.{Writing}
use Rattle.record.proofs.Protecting.{record_under_length, wrote_when, output_when}
use Rattle.record.specs.Datagram.{framed, framing_of}
use Rattle.record.specs.declared.header.Content.TheVariants as C
use Rattle.record.specs.declared.keys.Sense.TheVariants.{FromShore, FromUnit}
use Rattle.record.specs.declared.window.Window.{Window}
use Rattle.record.specs.declared.window.NotNew.TheVariants as A
use Rattle.record.specs.declared.protection.Protection.{Protection}
use Rattle.record.specs.declared.protection.Opening.{Opening}
use Rattle.record.specs.declared.reader.Record.{Record}
use Rattle.record.proofs.Protected.{CodedUnder, coded_opens}
use Rattle.message.specs.Agreement.{agreement_of}
use Rattle.message.specs.Change.{is_change, change_bytes}
use Rattle.message.specs.Finished.{judged_of}
use Rattle.message.specs.Request.{is_request}
use Rattle.message.specs.declared.acceptance.Plan.{Plan}
use Rattle.message.specs.declared.agreement.Disagreed.TheVariants as G
use Rattle.message.specs.declared.finished.Unverified.TheVariants as F
use Rattle.connection.specs.Judge.{fragment_of}
use Rattle.connection.specs.Sent.{sum_of}
use Rattle.connection.specs.declared.refusal.Refusal.TheVariants.{Room, Argument, Malformed}
use Rattle.connection.specs.declared.receive.Untaken.TheVariants.{Refused}
use Rattle.demands.proofs.Refusals.{laid_front}
use Rattle.digest.specs.Bytes.{laid_over}
use Rattle.unit.specs.Answer.{opens_to}
use Rattle.unit.specs.Receive.{end_of, answers_of, slots_of, flight_in, run_of, whole_of, framed_to, received_of, sent_of, output_of}
use Rattle.unit.specs.Send.{may_protect, unsent, done_with, sent_if, output_if, wrote_to, protected_sent, data_sent, data_output}
use Rattle.unit.specs.declared.send.Sent.{Sent as SentAboard}
use Rattle.unit.specs.State.{kind_of, rule_of, settled}
use Rattle.unit.specs.Step.{step}
use Rattle.unit.specs.Clear.{changed_by, requested_by}
use Rattle.unit.specs.Protected.{flight_size, verified_to, verified_by, handshake_by, content_by, unprotected_to, unprotected_by}
use Rattle.unit.specs.Unit.{with_state, with_window, with_sent, opened, left_by}
use Rattle.unit.specs.Agree.{agreed_with, agreed_to, agreed_by, judged}
use Rattle.unit.specs.Judge.{step_by, stepped_by, ruled_by, kind_in, judged_record}
use Rattle.unit.specs.declared.state.State.{State}
use Rattle.unit.specs.declared.state.State.TheVariants as S
use Rattle.unit.specs.declared.state.Kind.{Kind}
use Rattle.unit.specs.declared.state.Kind.TheVariants as K
use Rattle.unit.specs.declared.state.Rule.TheVariants as T
use Rattle.unit.specs.declared.answer.Answer.{Answer}
use Rattle.unit.specs.declared.answer.Answer.TheVariants as W
use Rattle.unit.specs.declared.step.Move.TheVariants as M
use Rattle.unit.specs.declared.agree.Judged.{Judged}
use Rattle.unit.specs.declared.unit.Unit.{Unit as ShipsUnit}
use Rattle.std.specs.Prelude.{Err, Ok}

-- data and alerts go both ways: Opening, and Open
abbrev pub Talks : State → Type 0
Talks s = (s ≡ S.Opening) ⊎ (s ≡ S.Open)

-- ---- a protected record that is new

-- its content is the front of its fragment
pub unprotects : (p : Protection) (expected : List ℕ) (state : State) (kind : Kind) (byte number at : ℕ) (f c : List ℕ) (w : Window) (n : ℕ)
    → CodedUnder p.keys FromShore number byte f c → accept_of p.window number ≡ Ok (w, n)
    → unprotected_by p expected state kind byte number at f ≡ content_by w p.keys.mac expected state kind number at c
unfolding unprotected_by fragment_by
unprotects p expected state kind byte number at f c w n coded new =
    let front : take (length c) f ≡ c
    = ap (take (length c)) coded ∙ take_at c (code_by (hmac (secret_for p.keys FromShore number)) (size_of p.keys.mac) number byte c) (length c) refl in
    ap (λ (o : Opening). unprotected_to p expected state kind number at f o.protection o.opened)
    (coded_opens p FromShore number byte f c coded ∙ ap (opened_to p (length c)) new)
    ∙ ap (content_by w p.keys.mac expected state kind number at) front

module _ (u : ShipsUnit) (d : List ℕ) (r : Record) where
  -- a row that opens a record, by the kind of it
  opens_by : (kind : Kind) → kind_in d r ≡ kind → rule_of u.state kind ≡ T.Unprotect → (c : List ℕ) (w : Window) (n : ℕ)
      → CodedUnder u.protection.keys FromShore r.number r.byte (fragment_of d r) c → accept_of u.protection.window r.number ≡ Ok (w, n)
      → judged_record u d r ≡ stepped_by u (content_by w u.protection.keys.mac u.expected u.state kind r.number (r.start + r.head) c)
  unfolding judged_record ruled_by step_by
  opens_by kind ek er c w n coded new =
      ap (λ x. ruled_by u (rule_of u.state x) x r.byte r.number r.start (r.start + r.head) (fragment_of d r)) ek
      ∙ ap (λ x. ruled_by u x kind r.byte r.number r.start (r.start + r.head) (fragment_of d r)) er
      ∙ ap (stepped_by u) (unprotects u.protection u.expected u.state kind r.byte r.number (r.start + r.head) (fragment_of d r) c w n coded new)

  protected_rule : (kind : Kind) → Talks u.state → rule_of S.Open kind ≡ T.Unprotect → rule_of u.state kind ≡ T.Unprotect
  protected_rule kind (inl e) q = ap (λ s. rule_of s kind) e ∙ q
  protected_rule kind (inr e) q = ap (λ s. rule_of s kind) e ∙ q

  settles : Talks u.state → settled u.state ≡ S.Open
  settles (inl e) = ap settled e
  settles (inr e) = ap settled e

  -- data
  pub data_taken : Talks u.state → r.content ≡ C.Data → r.protected ≡ true → (c : List ℕ) (w : Window) (n : ℕ)
      → CodedUnder u.protection.keys FromShore r.number r.byte (fragment_of d r) c → accept_of u.protection.window r.number ≡ Ok (w, n)
      → 1 ≤ length c
      → judged_record u d r ≡ judged (W.Data r.number (r.start + r.head) (length c)) (with_state (with_window u w) S.Open)
  unfolding content_by left_by
  data_taken talks ec ep c w n coded new some =
      opens_by K.ProtectedData (ap₂ (λ x y. kind_of x y (get_or (fragment_of d r) 0 0)) ec ep) (protected_rule K.ProtectedData talks refl) c w n coded new
      ∙ ap (λ b. stepped_by u (pick b (step (W.Refused Malformed) w M.Stay) (step (W.Data r.number (r.start + r.head) (length c)) w M.Settle))) (ne_eqb (length c) 0 (λ z. omega arith))
      ∙ ap (λ s. judged (W.Data r.number (r.start + r.head) (length c)) (with_state (with_window u w) s)) (settles talks)

  -- the Finished that opens
  pub finished_taken : u.state ≡ S.Spec → r.content ≡ C.Handshake → r.protected ≡ true → (c : List ℕ) (w : Window) (n : ℕ)
      → CodedUnder u.protection.keys FromShore r.number r.byte (fragment_of d r) c → accept_of u.protection.window r.number ≡ Ok (w, n)
      → is_request c ≡ false → judged_of c u.expected ≡ Ok tt
      → judged_record u d r ≡ judged (W.Open (flight_size u.protection.keys.mac)) (opened (with_window u w))
  unfolding content_by handshake_by verified_by left_by
  finished_taken spec ec ep c w n coded new other right =
      opens_by K.ProtectedHandshake (ap₂ (λ x y. kind_of x y (get_or (fragment_of d r) 0 0)) ec ep) (ap (λ s. rule_of s K.ProtectedHandshake) spec) c w n coded new
      ∙ ap (λ b. stepped_by u (pick b (requested_by u.state w c) (verified_to w u.protection.keys.mac u.state (judged_of c u.expected)))) other
      ∙ ap₂ (λ s v. stepped_by u (verified_to w u.protection.keys.mac s v)) spec right

  -- ---- clear records

  -- a ServerHello that answers the offer
  pub hello_taken : rule_of u.state K.ClearHello ≡ T.Agree → r.content ≡ C.Handshake → r.protected ≡ false → r.start ≡ 0
      → (m : List ℕ) → fragment_of d r ≡ m → get_or m 0 0 ≡ 2 → (plan : Plan) → agreement_of m u.id u.offer ≡ Ok plan
      → judged_record u d r ≡ judged W.Hello (agreed_with u m plan)
  unfolding judged_record ruled_by agreed_by
  hello_taken rule ec ep es m em first plan agreed =
      let kind-is : kind_in d r ≡ K.ClearHello =
      ap₂ (λ x y. kind_of x y (get_or (fragment_of d r) 0 0)) ec ep
      ∙ ap (λ n. pick (eqb n 2) K.ClearHello (pick (eqb n 0) K.ClearRequest K.OtherClear)) (ap (λ f. get_or f 0 0) em ∙ first) in
      ap (λ x. ruled_by u (rule_of u.state x) x r.byte r.number r.start (r.start + r.head) (fragment_of d r)) kind-is
      ∙ ap (λ x. ruled_by u x K.ClearHello r.byte r.number r.start (r.start + r.head) (fragment_of d r)) rule
      ∙ ap (λ b. pick b (agreed_by u (fragment_of d r)) (stepped_by u (step_by u.sent u.protection u.expected u.state T.Agree K.ClearHello r.byte r.number (r.start + r.head) (fragment_of d r)))) (eq-eqb r.start 0 es)
      ∙ ap (agreed_by u) em
      ∙ ap (agreed_to u m) agreed

  -- change cipher spec
  pub change_taken : u.state ≡ S.Replied → r.content ≡ C.ChangeCipherSpec → r.protected ≡ false → fragment_of d r ≡ change_bytes
      → judged_record u d r ≡ judged W.Spec (with_state (with_window u (emptied u.protection.window)) S.Spec)
  unfolding judged_record ruled_by step_by changed_by is_change left_by
  change_taken replied ec ep ef =
      let kind-is : kind_in d r ≡ K.ClearChange = ap₂ (λ x y. kind_of x y (get_or (fragment_of d r) 0 0)) ec ep in
      ap (λ x. ruled_by u (rule_of u.state x) x r.byte r.number r.start (r.start + r.head) (fragment_of d r)) kind-is
      ∙ ap (λ s. ruled_by u (rule_of s K.ClearChange) K.ClearChange r.byte r.number r.start (r.start + r.head) (fragment_of d r)) replied
      ∙ ap (λ f. stepped_by u (changed_by u.protection.window f)) ef

-- ---- records one after the other

pub data Chained (d : List ℕ) : ShipsUnit → List Record → List Answer → ShipsUnit → Type 0 where
  chained_end : {u : ShipsUnit} → Chained d u [] [] u
  chained_more : {u : ShipsUnit} {r : Record} {rs : List Record} {j : Judged} {answers : List Answer} {left : ShipsUnit}
      → judged_record u d r ≡ j → Chained d j.unit rs answers left → Chained d u (r ∷ rs) (j.answer ∷ answers) left

chained_is : (d : List ℕ) {u : ShipsUnit} {rs : List Record} {answers : List Answer} {left : ShipsUnit} → Chained d u rs answers left
    → (answers_of u d rs ≡ answers) × (end_of u d rs ≡ left)
unfolding answers_of end_of
chained_is d chained_end = (refl, refl)
chained_is d (chained_more {u = u} {r = r} {rs = rs} e more) =
    let q = chained_is d more in (
      ap₂ (λ (x : Answer) (y : List Answer). x ∷ y) (ap (λ (j : Judged). j.answer) e) (ap (λ (j : Judged). answers_of j.unit d rs) e ∙ q.0),
      ap (λ (j : Judged). end_of j.unit d rs) e ∙ q.1,
    )

module _ (u : ShipsUnit) (d out : List ℕ) (rs : List Record) (answers : List Answer) (left : ShipsUnit) (lo : 128 ≤ length out)
    (f : framing_of d ≡ framed rs) (chain : Chained d u rs answers left) where
  abbrev flying : List ℕ
  flying = take (opens_to 0 answers) left.flight

  pub record Took : Type 0 where
    pub gives : received_of u d (length out)
        ≡ record { taken = Ok (length rs); answers = slots_of answers; written = length flying; unit = left }
    pub writes : output_of u d out ≡ laid_over out 0 flying

  pub took : Took
  unfolding received_of output_of run_of flight_in
  took =
      let wide : ltb (length out) 128 ≡ false = le-ltb (length out) 128 lo in
      let q = chained_is d chain in
      let flight_is : flight_in u d rs ≡ flying = ap₂ (λ (x : List Answer) (y : ShipsUnit). take (opens_to 0 x) y.flight) q.0 q.1 in
      record {
        gives =
            ap₂ (λ b x. pick b (whole_of u (Err (Refused Room))) (framed_to u d x)) wide f
            ∙ (λ i. record { taken = Ok (length rs); answers = slots_of (q.0 i); written = length (flight_is i); unit = q.1 i });
        writes = ap₂ (λ b x. pick b out (laid_over out 0 (sent_of u d x))) wide f ∙ ap (laid_over out 0) flight_is;
      }

-- ---- send data

module _ (u : ShipsUnit) (bytes out : List ℕ) (some : 1 ≤ length bytes) (most : length bytes ≤ 1300) (talks : Talks u.state)
    (few : u.protection.protected ≤ 65535) (room : 3 + length bytes + size_of u.protection.keys.mac ≤ length out) where
  abbrev next : List ℕ
  next = next_record u.protection FromUnit C.Data bytes

  pub record Sent : Type 0 where
    pub done : (data_sent u bytes (length out)).outcome ≡ Ok tt
    pub leaves : (data_sent u bytes (length out)).unit ≡ with_sent u (counted_on u.protection) (sum_of next)
    pub datagram : take (data_sent u bytes (length out)).written (data_output u bytes out) ≡ next

  allowed : may_protect u.state ≡ Ok tt
  allowed = by talks
    where
      by : Talks u.state → may_protect u.state ≡ Ok tt
      by (inl e) = ap may_protect e
      by (inr e) = ap may_protect e

  fits : length next ≤ length out
  fits = omega (arith, record_under_length u.protection.keys FromUnit C.Data u.protection.protected bytes, room)

  sent_is : data_sent u bytes (length out) ≡ done_with (length next) (with_sent u (counted_on u.protection) (sum_of next))
  unfolding data_sent protected_sent
  sent_is =
      ap₂ (λ a b. pick a (unsent u Argument) (pick b (unsent u Argument) (sent_if u (may_protect u.state) (protected_sent u C.Data bytes (length out)))))
      (ne_eqb (length bytes) 0 (λ z. omega arith)) (le-ltb 1300 (length bytes) most)
      ∙ ap (λ x. sent_if u x (protected_sent u C.Data bytes (length out))) allowed
      ∙ ap (λ (w : Writing). wrote_to u next w.protection w.wrote) (wrote_when u.protection FromUnit C.Data bytes out few fits)

  output_is : data_output u bytes out ≡ laid_over out 0 next
  unfolding data_output
  output_is =
      ap₂ (λ a b. pick a out (pick b out (output_if out (may_protect u.state) (output_by u.protection FromUnit C.Data bytes out))))
      (ne_eqb (length bytes) 0 (λ z. omega arith)) (le-ltb 1300 (length bytes) most)
      ∙ ap (λ x. output_if out x (output_by u.protection FromUnit C.Data bytes out)) allowed
      ∙ output_when u.protection FromUnit C.Data bytes out few fits

  pub sends : Sent
  sends =
      record {
        done = ap (λ (s : SentAboard). s.outcome) sent_is;
        leaves = ap (λ (s : SentAboard). s.unit) sent_is;
        datagram = ap₂ take (ap (λ (s : SentAboard). s.written) sent_is) output_is ∙ laid_front out next;
      }
