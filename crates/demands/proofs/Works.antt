-- It works. The idea: each of the four datagrams is one record, framed and read back as it was made (`Wire`); its row of the table is
-- given by how it was made; and what each row leaves is what the next one asks for.
use mathlib.Core.Path.{◌≡◌, refl, sym, ◌∙◌, ap, ap₂, subst}
use mathlib.Core.Logic.{inl, inr, ◌≢◌}
use mathlib.Core.Bool.{Bool, true, false}
use mathlib.Core.List.{List, [], ◌∷◌, ◌++◌}
use Prim.Native.Nat.{ℕ, ◌+◌, ◌-◌, ◌≤◌}
use native.Mathlib.Omega.{arith}
use lib.ListN.{length, take, get_or, replicate}
use lib.Seq.{take_at, length-take-le}
use Rattle.digest.specs.Bytes.{laid_over}
use Rattle.digest.specs.Hmac.{hmac}
use Rattle.digest.specs.Sha1.{sha1}
use Rattle.digest.specs.Expansion.{prf, expansion, terms, chain}
use Rattle.digest.specs.Mac.{size_of}
use Rattle.digest.proofs.Codes.{length_hmac}
use Rattle.record.specs.Window.{accept_of, Held, fresh_window, emptied}
use Rattle.record.specs.History.{accepted, highest_of, window_of, arrived_of}
use Rattle.record.specs.Datagram.{framed, framing_of}
use Rattle.record.specs.declared.header.Content.TheVariants as C
use Rattle.record.specs.declared.reader.Record.{Record}
use Rattle.record.specs.declared.window.Window.{Window}
use Rattle.record.specs.declared.window.NotNew.TheVariants as A
use Rattle.record.proofs.Histories.{meaning, fresh_means, new_when}
use Rattle.record.proofs.RoundTrip.{read_back}
use Rattle.record.proofs.ProtectedBytes.{size_most}
use Rattle.message.specs.Acceptance.{heard_of, heard_as}
use Rattle.message.specs.Hello.{read_of}
use Rattle.message.specs.Handshake.{fills, client_hello}
use Rattle.message.specs.Change.{change_bytes, is_change}
use Rattle.message.specs.Finished.{finished_of, client_verify, client_label, judged_of}
use Rattle.message.specs.declared.acceptance.Plan.{Plan}
use Rattle.message.specs.declared.acceptance.Unheard.TheVariants as H
use Rattle.message.specs.declared.hello.Field.TheVariants as E
use Rattle.message.proofs.Hearing.{accepted_size}
use Rattle.message.proofs.Written.{filled}
use Rattle.message.proofs.FinishedLaws.{finished_right, finished_judged}
use Rattle.connection.specs.Answer.{judged, handed_of, reply_size}
use Rattle.connection.specs.Calls.{session_of}
use Rattle.connection.specs.Handshake.{with_state, with_window, planted, kept_hello, kept_reply, newcomer_to, new_handshake, none_started}
use Rattle.connection.specs.Sent.{no_records}
use Rattle.connection.specs.Told.{sent_after, left_by, told_by, kept_by}
use Rattle.connection.specs.Judge.{fragment_of}
use Rattle.connection.specs.Receive.{first_reply, sent_by}
use Rattle.connection.specs.Reply.{reply_to, expected_of, answered_with, our_hello, our_finished}
use Rattle.connection.specs.declared.state.State.TheVariants as S
use Rattle.connection.specs.declared.answer.Answer.{Answer}
use Rattle.connection.specs.declared.answer.Answer.TheVariants as W
use Rattle.connection.specs.declared.answer.Judged.{Judged}
use Rattle.connection.specs.declared.connection.Connection.{Connection}
use Rattle.connection.specs.declared.handshake.Handshake.{Handshake}
use Rattle.connection.specs.declared.handshake.Session.{Session}
use Rattle.digest.proofs.Same.{differ_same}
use Rattle.digest.specs.Pick.{pick}
use Rattle.connection.specs.Send.{clear_sender}
use Rattle.demands.proofs.Exactly.Sends.{exactly-alert}
use lib.Dec.{lit≤}
use Rattle.message.specs.declared.finished.Unverified.TheVariants as F
use Rattle.connection.specs.declared.refusal.Refusal.TheVariants as X
use Rattle.demands.specs.Exactly.Numbers.{is_among}
use Rattle.demands.specs.Exactly.Sends.{AlertGoes, alert_number_of, alert_code_of}
use Rattle.demands.specs.Seen.{seen_in}
use Rattle.demands.specs.Runs.{receive, send_alert, sent, step_of}
use Rattle.record.specs.declared.keys.Keys.{Keys}
use Rattle.demands.specs.Genuine.{Protected, keys_of, unit_key}
use Rattle.demands.specs.Table.{Row, IsHello, Hears, row_reply, row_change, row_open, row_data, row_wrong_finished}
use Rattle.demands.specs.Calls.{chain_end, chain_more, taken}
use Rattle.demands.specs.Runs.{fresh_with}
use Rattle.demands.specs.Works.{clear_datagram, protected_datagram, keys_after, one_answer, Worked, Works, Rebooted, Reboots}
use Rattle.demands.proofs.States.{live_over}
use Rattle.demands.proofs.Asked.{tells_is, left_of}
use Rattle.demands.proofs.Calls.{by_chain, call_is}
use Rattle.demands.proofs.Refusals.{laid_nothing}
use Rattle.demands.proofs.HandedOut.{handed_part}
use Rattle.demands.proofs.Wire.{clear_framed, clear_fragment, protected_framed, protected_fragment}
use Rattle.connection.specs.Connection.{alone, connection_of}
use Rattle.connection.specs.declared.sent.SentRecords.{SentRecords}
use Rattle.connection.specs.declared.handshake.Kept.{Kept}
use Rattle.connection.specs.declared.told.Told.{Told}
use Rattle.connection.specs.declared.asked.Whom.TheVariants as Y
use Rattle.demands.specs.Asked.{RightBeside, Tells, tells, asks_only, asks_new_hello, asks_clear, asks_right, asks_protected, left_only, left_greeted, left_started, left_replaced, left_dropped}
use Rattle.std.specs.Prelude.{Err, Ok}

-- ---- a datagram of one record

one_record : (c : Connection) (d random out : List ℕ) (r : Record) (x : Told) → length random ≡ 16 → 128 ≤ length out → framing_of d ≡ framed (r ∷ [])
    → Tells c random d r x
    → step_of c (receive d random out) ≡ record { result = one_answer x.answer (length (sent_by x)); output = laid_over out 0 (sent_by x); connection = x.connection }
unfolding first_reply
one_record c d random out r x e l f row =
    call_is c (by_chain c {out = out} e l f (chain_more row chain_end))
    ∙ ap (λ y. taken out (r ∷ []) (x.answer ∷ []) (sent_by y) x.connection) (tells_is c random d r row)

-- one that sends nothing
one_silent : (c : Connection) (d random out : List ℕ) (r : Record) (x : Told) → length random ≡ 16 → 128 ≤ length out → framing_of d ≡ framed (r ∷ [])
    → Tells c random d r x → reply_size x.answer ≡ 0
    → step_of c (receive d random out) ≡ record { result = one_answer x.answer 0; output = out; connection = x.connection }
one_silent c d random out r x e l f row z =
    let none : sent_by x ≡ [] = ap (λ n. take n (kept_by x.beside x.connection).reply) z in
    one_record c d random out r x e l f row
    ∙ (λ i. record { result = one_answer x.answer (length (none i)); output = laid_over out 0 (none i); connection = x.connection })
    ∙ λ i. record { result = one_answer x.answer 0; output = laid_nothing out i; connection = x.connection }

-- ---- an accepted hello begins with byte 1

module _ (m id : List ℕ) (plan : Plan) (e : heard_of m id ≡ Ok plan) where
  by_fills : (b : Bool) → fills client_hello m ≡ b → get_or m 0 0 ≡ 1
  unfolding heard_of read_of
  by_fills true f = (filled client_hello m f).type
  by_fills false f =
      let z : Err (H.Malformed E.Header) ≡ Ok plan = sym (ap (heard_as m id) (unread f)) ∙ e in let n : ◌≡◌ {A = ℕ} 0 1 = cc in absurd (omega arith)
    where
      unread : fills client_hello m ≡ false → read_of m ≡ Err E.Header
      unread f = rw f refl

  begins : get_or m 0 0 ≡ 1
  begins = by_fills (fills client_hello m) refl

-- ---- twelve bytes

verify_size : (secret label seed : List ℕ) → length (prf secret label seed 12) ≡ 12
unfolding prf expansion terms
verify_size secret label seed =
    length-take-le 12 (hmac secret (chain (hmac secret) (label ++ seed) 1 ++ (label ++ seed)))
    (omega (arith, length_hmac secret (chain (hmac secret) (label ++ seed) 1 ++ (label ++ seed))))

pub expected_size : (session : Session) (random m : List ℕ) (plan : Plan) → length (expected_of session random m plan) ≡ 12
unfolding expected_of client_verify
expected_size session random m plan =
    verify_size session.secret client_label (sha1 (m ++ our_hello session random plan ++ our_finished session random m plan))

-- the window takes the Finished, which has number 0, and the data behind it
takes_0 : (width : ℕ) → Held width → accept_of (fresh_window width) 0 ≡ Ok (window_of width (0 ∷ []), arrived_of width (0 ∷ []))
unfolding highest_of accepted
takes_0 width held =
    ap (λ w. accept_of w 0) (fresh_means width) ∙ meaning width held [] 0 ∙ new_when width [] 0 (omega (arith, held.0)) refl

takes_1 : (width : ℕ) → Held width → accept_of (window_of width (0 ∷ [])) 1 ≡ Ok (window_of width (1 ∷ 0 ∷ []), arrived_of width (1 ∷ 0 ∷ []))
unfolding highest_of accepted
takes_1 width held = meaning width held (0 ∷ []) 1 ∙ new_when width (0 ∷ []) 1 (omega (arith, held.0)) refl

-- ---- the four datagrams

-- a handshake and one data record, as the table takes them
pub record Walk (id secret : List ℕ) (width : ℕ) (random bytes : List ℕ) : Type 0 where
  pub d₁ : List ℕ
  pub d₂ : List ℕ
  pub d₃ : List ℕ
  pub d₄ : List ℕ
  pub r₁ : Record
  pub r₂ : Record
  pub r₃ : Record
  pub r₄ : Record
  pub h₁ : Handshake
  pub h₂ : Handshake
  pub h₃ : Handshake
  pub h₄ : Handshake
  pub reply : ℕ
  pub framed₁ : framing_of d₁ ≡ framed (r₁ ∷ [])
  pub framed₂ : framing_of d₂ ≡ framed (r₂ ∷ [])
  pub framed₃ : framing_of d₃ ≡ framed (r₃ ∷ [])
  pub framed₄ : framing_of d₄ ≡ framed (r₄ ∷ [])
  pub row₁ : (s : SentRecords) → Row (fresh_with id secret width) s random d₁ r₁ (judged (W.Reply reply) h₁)
  pub row₂ : (s : SentRecords) → Row h₁ s random d₂ r₂ (judged W.Spec h₂)
  pub row₃ : (s : SentRecords) → Row h₂ s random d₃ r₃ (judged W.Open h₃)
  pub row₄ : (s : SentRecords) → Row h₃ s random d₄ r₄ (judged (W.Data 1 3 (length bytes)) h₄)
  pub replied_is : h₁.state ≡ S.Replied
  pub spec_is : h₂.state ≡ S.Spec
  pub open_is : h₃.state ≡ S.Open
  pub window_is : h₃.protection.window ≡ window_of width (0 ∷ [])
  pub next_is : h₃.protection.protected ≡ 1
  pub protected₄ : r₄.protected ≡ true
  pub greeted : List ℕ
  pub kept_is : kept_hello h₃ ≡ greeted
  pub planted_is : planted h₃ ≡ session_of id secret

module _ (id secret : List ℕ) (width : ℕ) (held : Held width) (m random out bytes : List ℕ) (plan : Plan) (lr : length random ≡ 16) (lo : 128 ≤ length out) (e : heard_of m id ≡ Ok plan) (some : 1 ≤ length bytes) (most : length bytes ≤ 1300) where
  abbrev session : Session
  session = session_of id secret

  abbrev k : Keys
  k = keys_after secret random m plan

  abbrev expected : List ℕ
  expected = expected_of session random m plan

  hello_some : 1 ≤ length m
  hello_some = omega (arith, (accepted_size m id plan e).0)

  hello_most : length m ≤ 1397
  hello_most = omega (arith, (accepted_size m id plan e).1)

  -- the hello
  d₁ : List ℕ
  d₁ = clear_datagram C.Handshake 0 m

  r₁ : Record
  r₁ = read_back false false C.Handshake 0 (length m)

  h₁ : Handshake
  h₁ = answered_with (fresh_with id secret width) random m plan

  fragment₁ : fragment_of d₁ r₁ ≡ m
  unfolding d₁ r₁
  fragment₁ = clear_fragment C.Handshake 0 (omega arith) m hello_some

  hello₁ : IsHello (seen_in d₁ r₁)
  unfolding r₁
  hello₁ = record { clear = refl; handshake = refl; begins = ap (λ f. get_or f 0 0) fragment₁ ∙ begins m id plan e }

  row₁ : (s : SentRecords) → Row (fresh_with id secret width) s random d₁ r₁ (judged (W.Reply (length (reply_to session random m plan))) h₁)
  unfolding h₁ r₁
  row₁ s =
      subst (λ f. Row (fresh_with id secret width) s random d₁ r₁ (judged (W.Reply (length (reply_to session random f plan))) (answered_with (fresh_with id secret width) random f plan))) fragment₁
      (row_reply plan (record { hello = hello₁; first = refl; another = inl refl }) (ap (λ f. heard_of f id) fragment₁ ∙ e))

  front₁ : take (length (reply_to session random m plan)) h₁.kept.reply ≡ reply_to session random m plan
  unfolding h₁ answered_with
  front₁ = take_at (reply_to session random m plan) (replicate (84 - length (reply_to session random m plan)) 0) (length (reply_to session random m plan)) refl

  -- the records sent then
  list : SentRecords → SentRecords
  list s = sent_after s h₁.kept (W.Reply (length (reply_to session random m plan)))

  idle_not : S.Idle ≡ S.Open → ⊥
  idle_not z = let w : ◌≡◌ {A = ℕ} 0 1 = cc in omega arith

  replied_not : h₁.state ≡ S.Open → ⊥
  unfolding h₁ answered_with
  replied_not z = let w : ◌≡◌ {A = ℕ} 0 1 = cc in omega arith

  replied_state : h₁.state ≡ S.Replied
  unfolding h₁ answered_with
  replied_state = refl

  spec_not : S.Spec ≡ S.Open → ⊥
  spec_not z = let w : ◌≡◌ {A = ℕ} 0 1 = cc in omega arith

  -- the hello, by whatever connection that leaves h₁ in its place
  hello_step : (c : Connection) (x : Told) → Tells c random d₁ r₁ x → x.answer ≡ W.Reply (length (reply_to session random m plan))
      → kept_by x.beside x.connection ≡ h₁.kept
      → step_of c (receive (clear_datagram C.Handshake 0 m) random out)
      ≡ record {
        result = one_answer (W.Reply (length (reply_to session random m plan))) (length (reply_to session random m plan));
        output = laid_over out 0 (reply_to session random m plan);
        connection = x.connection;
      }
  unfolding d₁ r₁
  hello_step c x told ea ek =
      let goes : sent_by x ≡ reply_to session random m plan = ap₂ (λ (a : Answer) (y : Kept). take (reply_size a) y.reply) ea ek ∙ front₁ in
      one_record c d₁ random out r₁ x lr lo (clear_framed C.Handshake 0 (omega arith) m hello_some hello_most) told
      ∙ λ i. record { result = one_answer (ea i) (length (goes i)); output = laid_over out 0 (goes i); connection = x.connection }

  -- change cipher spec
  d₂ : List ℕ
  d₂ = clear_datagram C.ChangeCipherSpec 1 change_bytes

  r₂ : Record
  r₂ = read_back false false C.ChangeCipherSpec 1 1

  h₂ : Handshake
  h₂ = with_state (with_window h₁ (emptied h₁.protection.window)) S.Spec

  change₂ : is_change (fragment_of d₂ r₂) ≡ true
  unfolding d₂ r₂ is_change
  change₂ = ap is_change (clear_fragment C.ChangeCipherSpec 1 (omega arith) change_bytes (omega arith))

  row₂ : (s : SentRecords) → Row h₁ s random d₂ r₂ (judged W.Spec h₂)
  unfolding h₁ answered_with h₂ r₂
  row₂ s = row_change refl refl refl change₂

  change_step : (c : Connection) (x : Told) → Tells c random d₂ r₂ x → x.answer ≡ W.Spec
      → step_of c (receive (clear_datagram C.ChangeCipherSpec 1 change_bytes) random out) ≡ record { result = one_answer W.Spec 0; output = out; connection = x.connection }
  unfolding d₂ r₂
  change_step c x told ea =
      one_silent c d₂ random out r₂ x lr lo (clear_framed C.ChangeCipherSpec 1 (omega arith) change_bytes (omega arith) (omega arith)) told (ap reply_size ea)
      ∙ λ i. record { result = one_answer (ea i) 0; output = out; connection = x.connection }

  -- Finished
  d₃ : List ℕ
  d₃ = protected_datagram k C.Handshake 0 (finished_of expected)

  r₃ : Record
  r₃ = read_back false true C.Handshake 0 (length (finished_of expected) + size_of plan.mac)

  w₃ : Window
  w₃ = window_of width (0 ∷ [])

  h₃ : Handshake
  h₃ = with_state (with_window h₂ w₃) S.Open

  protected₃ : Protected k d₃ r₃ (finished_of expected)
  unfolding d₃ r₃
  protected₃ =
      record { is_protected = refl; is_coded = protected_fragment C.Handshake 0 (omega arith) (unit_key k 0) plan.mac (finished_of expected) }

  row₃ : (s : SentRecords) → Row h₂ s random d₃ r₃ (judged W.Open h₃)
  unfolding h₁ answered_with h₂ h₃ r₃ w₃
  row₃ s =
      row_open (finished_of expected) w₃
      (record { guarded = record { protection = refl; kind = inl (refl, inr refl) }; coded = protected₃; arrived = arrived_of width (0 ∷ []); accepted = takes_0 width held }) refl refl (finished_right expected (expected_size session random m plan))

  finished_step : (c : Connection) (x : Told) → Tells c random d₃ r₃ x → x.answer ≡ W.Open
      → step_of c (receive (protected_datagram k C.Handshake 0 (finished_of expected)) random out) ≡ record { result = one_answer W.Open 0; output = out; connection = x.connection }
  unfolding d₃ r₃
  finished_step c x told ea =
      one_silent c d₃ random out r₃ x lr lo
      (protected_framed C.Handshake 0 (omega arith) (unit_key k 0) plan.mac (finished_of expected) (omega (arith, size_most plan.mac, expected_size session random m plan))) told (ap reply_size ea)
      ∙ λ i. record { result = one_answer (ea i) 0; output = out; connection = x.connection }

  -- a Finished with other contents
  module _ (wrong : List ℕ) (lw : length wrong ≡ 12) (differs : wrong ≢ expected) where
    d₅ : List ℕ
    d₅ = protected_datagram k C.Handshake 0 (finished_of wrong)

    r₅ : Record
    r₅ = read_back false true C.Handshake 0 (length (finished_of wrong) + size_of plan.mac)

    protected₅ : Protected k d₅ r₅ (finished_of wrong)
    unfolding d₅ r₅
    protected₅ =
        record { is_protected = refl; is_coded = protected_fragment C.Handshake 0 (omega arith) (unit_key k 0) plan.mac (finished_of wrong) }

    judged₅ : judged_of (finished_of wrong) expected ≡ Err F.Wrong
    judged₅ = finished_judged wrong lw expected ∙ ap (λ b. pick b (Ok tt) (Err F.Wrong)) (differ_same wrong expected differs)

    row₅ : (s : SentRecords) → Row h₂ s random d₅ r₅ (judged (W.Refused X.WrongFinished) (with_state (with_window h₂ w₃) S.Closed))
    unfolding h₁ answered_with h₂ r₅ w₃
    row₅ s =
        row_wrong_finished (finished_of wrong) w₃
        (record { guarded = record { protection = refl; kind = inl (refl, inr refl) }; coded = protected₅; arrived = arrived_of width (0 ∷ []); accepted = takes_0 width held }) refl judged₅

    wrong_step : (c : Connection) (x : Told) → Tells c random d₅ r₅ x → reply_size x.answer ≡ 0
        → step_of c (receive (protected_datagram k C.Handshake 0 (finished_of wrong)) random out) ≡ record { result = one_answer x.answer 0; output = out; connection = x.connection }
    unfolding d₅ r₅
    wrong_step c x told ea =
        one_silent c d₅ random out r₅ x lr lo
        (protected_framed C.Handshake 0 (omega arith) (unit_key k 0) plan.mac (finished_of wrong) (omega (arith, size_most plan.mac))) told ea

  -- data
  d₄ : List ℕ
  d₄ = protected_datagram k C.Data 1 bytes

  r₄ : Record
  r₄ = read_back false true C.Data 1 (length bytes + size_of plan.mac)

  w₄ : Window
  w₄ = window_of width (1 ∷ 0 ∷ [])

  h₄ : Handshake
  h₄ = with_window h₃ w₄

  protected₄ : Protected k d₄ r₄ bytes
  unfolding d₄ r₄
  protected₄ = record { is_protected = refl; is_coded = protected_fragment C.Data 1 (omega arith) (unit_key k 1) plan.mac bytes }

  row₄ : (s : SentRecords) → Row h₃ s random d₄ r₄ (judged (W.Data 1 3 (length bytes)) h₄)
  unfolding h₁ answered_with h₂ h₃ h₄ r₄ w₃ w₄
  row₄ s =
      row_data bytes w₄ (record { guarded = record { protection = refl; kind = inr refl }; coded = protected₄; arrived = arrived_of width (1 ∷ 0 ∷ []); accepted = takes_1 width held }) refl some

  open₃ : h₃.state ≡ S.Open
  unfolding h₃
  open₃ = refl

  -- data, on a connection whose open handshake is h₃
  j₄ : Judged
  j₄ = judged (W.Data 1 3 (length bytes)) h₄

  told₄ : (s : SentRecords) → Tells (connection_of h₃ none_started s) random d₄ r₄ (told_by (connection_of h₃ none_started s) Y.Open j₄)
  unfolding r₄ j₄
  told₄ s =
      tells (asks_protected open₃ refl (λ q. let z : C.Data ≡ C.Handshake = q.handshake in let w : ◌≡◌ {A = ℕ} 0 1 = cc in omega arith)) (row₄ s)
      (left_of (connection_of h₃ none_started s) j₄ Y.Open)

  c₄ : SentRecords → Connection
  c₄ s = left_by (connection_of h₃ none_started s) Y.Open j₄

  data_step_lem : (s : SentRecords) → step_of (connection_of h₃ none_started s) (receive (protected_datagram k C.Data 1 bytes) random out)
      ≡ record { result = one_answer (W.Data 1 3 (length bytes)) 0; output = out; connection = c₄ s }
  unfolding d₄ r₄ j₄ c₄
  data_step_lem s =
      one_silent (connection_of h₃ none_started s) d₄ random out r₄ (told_by (connection_of h₃ none_started s) Y.Open j₄) lr lo
      (protected_framed C.Data 1 (omega arith) (unit_key k 1) plan.mac bytes (omega (arith, size_most plan.mac))) (told₄ s) refl

  as_sent : handed_of (protected_datagram k C.Data 1 bytes) (W.Data 1 3 (length bytes)) ≡ bytes
  unfolding d₄ r₄
  as_sent = handed_part k d₄ r₄ bytes some protected₄

  -- the datagrams, the records in them, and what each leaves
  pub walk : Walk id secret width random bytes
  unfolding d₁ d₂ d₃ d₄ r₁ r₂ r₃ r₄ h₁ answered_with h₂ h₃ w₃
  walk =
      record {
        d₁ = d₁;
        d₂ = d₂;
        d₃ = d₃;
        d₄ = d₄;
        r₁ = r₁;
        r₂ = r₂;
        r₃ = r₃;
        r₄ = r₄;
        h₁ = h₁;
        h₂ = h₂;
        h₃ = h₃;
        h₄ = h₄;
        reply = length (reply_to session random m plan);
        framed₁ = clear_framed C.Handshake 0 (omega arith) m hello_some hello_most;
        framed₂ = clear_framed C.ChangeCipherSpec 1 (omega arith) change_bytes (omega arith) (omega arith);
        framed₃ = protected_framed C.Handshake 0 (omega arith) (unit_key k 0) plan.mac (finished_of expected) (omega (arith, size_most plan.mac, expected_size session random m plan));
        framed₄ = protected_framed C.Data 1 (omega arith) (unit_key k 1) plan.mac bytes (omega (arith, size_most plan.mac));
        row₁ = row₁;
        row₂ = row₂;
        row₃ = row₃;
        row₄ = row₄;
        replied_is = refl;
        spec_is = refl;
        open_is = refl;
        window_is = refl;
        next_is = refl;
        protected₄ = refl;
        greeted = m;
        kept_is = take_at m (replicate (256 - length m) 0) (length m) refl;
        planted_is = refl;
      }

  -- what it agreed
  pub walk_mac : walk.h₃.protection.keys.mac ≡ plan.mac
  unfolding walk h₁ answered_with h₂ h₃
  walk_mac = refl

  pub walk_refresh : walk.h₃.protection.keys.refresh ≡ plan.refresh
  unfolding walk h₁ answered_with h₂ h₃
  walk_refresh = refl

  pub walk_clear : walk.h₁.protection.clear ≡ 2
  unfolding walk h₁ answered_with
  walk_clear = refl

  pub walk_hello : walk.greeted ≡ m
  unfolding walk
  walk_hello = refl

  -- from fresh
  abbrev fresh : Connection
  fresh = alone (fresh_with id secret width)

  pub worked : Worked step_of id secret width m random out bytes plan
  unfolding list h₂ h₃
  worked =
      record {
        c₁ = connection_of h₁ none_started (list no_records);
        c₂ = connection_of h₂ none_started (list no_records);
        c₃ = connection_of h₃ none_started (list no_records);
        c₄ = c₄ (list no_records);
        replied = hello_step fresh (told_by fresh Y.Only (judged (W.Reply (length (reply_to session random m plan))) h₁)) (tells (asks_only idle_not) (row₁ no_records) left_only) refl refl;
        changed = change_step (connection_of h₁ none_started (list no_records)) (told_by (connection_of h₁ none_started (list no_records)) Y.Only (judged W.Spec h₂)) (tells (asks_only replied_not) (row₂ (list no_records)) left_only) refl;
        opened = finished_step (connection_of h₂ none_started (list no_records)) (told_by (connection_of h₂ none_started (list no_records)) Y.Only (judged W.Open h₃)) (tells (asks_only spec_not) (row₃ (list no_records)) left_only) refl;
        handed = data_step_lem (list no_records);
        as_sent = as_sent;
      }

  -- beside an open one
  module _ (c : Connection) (o : c.handshake.state ≡ S.Open) (session_is : planted c.handshake ≡ session) (width_is : c.handshake.protection.window.width ≡ width)
      (other : m ≢ kept_hello c.handshake) (others : Hears c.started.state → m ≢ kept_hello c.started) where
    newcomer_is : newcomer_to c.handshake ≡ fresh_with id secret width
    newcomer_is = ap₂ (λ s n. new_handshake s n S.Idle) session_is width_is

    told₁ : Tells c random d₁ r₁ (record { answer = W.Reply (length (reply_to session random m plan)); connection = connection_of c.handshake h₁ (list c.sent); beside = true })
    unfolding r₁ list
    told₁ =
        tells (asks_new_hello o hello₁ refl (λ s q. others s (sym fragment₁ ∙ q)) (λ q. other (sym fragment₁ ∙ q)))
        (subst (λ h. Row h c.sent random d₁ r₁ (judged (W.Reply (length (reply_to session random m plan))) h₁)) (sym newcomer_is) (row₁ c.sent))
        (left_greeted (inl replied_state))

    abbrev e₁ : Connection
    e₁ = connection_of c.handshake h₁ (list c.sent)

    change_no_hello : {P : Type 0} → C.ChangeCipherSpec ≡ C.Handshake → P
    change_no_hello z = let w : ◌≡◌ {A = ℕ} 0 1 = cc in absurd (omega arith)

    told₂ : Tells e₁ random d₂ r₂ (record { answer = W.Spec; connection = connection_of c.handshake h₂ (list c.sent); beside = true })
    unfolding r₂ h₂
    told₂ = tells (asks_clear o refl (λ i. change_no_hello i.handshake) (inl replied_state)) (row₂ (list c.sent)) (left_started spec_not (live_over S.Spec refl))

    abbrev e₂ : Connection
    e₂ = connection_of c.handshake h₂ (list c.sent)

    keys₂ : keys_of h₂ ≡ k
    unfolding h₁ answered_with h₂
    keys₂ = refl

    right₃ : RightBeside e₂ d₃ r₃
    unfolding r₃ h₂
    right₃ =
        record { is_open = o; in_spec = refl; handshake = refl; content = finished_of expected; coded = subst (λ x. Protected x d₃ r₃ (finished_of expected)) (sym keys₂) protected₃ }

    told₃ : Tells e₂ random d₃ r₃ (record { answer = W.Open; connection = connection_of h₃ none_started (list c.sent); beside = true })
    unfolding h₃
    told₃ = tells (asks_right right₃) (row₃ (list c.sent)) (left_replaced refl)

    right₅ : (wrong : List ℕ) (lw : length wrong ≡ 12) (differs : wrong ≢ expected) → RightBeside e₂ (d₅ wrong lw differs) (r₅ wrong lw differs)
    unfolding r₅ h₂
    right₅ wrong lw differs =
        record {
          is_open = o;
          in_spec = refl;
          handshake = refl;
          content = finished_of wrong;
          coded = subst (λ x. Protected x (d₅ wrong lw differs) (r₅ wrong lw differs) (finished_of wrong)) (sym keys₂) (protected₅ wrong lw differs);
        }

    drops₅ : (wrong : List ℕ) → length wrong ≡ 12 → wrong ≢ expected
        → step_of e₂ (receive (protected_datagram k C.Handshake 0 (finished_of wrong)) random out)
        ≡ record { result = one_answer (W.Refused X.WrongFinished) 0; output = out; connection = connection_of c.handshake none_started (list c.sent) }
    drops₅ wrong lw differs =
        wrong_step wrong lw differs e₂ (record { answer = W.Refused X.WrongFinished; connection = connection_of c.handshake none_started (list c.sent); beside = true })
        (tells (asks_right (right₅ wrong lw differs)) (row₅ wrong lw differs (list c.sent)) (left_dropped (inl refl))) refl

    clear₁ : h₁.protection.clear ≡ 2
    unfolding h₁ answered_with
    clear₁ = refl

    goes₁ : (step_of e₁ (send_alert false 1 0 [] out)).result ≡ sent (Ok tt) 9
    unfolding is_among
    goes₁ =
        (exactly-alert.goes e₁ false 1 0 [] out).1
        (subst (λ s. AlertGoes false s.state 1 0 0 (alert_number_of false s) (alert_code_of false s) (length out)) (sym (ap (clear_sender e₁) o))
        ((lit≤ tt, lit≤ tt, refl, lit≤ tt), inl replied_state, omega (arith, clear₁), omega arith))

    keys₃ : keys_of h₃ ≡ k
    unfolding h₁ answered_with h₂ h₃
    keys₃ = refl

    hello₃ : kept_hello h₃ ≡ m
    unfolding h₁ answered_with h₂ h₃
    hello₃ = take_at m (replicate (256 - length m) 0) (length m) refl

    reply₃ : kept_reply h₃ ≡ reply_to session random m plan
    unfolding h₁ answered_with h₂ h₃
    reply₃ = take_at (reply_to session random m plan) (replicate (84 - length (reply_to session random m plan)) 0) (length (reply_to session random m plan)) refl

    pub rebooted : Rebooted step_of secret c session m random out bytes plan
    rebooted =
        record {
          c₁ = e₁;
          c₂ = e₂;
          c₃ = connection_of h₃ none_started (list c.sent);
          c₄ = c₄ (list c.sent);
          replied = hello_step c (record { answer = W.Reply (length (reply_to session random m plan)); connection = e₁; beside = true }) told₁ refl refl;
          changed = change_step e₁ (record { answer = W.Spec; connection = e₂; beside = true }) told₂ refl;
          opened = finished_step e₂ (record { answer = W.Open; connection = connection_of h₃ none_started (list c.sent); beside = true }) told₃ refl;
          handed = data_step_lem (list c.sent);
          open_kept = (refl, refl);
          alert_goes = goes₁;
          wrong_drops = drops₅;
          replaced = (keys₃, hello₃, reply₃, refl);
        }

pub reboots : Reboots step_of
unfolding Reboots
reboots id secret width held c o session_is width_is m random out bytes plan lr lo other others e some most =
    rebooted id secret width held m random out bytes plan lr lo e some most c o session_is width_is other others

pub it_works : Works step_of
unfolding Works
it_works id secret width held m random out bytes plan lr lo e some most = worked id secret width held m random out bytes plan lr lo e some most
