-- The cases are met by the worked handshake, with SHA_80 and with SHA: its run, one record more, and then the record in question. The
-- window computes; a forged code is the right one with each byte changed.
use mathlib.Core.Logic.{inr}
use mathlib.Core.Path.{◌≡◌, refl, sym, ◌∙◌, ap, ap₂, subst}
use mathlib.Core.Bool.{Bool, true, false}
use mathlib.Core.List.{List, [], ◌∷◌, ◌++◌, map, append-nil}
use Prim.Native.Nat.{ℕ, ◌+◌, ◌≤◌, ◌<◌}
use native.Mathlib.Omega.{arith}
use lib.Count.{ones}
use lib.Dec.{eqb, lit≤}
use lib.ListN.{length, take, drop, length-append, length-map}
use borrow.Author.Tests.{eqb-true, eqb-false}
use Rattle.digest.specs.Pick.{pick}
use Rattle.digest.specs.Hmac.{hmac}
use Rattle.digest.specs.Mac.{size_of}
use Rattle.digest.specs.declared.mac.Mac.{Mac}
use Rattle.digest.specs.declared.mac.Mac.TheVariants.{Sha80, Sha}
use Rattle.record.specs.Code.{code_by, fragment_by}
use Rattle.record.specs.Keys.{key_number}
use Rattle.record.specs.History.{highest_of, accepted, marks_from, mark_of}
use Rattle.record.specs.Window.{accept_of, accept_by, held_width}
use Rattle.record.specs.Written.{record_of, byte_for}
use Rattle.record.specs.Datagram.{framed, framing_of}
use Rattle.record.specs.declared.header.Content.TheVariants as C
use Rattle.record.specs.declared.keys.Keys.{Keys}
use Rattle.record.specs.declared.reader.Record.{Record}
use Rattle.record.specs.declared.window.Window.{Window}
use Rattle.record.specs.declared.window.NotNew.TheVariants as A
use Rattle.record.proofs.Fronts.{record_length}
use Rattle.record.proofs.RoundTrip.{read_back, read_short, fragment_back}
use Rattle.record.proofs.ProtectedBytes.{protected_length, size_most, size_some}
use Rattle.message.specs.declared.alert.Description.TheVariants as D
use Rattle.message.specs.declared.alert.Level.TheVariants as L
use Rattle.message.proofs.AlertLaws.{level_back, description_back}
use Rattle.connection.specs.Answer.{judged, refusing}
use Rattle.connection.specs.Handshake.{with_window}
use Rattle.connection.specs.Judge.{judged_record, fragment_of}
use Rattle.connection.specs.Send.{alert_sent, sender_of, clear_sender}
use Rattle.connection.specs.declared.answer.Answer.TheVariants as W
use Rattle.connection.specs.declared.answer.Judged.{Judged}
use Rattle.connection.specs.declared.handshake.Handshake.{Handshake}
use Rattle.connection.specs.declared.refusal.Refusal.TheVariants as X
use Rattle.connection.specs.declared.state.State.TheVariants as S
use Rattle.demands.specs.Seen.{seen_in}
use Rattle.demands.specs.Runs.{step_of}
use Rattle.demands.specs.Genuine.{Protected, keys_of, unit_key}
use Rattle.demands.specs.Table.{Row, Guarded, row_forged, row_old, row_repeated, row_data}
use Rattle.demands.specs.Calls.{may_alert, alert_sent_lem}
use Rattle.demands.specs.Events.{Event, took, AllSound, after}
use Rattle.demands.specs.Past.{is_data}
use Rattle.demands.specs.Traps.{last_protected}
use Rattle.demands.specs.Example.{example_id, example_secret, example_width, example_random, example_out, example_data}
use Rattle.demands.specs.Instances.{example_fresh}
use Rattle.demands.specs.Cases.{OpenWith, Answered, Crossed, SentClear, Cases}
use Rattle.demands.proofs.Table.{row_is}
use Rattle.demands.proofs.Calls.{call_is}
use Rattle.demands.proofs.Refusals.{outcome_in}
use Rattle.demands.proofs.Lives.{after_more, sound_more}
use Rattle.demands.proofs.Wire.{lone}
use Rattle.demands.proofs.Works.{Walk}
use Rattle.demands.proofs.Example.{example_walk, sha_walk, example_mac, sha_mac, example_refresh, example_clear, opening, opening_sound, opening_leaves, opening_open}
use Rattle.demands.proofs.Traps.{w₀, w₇, single, single_framed, single_protected}
use Rattle.connection.specs.Connection.{alone}
use Rattle.connection.specs.Sent.{no_records}
use Rattle.std.specs.Prelude.{Err, Ok}

-- ---- both MAC kinds

open_with : (w : Walk example_id example_secret example_width example_random example_data) (mac : Mac) → w.h₃.protection.keys.mac ≡ mac → OpenWith mac
open_with w mac e =
    let leaves : after example_fresh (opening example_id example_secret example_random example_data refl w) ≡ w.h₃
    = opening_leaves example_id example_secret example_random example_data refl w in
    record {
      es = opening example_id example_secret example_random example_data refl w;
      sound = opening_sound example_id example_secret example_random example_data refl w;
      is_open = opening_open example_id example_secret example_random example_data refl w;
      kind = ap (λ h. h.protection.keys.mac) leaves ∙ e;
      random = example_random;
      d = w.d₄;
      r = w.r₄;
      here = (refl, record { before = []; behind = []; framing = w.framed₄ });
      handed = ap (λ x. is_data (judged_record x no_records example_random w.d₄ w.r₄).answer) leaves ∙ ap (λ j. is_data j.answer) (row_is w.h₃ no_records example_random w.d₄ w.r₄ (w.row₄ no_records));
    }

-- ---- the worked run, and what it leaves

abbrev w : Walk example_id example_secret example_width example_random example_data
w = example_walk

abbrev pub h : Handshake
h = w.h₃

pub open_is : h.state ≡ S.Open
open_is = w.open_is

abbrev k : Keys
k = keys_of h

run : List Event
run = opening example_id example_secret example_random example_data refl example_walk

run_sound : AllSound run
unfolding run
run_sound = opening_sound example_id example_secret example_random example_data refl example_walk

run_leaves : after example_fresh run ≡ h
unfolding run
run_leaves = opening_leaves example_id example_secret example_random example_data refl example_walk

-- a record of one datagram, behind a run that leaves x
module _ (es : List Event) (x : Handshake) (sound : AllSound es) (leaves : after example_fresh es ≡ x) (is_open : x.state ≡ S.Open) (same : x.protection.keys.mac ≡ h.protection.keys.mac) where
  at_open : (d : List ℕ) (r : Record) (j : Judged) → framing_of d ≡ framed (r ∷ []) → r.protected ≡ true → size_of k.mac ≤ r.size
      → Row x no_records example_random d r j → Answered j.answer
  at_open d r j f p l row =
      record {
        es = es;
        sound = sound;
        is_open = ap (λ y. y.state) leaves ∙ is_open;
        random = example_random;
        d = d;
        r = r;
        here = (refl, record { before = []; behind = []; framing = f });
        protected = p;
        whole = subst (λ m. size_of m ≤ r.size) (sym (ap (λ y. y.protection.keys.mac) leaves ∙ same)) l;
        answered = ap (λ y. (judged_record y no_records example_random d r).answer) leaves ∙ ap (λ z. z.answer) (row_is x no_records example_random d r row);
      }

-- ---- data of the unit, under a number

module _ (s : ℕ) (inside : s ≤ 65535) where
  abbrev pub data_with : List ℕ
  data_with = last_protected k C.Data s example_data

  abbrev pub data_record : Record
  data_record = single k C.Data s inside example_data

  pub data_framed : framing_of data_with ≡ framed (data_record ∷ [])
  data_framed = single_framed k C.Data s inside example_data (lit≤ tt)

  data_whole : size_of k.mac ≤ data_record.size
  unfolding single
  data_whole = omega arith

  pub data_protected : data_record.protected ≡ true
  unfolding single
  data_protected = refl

  -- in the window x
  module _ (x : Window) where
    guarded : Guarded h.state (seen_in data_with data_record)
    unfolding single
    guarded = record { protection = refl; kind = inr w.open_is }

    handed_row : (y : Window) (n : ℕ) → accept_of x s ≡ Ok (y, n)
        → Row (with_window h x) no_records example_random data_with data_record (judged (W.Data s 3 6) (with_window (with_window h x) y))
    unfolding single
    handed_row y n e =
        row_data example_data y (record { guarded = guarded; coded = single_protected k C.Data s inside example_data; arrived = n; accepted = e }) refl (lit≤ tt)

    pub old_row : accept_of x s ≡ Err A.TooOld → Row (with_window h x) no_records example_random data_with data_record (refusing X.TooOld (with_window h x))
    unfolding single
    old_row e = row_old example_data guarded (single_protected k C.Data s inside example_data) e

    pub repeated_row : accept_of x s ≡ Err A.Repeated → Row (with_window h x) no_records example_random data_with data_record (refusing X.Repeated (with_window h x))
    unfolding single
    repeated_row e = row_repeated example_data guarded (single_protected k C.Data s inside example_data) e

  -- the run with this data behind it
  pub run_with : List Event
  run_with = run ++ (took no_records example_random data_with data_record ∷ [])

  pub with_sound : AllSound run_with
  unfolding run_with
  with_sound =
      sound_more run (took no_records example_random data_with data_record) run_sound (refl, record { before = []; behind = []; framing = data_framed })

  pub with_leaves : (y : Window) (n : ℕ) → accept_of (w₀ example_width) s ≡ Ok (y, n) → after example_fresh run_with ≡ with_window h y
  unfolding run_with after w₀
  with_leaves y n e =
      after_more example_fresh run (took no_records example_random data_with data_record)
      ∙ ap (λ z. (judged_record z no_records example_random data_with data_record).handshake) (run_leaves ∙ begun)
      ∙ ap (λ j. j.handshake) (row_is (with_window h (w₀ example_width)) no_records example_random data_with data_record (handed_row (w₀ example_width) y n e))
    where
      begun : h ≡ with_window h (w₀ example_width)
      begun = λ i. with_window h (w.window_is i)

-- ---- the windows

unfoldable pub w₈₀ : Window
w₈₀ = record { width = example_width; highest = 80; marks = 1 }

unfoldable w₉ : Window
w₉ = record { width = example_width; highest = 9; marks = 513 }

unfoldable w₉₇ : Window
w₉₇ = record { width = example_width; highest = 9; marks = 517 }

pub takes_80 : accept_of (w₀ example_width) 80 ≡ Ok (w₈₀, 1)
unfolding w₀ w₈₀ accept_by held_width ones marks_from mark_of highest_of accepted
takes_80 = refl

pub old_7 : accept_of w₈₀ 7 ≡ Err A.TooOld
unfolding w₈₀ accept_by held_width ones
old_7 = refl

pub takes_7 : accept_of (w₀ example_width) 7 ≡ Ok (w₇ example_width, 2)
unfolding w₀ w₇ accept_by held_width ones marks_from mark_of highest_of accepted
takes_7 = refl

pub again_7 : accept_of (w₇ example_width) 7 ≡ Err A.Repeated
unfolding w₇ accept_by held_width ones marks_from mark_of highest_of accepted
again_7 = refl

takes_9 : accept_of (w₀ example_width) 9 ≡ Ok (w₉, 2)
unfolding w₀ w₉ accept_by held_width ones marks_from mark_of highest_of accepted
takes_9 = refl

late_7 : accept_of w₉ 7 ≡ Ok (w₉₇, 3)
unfolding w₉ w₉₇ accept_by held_width ones
late_7 = refl

pub seven : 7 ≤ 65535
seven = lit≤ tt

nine : 9 ≤ 65535
nine = lit≤ tt

pub eighty : 80 ≤ 65535
eighty = lit≤ tt

-- ---- too old, repeated, late

too_old : Answered (W.Refused X.TooOld)
too_old =
    at_open (run_with 80 eighty) (with_window h w₈₀) (with_sound 80 eighty) (with_leaves 80 eighty w₈₀ 1 takes_80) w.open_is refl (data_with 7 seven) (data_record 7 seven) _
    (data_framed 7 seven) (data_protected 7 seven) (data_whole 7 seven) (old_row 7 seven w₈₀ old_7)

repeated : Answered (W.Refused X.Repeated)
repeated =
    at_open (run_with 7 seven) (with_window h (w₇ example_width)) (with_sound 7 seven) (with_leaves 7 seven (w₇ example_width) 2 takes_7) w.open_is refl (data_with 7 seven) (data_record 7 seven) _
    (data_framed 7 seven) (data_protected 7 seven) (data_whole 7 seven) (repeated_row 7 seven (w₇ example_width) again_7)

crossed : Crossed
unfolding at_open single w₉ key_number
crossed =
    let left : after example_fresh (run_with 9 nine) ≡ with_window h w₉ = with_leaves 9 nine w₉ 2 takes_9 in
    record {
      late = at_open (run_with 9 nine) (with_window h w₉) (with_sound 9 nine) left w.open_is refl (data_with 7 seven) (data_record 7 seven) _
          (data_framed 7 seven) (data_protected 7 seven) (data_whole 7 seven) (handed_row 7 seven w₉ w₉₇ 3 late_7);
      its_number = refl;
      highest = ap (λ x. x.protection.window.highest) left;
      key_behind = ap (λ x. key_number x.protection.keys.refresh 9) left ∙ ap (λ n. key_number n 9) example_refresh;
      key_before = ap (λ x. key_number x.protection.keys.refresh 7) left ∙ ap (λ n. key_number n 7) example_refresh;
    }

-- ---- forged

-- another byte
abbrev other : ℕ → ℕ
other x = pick (eqb x 0) 1 0

other_not : (x : ℕ) → other x ≡ x → ⊥
other_not x e = by (eqb x 0) refl
  where
    by : (b : Bool) → eqb x 0 ≡ b → ⊥
    by true t = let z : ◌≡◌ {A = ℕ} 1 0 = sym (ap (λ (c : Bool). pick c 1 0) t) ∙ e ∙ eqb-true x 0 t in omega arith
    by false f = eqb-false x 0 f (sym e ∙ ap (λ (c : Bool). pick c 1 0) f)

others_not : (l : List ℕ) → 0 < length l → map other l ≡ l → ⊥
others_not [] some e = omega arith
others_not (x ∷ l) some e = let first : other x ≡ x = cc in other_not x first

-- two lists with fronts of one length
cancel : (a b x y : List ℕ) → length a ≡ length b → a ++ x ≡ b ++ y → (a ≡ b) × (x ≡ y)
cancel [] [] x y n e = (refl, e)
cancel [] (v ∷ b) x y n e = let z : ◌≡◌ {A = ℕ} 0 1 = cc in absurd (omega arith)
cancel (u ∷ a) [] x y n e = let z : ◌≡◌ {A = ℕ} 0 1 = cc in absurd (omega arith)
cancel (u ∷ a) (v ∷ b) x y n e =
    let first : u ≡ v = cc in
    let rest : a ++ x ≡ b ++ y = cc in
    let less : length a ≡ length b = omega arith in
    let q = cancel a b x y less rest in
    (ap₂ (λ s t. s ∷ t) first q.0, q.1)

abbrev byte : ℕ
byte = byte_for false true C.Data

forged_code : List ℕ
forged_code = map other (code_by (hmac (unit_key k 7)) (size_of k.mac) 7 byte example_data)

forged_fragment : List ℕ
forged_fragment = example_data ++ forged_code

code_length : length (code_by (hmac (unit_key k 7)) (size_of k.mac) 7 byte example_data) ≡ size_of k.mac
unfolding fragment_by
code_length =
    omega (arith, protected_length (unit_key k 7) k.mac 7 byte example_data, length-append example_data (code_by (hmac (unit_key k 7)) (size_of k.mac) 7 byte example_data))

fragment_length : length forged_fragment ≡ 6 + size_of k.mac
unfolding forged_fragment forged_code
fragment_length =
    length-append example_data (map other (code_by (hmac (unit_key k 7)) (size_of k.mac) 7 byte example_data))
    ∙ ap (λ n. 6 + n) (length-map (code_by (hmac (unit_key k 7)) (size_of k.mac) 7 byte example_data) other ∙ code_length)

abbrev forged_datagram : List ℕ
forged_datagram = record_of false true C.Data 7 forged_fragment

forged_record : Record
forged_record = read_back false true C.Data 7 (length forged_fragment)

forged_framed : framing_of forged_datagram ≡ framed (forged_record ∷ [])
unfolding forged_record
forged_framed =
    let size = record_length false true C.Data 7 forged_fragment in
    lone forged_datagram (read_back false true C.Data 7 (length forged_fragment))
    (read_short true C.Data 7 forged_fragment (omega arith) (omega (arith, fragment_length))) (sym size)
    (omega (arith, size)) (omega (arith, size, fragment_length, size_most k.mac))

forged_back : fragment_of forged_datagram forged_record ≡ forged_fragment
unfolding forged_record
forged_back =
    ap (λ s. take (length forged_fragment) (drop 3 s)) (sym (append-nil forged_datagram)) ∙ fragment_back false true C.Data 7 forged_fragment []

not_protected : (c : List ℕ) → Protected k forged_datagram forged_record c → ⊥
unfolding forged_record forged_fragment forged_code fragment_by
not_protected c s =
    let code : List ℕ = code_by (hmac (unit_key k 7)) (size_of k.mac) 7 byte example_data in
    let its : List ℕ = code_by (hmac (unit_key k 7)) (size_of k.mac) 7 byte c in
    let same : example_data ++ map other code ≡ c ++ its = sym forged_back ∙ s.is_coded in
    let long : length example_data ≡ length c
    = omega (arith, ap length same, length-append example_data (map other code), length-map code other, code_length, length-append c its, protected_length (unit_key k 7) k.mac 7 byte c) in
    let q = cancel example_data c (map other code) its long same in
    others_not code (omega (arith, code_length, size_some k.mac))
    (q.1 ∙ ap (code_by (hmac (unit_key k 7)) (size_of k.mac) 7 byte) (sym q.0))

forged : Answered (W.Refused X.Forged)
unfolding forged_record
forged =
    at_open run h run_sound run_leaves w.open_is refl forged_datagram forged_record (refusing X.Forged h) forged_framed refl (omega (arith, fragment_length))
    (row_forged (record { protection = refl; kind = inr w.open_is }) not_protected)

-- ---- an alert that is sent clear

clear_is_done : (x : Handshake) → x.state ≡ S.Replied → x.protection.clear ≡ 2 → (alert_sent (alone x) false 1 0 [] (length example_out)).outcome ≡ Ok tt
unfolding step_of
clear_is_done x s n =
    let sender : sender_of false (alone x) ≡ x = ap (clear_sender (alone x)) s in
    ap (λ z. outcome_in z.result)
    (call_is (alone x) (alert_sent_lem {protected = false} {out = example_out} {l = L.Warning} {k = D.ConnectionCloseNotify} (record { level_is = level_back L.Warning; description_is = description_back D.ConnectionCloseNotify; lent_most = lit≤ tt })
    (ap (λ y. may_alert false y.state) sender ∙ ap (may_alert false) s) (omega (arith, ap (λ y. y.protection.clear) sender ∙ n)) (lit≤ tt)))

sent_clear : SentClear
unfolding after
sent_clear =
    let left : (judged_record example_fresh no_records example_random w.d₁ w.r₁).handshake ≡ w.h₁ = ap (λ j. j.handshake) (row_is example_fresh no_records example_random w.d₁ w.r₁ (w.row₁ no_records)) in
    record {
      es = took no_records example_random w.d₁ w.r₁ ∷ [];
      sound = ((refl, record { before = []; behind = []; framing = w.framed₁ }), tt);
      is_replied = ap (λ x. x.state) left ∙ w.replied_is;
      out = example_out;
      done = ap (λ x. (alert_sent (alone x) false 1 0 [] (length example_out)).outcome) left ∙ clear_is_done w.h₁ w.replied_is example_clear;
    }

pub cases : Cases
cases =
    record {
      sha_80 = open_with example_walk Sha80 example_mac;
      sha = open_with sha_walk Sha sha_mac;
      forged = forged;
      too_old = too_old;
      repeated = repeated;
      crossed = crossed;
      sent_clear = sent_clear;
    }
