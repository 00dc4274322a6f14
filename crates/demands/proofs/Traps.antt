-- The small cases of demand 3. Each datagram is made of records that are read back as they were made (`Wire`); the window answers by its history.
use mathlib.Core.Logic.{inr}
use mathlib.Core.Path.{◌≡◌, refl, sym, ◌∙◌, ap, ap₂}
use mathlib.Core.Bool.{true, false}
use mathlib.Core.List.{List, [], ◌∷◌, ◌++◌}
use Prim.Native.Nat.{ℕ, suc, ◌+◌, ◌≤◌}
use native.Mathlib.Omega.{arith}
use lib.ListN.{length, length-append}
use Rattle.digest.specs.Mac.{size_of}
use Rattle.record.specs.Window.{accept_of, Held}
use Rattle.record.specs.History.{accepted, highest_of, window_of, arrived_of}
use Rattle.record.specs.Datagram.{framed, after, placed_at, framing_from, framing_of}
use Rattle.record.specs.declared.header.Content.{Content}
use Rattle.record.specs.declared.header.Content.TheVariants as C
use Rattle.record.specs.declared.reader.Record.{Record}
use Rattle.record.specs.declared.window.Window.{Window}
use Rattle.record.specs.declared.window.NotNew.TheVariants as A
use Rattle.record.proofs.Histories.{meaning, new_when, repeated_when}
use Rattle.record.proofs.RoundTrip.{read_back}
use Rattle.record.proofs.ProtectedBytes.{size_most}
use Rattle.message.specs.Alert.{alert_bytes}
use Rattle.message.specs.declared.alert.Level.TheVariants as L
use Rattle.message.proofs.AlertLaws.{alert_back}
use Rattle.connection.specs.Answer.{judged, refusing, reply_size}
use Rattle.connection.specs.Handshake.{with_state, with_window}
use Rattle.connection.specs.Receive.{slots_of}
use Rattle.connection.specs.declared.state.State.TheVariants as S
use Rattle.connection.specs.declared.refusal.Refusal.TheVariants as X
use Rattle.connection.specs.declared.answer.Answer.{Answer}
use Rattle.connection.specs.declared.answer.Answer.TheVariants as W
use Rattle.connection.specs.declared.answer.Judged.{Judged}
use Rattle.connection.specs.declared.connection.Connection.{Connection}
use Rattle.connection.specs.declared.handshake.Handshake.{Handshake}
use Rattle.connection.specs.declared.receive.Untaken.TheVariants as T
use Rattle.demands.specs.Seen.{seen_in}
use Rattle.demands.specs.Runs.{receive, received, step_of}
use Rattle.record.specs.declared.keys.Keys.{Keys}
use Rattle.demands.specs.Genuine.{Protected, keys_of, unit_key}
use Rattle.demands.specs.Table.{Row, New, Guarded, row_repeated, row_malformed, row_data, row_critical}
use Rattle.demands.specs.Calls.{Chain, chain_end, chain_more}
use Rattle.demands.specs.Traps.{long_protected, last_protected, EmptyThenData, TwiceInOne, ClosedBetween}
use Rattle.demands.specs.Asked.{Tells, tells, asks_protected}
use Rattle.demands.proofs.Asked.{left_of, tells_is, tells_seven}
use Rattle.connection.specs.Told.{left_by}
use Rattle.connection.specs.declared.asked.Whom.TheVariants as Y
use Rattle.connection.specs.declared.told.Told.{Told}
use Rattle.demands.proofs.Calls.{by_chain, call_is}
use Rattle.demands.proofs.Refusals.{no_reply}
use Rattle.demands.proofs.Wire.{front_framed, last_framed, sized, size_protected, protected_read, protected_framed, protected_fragment, long_size, long_read, long_fragment, behind}
use Rattle.connection.specs.declared.sent.SentRecords.{SentRecords}
use Rattle.std.specs.Prelude.{Err, Ok}

-- the result of a receive, by its chain, where the first record gets no reply
result_by : (c : Connection) (d random out : List ℕ) (r : Record) (rs : List Record) (x : Told) (answers : List Answer) (last : Connection)
    → length random ≡ 16 → 128 ≤ length out → framing_of d ≡ framed (r ∷ rs) → Tells c random d r x → reply_size x.answer ≡ 0
    → Chain random d x.connection rs answers last
    → (step_of c (receive d random out)).result ≡ received (Ok (suc (length rs))) (slots_of (x.answer ∷ answers)) 0
result_by c d random out r rs x answers last e l f row z more =
    ap (λ s. s.result) (call_is c (by_chain c {out = out} e l f (chain_more row more)))
    ∙ ap (λ y. received (Ok (suc (length rs))) (slots_of (x.answer ∷ answers)) (length y))
    (no_reply c random d r rs (ap (λ y. reply_size y.answer) (tells_is c random d r row) ∙ z))

left_by_lem : (c : Connection) (d random out : List ℕ) (r : Record) (rs : List Record) (x : Told) (answers : List Answer) (last : Connection)
    → length random ≡ 16 → 128 ≤ length out → framing_of d ≡ framed (r ∷ rs) → Tells c random d r x
    → Chain random d x.connection rs answers last → (step_of c (receive d random out)).connection ≡ last
left_by_lem c d random out r rs x answers last e l f row more =
    ap (λ s. s.connection) (call_is c (by_chain c {out = out} e l f (chain_more row more)))

-- a protected record that is no handshake record is for the open handshake
abbrev open_by : Connection → Judged → Told
open_by c j = record { answer = j.answer; connection = left_by c Y.Open j; beside = false }

open_tells : (c : Connection) (random d : List ℕ) (r : Record) (j : Judged) → c.handshake.state ≡ S.Open → r.protected ≡ true → (r.content ≡ C.Handshake → ⊥)
    → Row c.handshake c.sent random d r j → Tells c random d r (open_by c j)
open_tells c random d r j o p n row = tells (asks_protected o p (λ q. n q.handshake)) row (left_of c j Y.Open)

data_no : C.Data ≡ C.Handshake → ⊥
data_no z = let w : ◌≡◌ {A = ℕ} 0 1 = cc in omega arith

alert_no : C.Alert ≡ C.Handshake → ⊥
alert_no z = let w : ◌≡◌ {A = ℕ} 0 1 = cc in omega arith

-- the windows
unfoldable pub w₀ : ℕ → Window
w₀ width = window_of width (0 ∷ [])

unfoldable pub w₇ : ℕ → Window
w₇ width = window_of width (7 ∷ 0 ∷ [])

unfoldable pub w₈ : ℕ → Window
w₈ width = window_of width (8 ∷ 7 ∷ 0 ∷ [])

takes_7 : (width : ℕ) → Held width → accept_of (w₀ width) 7 ≡ Ok (w₇ width, arrived_of width (7 ∷ 0 ∷ []))
unfolding w₀ w₇ highest_of accepted
takes_7 width held = meaning width held (0 ∷ []) 7 ∙ new_when width (0 ∷ []) 7 (omega (arith, held.0)) refl

again_7 : (width : ℕ) → Held width → accept_of (w₇ width) 7 ≡ Err A.Repeated
unfolding w₇ highest_of accepted
again_7 width held = meaning width held (7 ∷ 0 ∷ []) 7 ∙ repeated_when width (7 ∷ 0 ∷ []) 7 (omega (arith, held.0)) refl

takes_8 : (width : ℕ) → Held width → accept_of (w₇ width) 8 ≡ Ok (w₈ width, arrived_of width (8 ∷ 7 ∷ 0 ∷ []))
unfolding w₇ w₈ highest_of accepted
takes_8 width held = meaning width held (7 ∷ 0 ∷ []) 8 ∙ new_when width (7 ∷ 0 ∷ []) 8 (omega (arith, held.0)) refl

module _ (h : Handshake) (is_open : h.state ≡ S.Open) (width : ℕ) (held : Held width) (window_is : h.protection.window ≡ w₀ width) where
  guarded : (d : List ℕ) (r : Record) → r.protected ≡ true → Guarded h.state (seen_in d r)
  guarded d r p = record { protection = p; kind = inr is_open }

  pub new_7 : (d : List ℕ) (r : Record) (c : List ℕ) → r.number ≡ 7 → Protected (keys_of h) d r c → New h d r c (w₇ width)
  new_7 d r c e s =
      record {
        guarded = guarded d r s.is_protected;
        coded = s;
        arrived = arrived_of width (7 ∷ 0 ∷ []);
        accepted = ap₂ (λ w n. accept_of w n) window_is e ∙ takes_7 width held;
      }

  new_8 : (d : List ℕ) (r : Record) (c : List ℕ) → r.number ≡ 8 → Protected (keys_of h) d r c → New (with_window h (w₇ width)) d r c (w₈ width)
  new_8 d r c e s =
      record {
        guarded = guarded d r s.is_protected;
        coded = s;
        arrived = arrived_of width (8 ∷ 7 ∷ 0 ∷ []);
        accepted = ap (accept_of (w₇ width)) e ∙ takes_8 width held;
      }

  repeated_7 : (sent : SentRecords) (random d : List ℕ) (r : Record) (c : List ℕ) → r.number ≡ 7 → Protected (keys_of h) d r c
      → Row (with_window h (w₇ width)) sent random d r (refusing X.Repeated (with_window h (w₇ width)))
  repeated_7 sent random d r c e s = row_repeated c (guarded d r s.is_protected) s (ap (accept_of (w₇ width)) e ∙ again_7 width held)

-- ---- a record alone in its datagram

module _ (k : Keys) (content : Content) (s : ℕ) (inside : s ≤ 65535) (body : List ℕ) where
  unfoldable pub single : Record
  single = read_back false true content s (length body + size_of k.mac)

  pub single_framed : length body ≤ 1300 → framing_of (last_protected k content s body) ≡ framed (single ∷ [])
  unfolding single
  single_framed most = protected_framed content s inside (unit_key k s) k.mac body (omega (arith, size_most k.mac))

  pub single_protected : Protected k (last_protected k content s body) single body
  unfolding single
  single_protected = record { is_protected = refl; is_coded = protected_fragment content s inside (unit_key k s) k.mac body }

pub empty_then_data : EmptyThenData step_of
unfolding EmptyThenData single w₀
empty_then_data c o random out bytes lr lo most =
    let h : Handshake = c.handshake in
    let k : Keys = keys_of h in
    let d : List ℕ = last_protected k C.Data 7 [] in
    let e : List ℕ = last_protected k C.Data 7 bytes in
    let r : Record = single k C.Data 7 (omega arith) [] in
    let q : Record = single k C.Data 7 (omega arith) bytes in
    let j : Judged = refusing X.Malformed (with_window h (w₇ o.width)) in
    let g : Judged = refusing X.Repeated (with_window h (w₇ o.width)) in
    let row : Row h c.sent random d r j
    = row_malformed [] (w₇ o.width) (new_7 h o.is_open o.width o.held o.window_is d r [] refl (single_protected k C.Data 7 (omega arith) [])) refl in
    let c₁ : Connection = left_by c Y.Open j in
    let again : Row (with_window h (w₇ o.width)) c₁.sent random e q g
    = repeated_7 h o.is_open o.width o.held o.window_is c₁.sent random e q bytes refl (single_protected k C.Data 7 (omega arith) bytes) in
    let first = open_tells c random d r j o.is_open refl data_no row in
    let f = single_framed k C.Data 7 (omega arith) [] (omega arith) in (
      result_by c d random out r [] (open_by c j) [] c₁ lr lo f first refl chain_end,
      ap (λ x. (step_of x (receive e random out)).result) (left_by_lem c d random out r [] (open_by c j) [] c₁ lr lo f first chain_end)
          ∙ result_by c₁ e random out q [] (open_by c₁ g) [] (left_by c₁ Y.Open g) lr lo (single_framed k C.Data 7 (omega arith) bytes most)
          (open_tells c₁ random e q g o.is_open refl data_no again) refl chain_end,
    )

-- ---- records one behind the other

module _ (k : Keys) (t u : Content) (s v : ℕ) (is : s ≤ 65535) (iv : v ≤ 65535) (one two : List ℕ) (tail : List ℕ) (most : length one ≤ 600) where
  abbrev front : List ℕ
  front = long_protected k t s one

  -- the record at the front
  pub at_front : Record
  at_front = read_back true true t s (length one + size_of k.mac)

  pub front_protected : Protected k (long_protected k t s one ++ tail) at_front one
  unfolding at_front
  front_protected = record { is_protected = refl; is_coded = long_fragment t s is (unit_key k s) k.mac one tail }

  front_by : (room at : ℕ) → framing_from (suc room) at (long_protected k t s one ++ tail) ≡ after (placed_at at_front at ∷ []) (framing_from room (at + length (long_protected k t s one)) tail)
  unfolding at_front
  front_by room at =
      front_framed room at (long_protected k t s one) tail (read_back true true t s (length one + size_of k.mac)) (long_read t s is (unit_key k s) k.mac one tail (omega arith))
      (sym (long_size t s is (unit_key k s) k.mac one)) (omega (arith, long_size t s is (unit_key k s) k.mac one))

module _ (k : Keys) (u : Content) (v : ℕ) (iv : v ≤ 65535) (two : List ℕ) where
  -- the record at the end, behind others
  at_end : ℕ → Record
  at_end at = placed_at (read_back false true u v (length two + size_of k.mac)) at

  end_by : (room at : ℕ) → framing_from (suc room) at (last_protected k u v two) ≡ framed (at_end at ∷ [])
  unfolding at_end
  end_by room at =
      last_framed room at (last_protected k u v two) (read_back false true u v (length two + size_of k.mac)) (protected_read u v iv (unit_key k v) k.mac two)
      (sym (size_protected u v iv (unit_key k v) k.mac two)) (omega (arith, size_protected u v iv (unit_key k v) k.mac two))

  end_protected : (a : List ℕ) (at : ℕ) → at ≡ length a → Protected k (a ++ last_protected k u v two) (at_end at) two
  unfolding at_end
  end_protected a at e =
      record {
        is_protected = refl;
        is_coded = behind a (last_protected k u v two) at 3 (length two + size_of k.mac) e ∙ protected_fragment u v iv (unit_key k v) k.mac two;
      }

-- a record in the midst
module _ (k : Keys) (t : Content) (s : ℕ) (is : s ≤ 65535) (one tail : List ℕ) where
  mid_protected : (a : List ℕ) (at : ℕ) → at ≡ length a
      → Protected k (a ++ (long_protected k t s one ++ tail)) (placed_at (read_back true true t s (length one + size_of k.mac)) at) one
  mid_protected a at e =
      record {
        is_protected = refl;
        is_coded = behind a (long_protected k t s one ++ tail) at 5 (length one + size_of k.mac) e ∙ long_fragment t s is (unit_key k s) k.mac one tail;
      }

pub twice_in_one : TwiceInOne step_of
unfolding TwiceInOne at_front at_end w₀
twice_in_one c o random out one two lr lo some most most' =
    let h : Handshake = c.handshake in
    let k : Keys = keys_of h in
    let i : 7 ≤ 65535 = omega arith in
    let a : List ℕ = long_protected k C.Data 7 one in
    let b : List ℕ = last_protected k C.Data 7 two in
    let d : List ℕ = a ++ b in
    let n : ℕ = 0 + length a in
    let r : Record = read_back true true C.Data 7 (length one + size_of k.mac) in
    let q : Record = placed_at (read_back false true C.Data 7 (length two + size_of k.mac)) n in
    let at : n ≡ length a = omega arith in
    let size : length d ≤ 1400 = omega (arith, length-append a b, long_size C.Data 7 i (unit_key k 7) k.mac one, size_protected C.Data 7 i (unit_key k 7) k.mac two, size_most k.mac) in
    let nonempty : 1 ≤ length d = omega (arith, length-append a b, long_size C.Data 7 i (unit_key k 7) k.mac one) in
    let f : framing_of d ≡ framed (r ∷ q ∷ [])
    = sized d nonempty size ∙ front_by k C.Data C.Data 7 7 i i one two b most 7 0 ∙ ap (after (r ∷ [])) (end_by k C.Data 7 i two 6 n) in
    let one-j : Judged = judged (W.Data 7 5 (length one)) (with_window h (w₇ o.width)) in
    let two-j : Judged = refusing X.Repeated (with_window h (w₇ o.width)) in
    let c₁ : Connection = left_by c Y.Open one-j in
    let first : Row h c.sent random d r one-j
    = row_data one (w₇ o.width) (new_7 h o.is_open o.width o.held o.window_is d r one refl (front_protected k C.Data C.Data 7 7 i i one two b most)) refl some in
    let second : Row (with_window h (w₇ o.width)) c₁.sent random d q two-j
    = repeated_7 h o.is_open o.width o.held o.window_is c₁.sent random d q two refl (end_protected k C.Data 7 i two a n at) in
    result_by c d random out r (q ∷ []) (open_by c one-j) (W.Refused X.Repeated ∷ []) (left_by c₁ Y.Open two-j) lr lo f
    (open_tells c random d r one-j o.is_open refl data_no first) refl (chain_more (open_tells c₁ random d q two-j o.is_open refl data_no second) chain_end)

pub closed_between : ClosedBetween step_of
unfolding ClosedBetween at_front at_end w₀
closed_between c o random out one two description checksum lr lo some most most' small =
    let h : Handshake = c.handshake in
    let k : Keys = keys_of h in
    let i₇ : 7 ≤ 65535 = omega arith in
    let i₈ : 8 ≤ 65535 = omega arith in
    let i₉ : 9 ≤ 65535 = omega arith in
    let alert : List ℕ = alert_bytes L.Critical description checksum in
    let a : List ℕ = long_protected k C.Data 7 one in
    let b : List ℕ = long_protected k C.Alert 8 alert in
    let e : List ℕ = last_protected k C.Data 9 two in
    let d : List ℕ = a ++ (b ++ e) in
    let n : ℕ = 0 + length a in
    let m : ℕ = n + length b in
    let r : Record = read_back true true C.Data 7 (length one + size_of k.mac) in
    let q : Record = placed_at (read_back true true C.Alert 8 (length alert + size_of k.mac)) n in
    let p : Record = placed_at (read_back false true C.Data 9 (length two + size_of k.mac)) m in
    let at : n ≡ length a = omega arith in
    let size : length d ≤ 1400 = omega (arith, length-append a (b ++ e), length-append b e, long_size C.Data 7 i₇ (unit_key k 7) k.mac one, long_size C.Alert 8 i₈ (unit_key k 8) k.mac alert, size_protected C.Data 9 i₉ (unit_key k 9) k.mac two, size_most k.mac) in
    let nonempty : 1 ≤ length d = omega (arith, length-append a (b ++ e), long_size C.Data 7 i₇ (unit_key k 7) k.mac one) in
    let f : framing_of d ≡ framed (r ∷ q ∷ p ∷ [])
    = sized d nonempty size ∙ front_by k C.Data C.Data 7 7 i₇ i₇ one two (b ++ e) most 7 0
    ∙ ap (after (r ∷ [])) (front_by k C.Alert C.Data 8 9 i₈ i₉ alert two e (omega arith) 6 n ∙ ap (after (q ∷ [])) (end_by k C.Data 9 i₉ two 5 m)) in
    let one-j : Judged = judged (W.Data 7 5 (length one)) (with_window h (w₇ o.width)) in
    let two-j : Judged = judged (W.Critical description) (with_state (with_window h (w₈ o.width)) S.Closed) in
    let c₁ : Connection = left_by c Y.Open one-j in
    let c₂ : Connection = left_by c₁ Y.Open two-j in
    let first : Row h c.sent random d r one-j
    = row_data one (w₇ o.width) (new_7 h o.is_open o.width o.held o.window_is d r one refl (front_protected k C.Data C.Data 7 7 i₇ i₇ one two (b ++ e) most)) refl some in
    let second : Row (with_window h (w₇ o.width)) c₁.sent random d q two-j
    = row_critical alert (w₈ o.width) (record { level = L.Critical; description = description; checksum = checksum }) (new_8 h o.is_open o.width o.held o.window_is d q alert refl (mid_protected k C.Alert 8 i₈ alert e a n at)) refl (alert_back L.Critical description checksum small) refl in
    result_by c d random out r (q ∷ p ∷ []) (open_by c one-j) (W.Critical description ∷ W.Refused X.Ended ∷ []) c₂ lr lo f
    (open_tells c random d r one-j o.is_open refl data_no first) refl
    (chain_more (open_tells c₁ random d q two-j o.is_open refl alert_no second) (chain_more (tells_seven c₂ random d p refl) chain_end))
