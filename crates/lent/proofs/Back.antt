-- Saving and loading are one another's inverse. Fields one behind the other are cut into those fields again (`cut_back`), and bytes
-- that are cut at the places of fields are the cuts joined (`cut_joined`).
use mathlib.Core.Path.{◌≡◌, refl, sym, ◌∙◌, ap, ap₂, subst}
use mathlib.Core.Bool.{Bool, true, false}
use mathlib.Core.List.{List, [], ◌∷◌, ◌++◌}
use Prim.Native.Nat.{ℕ, zero, suc, ◌+◌, ◌*◌, ◌≤◌, ◌<◌}
use native.Mathlib.Omega.{arith}
use lib.ListN.{length, take, drop, get_or, length-append, get_or-eq_default}
use lib.Seq.{take_at, drop_at, take-add, take-take, drop-drop, take_all, get_or-take, get_or-drop}
use lib.Dec.{eqb, ltb}
use borrow.Author.Tests.{eqb-true, eq-eqb, ltb-true, ltb-false}
use Rattle.digest.specs.Pick.{pick}
use Rattle.digest.specs.Bytes.{bytes2, bytes4, bytes8, word_at}
use Rattle.digest.specs.Mac.{number_of}
use Rattle.digest.specs.declared.mac.Mac.{Mac}
use Rattle.digest.specs.declared.mac.Mac.TheVariants.{Sha80, Sha}
use Rattle.connection.specs.declared.state.State.{State}
use Rattle.connection.specs.declared.state.State.TheVariants.{Idle, Replied, Spec, Open, Closed, Barred}
use Rattle.connection.specs.declared.sent.SentRecords.{SentRecords}
use Rattle.connection.specs.declared.handshake.Handshake.{Handshake}
use Rattle.connection.specs.declared.connection.Connection.{Connection}
use Rattle.lent.specs.Fields.{joined, bytes_in, two_in, eight_in}
use Rattle.lent.specs.Saved.{state_size, handshake_size, handshake_place, started_place, mark, state_number, handshake_fields, saved_handshake, saved_of, is_handshake, is_saved, state_numbered, mac_numbered, protection_in, keys_in, kept_in, window_in, sent_in, sum_fields, head_fields, handshake_in, connection_in, Is, No, loaded, RangedHandshake, Ranged, Bytes}
use Rattle.lent.proofs.Laying.{length_eight}
use Rattle.lent.proofs.Reading.{part_length}
use Rattle.lent.proofs.Calling.{both_true}
use Rattle.lent.proofs.Numbers.{byte_back, two_back, four_back, eight_back, byte_part, two_there, four_there, eight_there, word_below, eight_below}

-- ---- bytes cut at the places of their fields

-- the fields of these sizes, from a place on
unfoldable pub cuts : List ℕ → ℕ → List ℕ → List (List ℕ)
cuts [] at b = []
cuts (n ∷ ns) at b = bytes_in b at n ∷ cuts ns (at + n) b

unfoldable pub total : List ℕ → ℕ
total [] = 0
total (n ∷ ns) = n + total ns

pub cut_joined : (ns : List ℕ) (at : ℕ) (b : List ℕ) → joined (cuts ns at b) ≡ bytes_in b at (total ns)
unfolding joined cuts total
cut_joined [] at b = refl
cut_joined (n ∷ ns) at b =
    ap (λ x. bytes_in b at n ++ x) (cut_joined ns (at + n) b ∙ ap (take (total ns)) (sym (drop-drop n at b)))
    ∙ sym (take-add n (total ns) (drop at b))

-- fields of these sizes
abbrev pub Sized : List (List ℕ) → List ℕ → Type 0
Sized [] [] = Unit
Sized [] (n ∷ ns) = ⊥
Sized (f ∷ fs) [] = ⊥
Sized (f ∷ fs) (n ∷ ns) = (length f ≡ n) × Sized fs ns

pub sized_joined : (fs : List (List ℕ)) (ns : List ℕ) → Sized fs ns → length (joined fs) ≡ total ns
unfolding joined total
sized_joined [] [] s = refl
sized_joined [] (n ∷ ns) s = absurd s
sized_joined (f ∷ fs) [] s = absurd s
sized_joined (f ∷ fs) (n ∷ ns) s = length-append f (joined fs) ∙ ap₂ (λ x y. x + y) s.0 (sized_joined fs ns s.1)

front_of : (n m : ℕ) (l f g : List ℕ) → length f ≡ n → take (n + m) l ≡ f ++ g → take n l ≡ f
front_of n m l f g k e = sym (take-take n (n + m) l (omega arith)) ∙ ap (take n) e ∙ take_at f g n k

back_of : (n m : ℕ) (l f g : List ℕ) → length f ≡ n → take (n + m) l ≡ f ++ g → take m (drop n l) ≡ g
back_of n m l f g k e =
    sym (drop_at f (take m (drop n l)) n k)
    ∙ ap (λ x. drop n (x ++ take m (drop n l))) (sym (front_of n m l f g k e))
    ∙ ap (drop n) (sym (take-add n m l) ∙ e)
    ∙ drop_at f g n k

-- bytes that are fields one behind the other are cut into those fields
pub cut_back : (fs : List (List ℕ)) (ns : List ℕ) (at : ℕ) (b : List ℕ) → Sized fs ns → bytes_in b at (total ns) ≡ joined fs
    → cuts ns at b ≡ fs
unfolding joined cuts total
cut_back [] [] at b s e = refl
cut_back [] (n ∷ ns) at b s e = absurd s
cut_back (f ∷ fs) [] at b s e = absurd s
cut_back (f ∷ fs) (n ∷ ns) at b s e =
    let front : bytes_in b at n ≡ f = front_of n (total ns) (drop at b) f (joined fs) s.0 e in
    let behind : bytes_in b (at + n) (total ns) ≡ joined fs
    = ap (take (total ns)) (sym (drop-drop n at b)) ∙ back_of n (total ns) (drop at b) f (joined fs) s.0 e in
    λ i. front i ∷ cut_back fs ns (at + n) b s.1 behind i

-- the sizes of a handshake's fields, and of a connection's
abbrev pub handshake_sizes : List ℕ
handshake_sizes = 1 ∷ 8 ∷ 20 ∷ 16 ∷ 16 ∷ 1 ∷ 1 ∷ 12 ∷ 256 ∷ 8 ∷ 84 ∷ 8 ∷ 1 ∷ 2 ∷ 8 ∷ 4 ∷ 4 ∷ []

abbrev pub connection_sizes : List ℕ
connection_sizes = 4 ∷ 4 ∷ 4 ∷ 4 ∷ 4 ∷ 4 ∷ 4 ∷ 4 ∷ 4 ∷ 4 ∷ 450 ∷ 450 ∷ []

pub handshake_sized : (h : Handshake) → RangedHandshake h → Sized (handshake_fields h) handshake_sizes
handshake_sized h r =
    (refl, (r.id, (r.secret, (r.server, (r.client, (refl, (refl, (r.expected, (r.hello, (length_eight h.kept.heard, (r.reply, (length_eight h.kept.size, (refl, (refl, (length_eight h.protection.window.marks, (refl, (refl, tt)))))))))))))))))

pub saved_handshake_size : (h : Handshake) → RangedHandshake h → length (saved_handshake h) ≡ handshake_size
unfolding saved_handshake total
saved_handshake_size h r = sized_joined (handshake_fields h) handshake_sizes (handshake_sized h r)

-- ---- loading what was saved

state_back : (state : State) → state_numbered (state_number state) ≡ state
unfolding state_numbered
state_back Idle = refl
state_back Replied = refl
state_back Spec = refl
state_back Open = refl
state_back Closed = refl
state_back Barred = refl

state_most : (state : State) → ltb 5 (state_number state) ≡ false
state_most Idle = refl
state_most Replied = refl
state_most Spec = refl
state_most Open = refl
state_most Closed = refl
state_most Barred = refl

pub mac_back : (mac : Mac) → mac_numbered (number_of mac) ≡ mac
unfolding mac_numbered
mac_back Sha80 = refl
mac_back Sha = refl

pub mac_one : (mac : Mac) → pick (eqb (number_of mac) 2) true (eqb (number_of mac) 3) ≡ true
mac_one Sha80 = refl
mac_one Sha = refl

eight_of_lem : (l : List ℕ) → length l ≡ 8
    → get_or l 0 0 ∷ get_or l 1 0 ∷ get_or l 2 0 ∷ get_or l 3 0 ∷ get_or l 4 0 ∷ get_or l 5 0 ∷ get_or l 6 0 ∷ get_or l 7 0 ∷ [] ≡ l
eight_of_lem [] e = absurd (omega arith)
eight_of_lem (a ∷ []) e = absurd (omega arith)
eight_of_lem (a ∷ b ∷ []) e = absurd (omega arith)
eight_of_lem (a ∷ b ∷ c ∷ []) e = absurd (omega arith)
eight_of_lem (a ∷ b ∷ c ∷ d ∷ []) e = absurd (omega arith)
eight_of_lem (a ∷ b ∷ c ∷ d ∷ f ∷ []) e = absurd (omega arith)
eight_of_lem (a ∷ b ∷ c ∷ d ∷ f ∷ g ∷ []) e = absurd (omega arith)
eight_of_lem (a ∷ b ∷ c ∷ d ∷ f ∷ g ∷ h ∷ []) e = absurd (omega arith)
eight_of_lem (a ∷ b ∷ c ∷ d ∷ f ∷ g ∷ h ∷ k ∷ []) e = refl
eight_of_lem (a ∷ b ∷ c ∷ d ∷ f ∷ g ∷ h ∷ k ∷ x ∷ more) e = absurd (omega arith)

-- the fields of a saved handshake, at their places
fields_of : (h : Handshake) → RangedHandshake h → cuts handshake_sizes 0 (saved_handshake h) ≡ handshake_fields h
unfolding saved_handshake total
fields_of h r =
    cut_back (handshake_fields h) handshake_sizes 0 (joined (handshake_fields h)) (handshake_sized h r)
    (take_all 450 (joined (handshake_fields h)) (omega (arith, sized_joined (handshake_fields h) handshake_sizes (handshake_sized h r))))

back : (h : Handshake) (s : List ℕ) → RangedHandshake h → cuts handshake_sizes 0 s ≡ handshake_fields h → handshake_in s ≡ h
unfolding handshake_in protection_in keys_in kept_in window_in cuts
back h s r e =
    let at : (k : ℕ) → get_or (cuts handshake_sizes 0 s) k [] ≡ get_or (handshake_fields h) k [] = λ k. ap (λ l. get_or l k []) e in
    λ i. record {
      state = (ap state_numbered (byte_back s 0 (state_number h.state) (at 0)) ∙ state_back h.state) i;
      id = at 1 i;
      expected = at 7 i;
      kept =
          record {
            hello = at 8 i;
            heard = eight_back s 331 h.kept.heard r.heard (at 9) i;
            reply = at 10 i;
            size = eight_back s 423 h.kept.size r.size (at 11) i;
          };
      protection =
          record {
            keys =
                record {
                  secret = at 2 i;
                  server = at 3 i;
                  client = at 4 i;
                  mac = (ap mac_numbered (byte_back s 61 (number_of h.protection.keys.mac) (at 5)) ∙ mac_back h.protection.keys.mac) i;
                  refresh = byte_back s 62 h.protection.keys.refresh (at 6) i;
                };
            window =
                record {
                  width = byte_back s 431 h.protection.window.width (at 12) i;
                  highest = two_back s 432 h.protection.window.highest r.highest (at 13) i;
                  marks = eight_back s 434 h.protection.window.marks r.marks (at 14) i;
                };
            protected = four_back s 442 h.protection.protected r.protected (at 15) i;
            clear = four_back s 446 h.protection.clear r.clear (at 16) i;
          };
    }

sound_handshake : (h : Handshake) (s : List ℕ) → cuts handshake_sizes 0 s ≡ handshake_fields h → is_handshake s ≡ true
unfolding is_handshake cuts
sound_handshake h s e =
    rw (byte_back s 0 (state_number h.state) (ap (λ l. get_or l 0 []) e))
    (rw (state_most h.state)
    (rw (byte_back s 61 (number_of h.protection.keys.mac) (ap (λ l. get_or l 5 []) e)) (mac_one h.protection.keys.mac)))

-- the fields of a saved connection
abbrev connection_fields : Connection → List (List ℕ)
connection_fields c =
    head_fields c.sent.count ++ sum_fields c.sent.checksums ++ (saved_handshake c.handshake ∷ saved_handshake c.started ∷ [])

connection_sized : (c : Connection) → Ranged c → Sized (connection_fields c) connection_sizes
connection_sized c r =
    (refl, (refl, (refl, (refl, (refl, (refl, (refl, (refl, (refl, (refl, (saved_handshake_size c.handshake r.handshake, (saved_handshake_size c.started r.started, tt))))))))))))

connection_size : (c : Connection) → Ranged c → length (saved_of c) ≡ state_size
unfolding saved_of total
connection_size c r = sized_joined (connection_fields c) connection_sizes (connection_sized c r)

connection_cut : (c : Connection) → Ranged c → cuts connection_sizes 0 (saved_of c) ≡ connection_fields c
unfolding saved_of total
connection_cut c r =
    cut_back (connection_fields c) connection_sizes 0 (joined (connection_fields c)) (connection_sized c r)
    (take_all 940 (joined (connection_fields c)) (omega (arith, sized_joined (connection_fields c) connection_sizes (connection_sized c r))))

pub sent_back : (s : SentRecords) (b : List ℕ) → s.count < 4294967296 → length s.checksums ≡ 8 → ((i : ℕ) → get_or s.checksums i 0 < 4294967296)
    → bytes_in b 4 4 ≡ bytes4 s.count
    → ((k : ℕ) → k < 8 → bytes_in b (8 + 4 * k) 4 ≡ bytes4 (get_or s.checksums k 0)) → sent_in b ≡ s
unfolding sent_in
sent_back s b n l below count sum =
    let word : (k : ℕ) → k < 8 → word_at b (8 + 4 * k) ≡ get_or s.checksums k 0
    = λ k h. four_back b (8 + 4 * k) (get_or s.checksums k 0) (below k) (sum k h) in
    let words : word_at b 8 ∷ word_at b 12 ∷ word_at b 16 ∷ word_at b 20 ∷ word_at b 24 ∷ word_at b 28 ∷ word_at b 32 ∷ word_at b 36 ∷ [] ≡ s.checksums
    = (λ i. word 0 (omega arith) i ∷ word 1 (omega arith) i ∷ word 2 (omega arith) i ∷ word 3 (omega arith) i
    ∷ word 4 (omega arith) i ∷ word 5 (omega arith) i ∷ word 6 (omega arith) i ∷ word 7 (omega arith) i ∷ [])
    ∙ eight_of_lem s.checksums l in
    λ i. record { count = four_back b 4 s.count n count i; checksums = words i }

sums_at : (c : Connection) → Ranged c → (k : ℕ) → k < 8 → bytes_in (saved_of c) (8 + 4 * k) 4 ≡ bytes4 (get_or c.sent.checksums k 0)
unfolding cuts
sums_at c r k h =
    let e = connection_cut c r in
    told k h (ap (λ l. get_or l 2 []) e) (ap (λ l. get_or l 3 []) e) (ap (λ l. get_or l 4 []) e) (ap (λ l. get_or l 5 []) e)
    (ap (λ l. get_or l 6 []) e) (ap (λ l. get_or l 7 []) e) (ap (λ l. get_or l 8 []) e) (ap (λ l. get_or l 9 []) e)
  where
    At : ℕ → Type 0
    At k = bytes_in (saved_of c) (8 + 4 * k) 4 ≡ bytes4 (get_or c.sent.checksums k 0)

    told : (k : ℕ) → k < 8 → At 0 → At 1 → At 2 → At 3 → At 4 → At 5 → At 6 → At 7 → At k
    told zero h e0 e1 e2 e3 e4 e5 e6 e7 = e0
    told (suc zero) h e0 e1 e2 e3 e4 e5 e6 e7 = e1
    told (suc (suc zero)) h e0 e1 e2 e3 e4 e5 e6 e7 = e2
    told (suc (suc (suc zero))) h e0 e1 e2 e3 e4 e5 e6 e7 = e3
    told (suc (suc (suc (suc zero)))) h e0 e1 e2 e3 e4 e5 e6 e7 = e4
    told (suc (suc (suc (suc (suc zero))))) h e0 e1 e2 e3 e4 e5 e6 e7 = e5
    told (suc (suc (suc (suc (suc (suc zero)))))) h e0 e1 e2 e3 e4 e5 e6 e7 = e6
    told (suc (suc (suc (suc (suc (suc (suc zero))))))) h e0 e1 e2 e3 e4 e5 e6 e7 = e7
    told (suc (suc (suc (suc (suc (suc (suc (suc k)))))))) h e0 e1 e2 e3 e4 e5 e6 e7 = absurd (omega (arith, h))

-- the two handshakes of a saved connection
handshake_at : (c : Connection) → Ranged c → bytes_in (saved_of c) handshake_place handshake_size ≡ saved_handshake c.handshake
unfolding cuts
handshake_at c r = ap (λ l. get_or l 10 []) (connection_cut c r)

started_at : (c : Connection) → Ranged c → bytes_in (saved_of c) started_place handshake_size ≡ saved_handshake c.started
unfolding cuts
started_at c r = ap (λ l. get_or l 11 []) (connection_cut c r)

sound : (c : Connection) → Ranged c → is_saved (saved_of c) ≡ true
unfolding is_saved cuts
sound c r =
    let b = saved_of c in
    rw (eq-eqb (length b) state_size (connection_size c r))
    (rw (four_back b 0 mark (omega arith) (ap (λ l. get_or l 0 []) (connection_cut c r)))
    (rw (ap is_handshake (handshake_at c r) ∙ sound_handshake c.handshake (saved_handshake c.handshake) (fields_of c.handshake r.handshake))
    (ap is_handshake (started_at c r) ∙ sound_handshake c.started (saved_handshake c.started) (fields_of c.started r.started))))

connection_back : (c : Connection) → Ranged c → connection_in (saved_of c) ≡ c
unfolding cuts
connection_back c r =
    let main : handshake_in (bytes_in (saved_of c) handshake_place handshake_size) ≡ c.handshake
    = ap handshake_in (handshake_at c r) ∙ back c.handshake (saved_handshake c.handshake) r.handshake (fields_of c.handshake r.handshake) in
    let beside : handshake_in (bytes_in (saved_of c) started_place handshake_size) ≡ c.started
    = ap handshake_in (started_at c r) ∙ back c.started (saved_handshake c.started) r.started (fields_of c.started r.started) in
    let records : sent_in (saved_of c) ≡ c.sent
    = sent_back c.sent (saved_of c) r.count r.sums r.sum (ap (λ l. get_or l 1 []) (connection_cut c r)) (sums_at c r) in
    λ i. record { handshake = main i; started = beside i; sent = records i }

-- Load of save gives the connection back.
pub saved_loads : (c : Connection) → Ranged c → loaded (saved_of c) ≡ Is c
unfolding loaded
saved_loads c r = rw (sound c r) (ap Is (connection_back c r))

-- ---- saving what was loaded

take_most : (n : ℕ) (l : List ℕ) → length (take n l) ≤ n
take_most zero l = omega arith
take_most (suc n) [] = omega arith
take_most (suc n) (x ∷ l) = omega (arith, take_most n l)

-- a part of bytes is bytes
bytes_part : (b : List ℕ) (at n : ℕ) → Bytes b → Bytes (bytes_in b at n)
bytes_part b at n all i = told (ltb i n) refl
  where
    short : (l : List ℕ) → n ≤ i → length (take n l) ≤ i
    short l h = omega (arith, take_most n l, h)

    told : (t : Bool) → ltb i n ≡ t → get_or (bytes_in b at n) i 0 < 256
    told true e = subst (λ x. x < 256) (sym (get_or-take n (drop at b) i 0 (ltb-true i n e) ∙ get_or-drop at b i 0)) (all (at + i))
    told false e = subst (λ x. x < 256) (sym (get_or-eq_default (bytes_in b at n) 0 (short (drop at b) (ltb-false i n e)))) (omega arith)

state_there : (n : ℕ) → ltb 5 n ≡ false → state_number (state_numbered n) ≡ n
unfolding state_numbered
state_there zero h = refl
state_there (suc zero) h = refl
state_there (suc (suc zero)) h = refl
state_there (suc (suc (suc zero))) h = refl
state_there (suc (suc (suc (suc zero)))) h = refl
state_there (suc (suc (suc (suc (suc zero))))) h = refl
state_there (suc (suc (suc (suc (suc (suc n)))))) h = absurd (omega (arith, ltb-false 5 (suc (suc (suc (suc (suc (suc n)))))) h))

mac_there : (n : ℕ) → pick (eqb n 2) true (eqb n 3) ≡ true → number_of (mac_numbered n) ≡ n
unfolding mac_numbered
mac_there n h = told (eqb n 2) refl h
  where
    told : (t : Bool) → eqb n 2 ≡ t → pick t true (eqb n 3) ≡ true → number_of (pick t Sha80 Sha) ≡ n
    told true e h = sym (eqb-true n 2 e)
    told false e h = sym (eqb-true n 3 h)

unless_true : (t x : Bool) → pick t false x ≡ true → (t ≡ false) × (x ≡ true)
unless_true true x h = (sym h, cc)
unless_true false x h = (refl, h)

-- the bytes of a handshake that was read are those that it was read from
there_handshake : (s : List ℕ) → Bytes s → length s ≡ handshake_size → is_handshake s ≡ true → saved_handshake (handshake_in s) ≡ s
unfolding saved_handshake handshake_in protection_in keys_in kept_in window_in is_handshake cuts total
there_handshake s all room h =
    let tests = unless_true (ltb 5 (get_or s 0 0)) (pick (eqb (get_or s 61 0) 2) true (eqb (get_or s 61 0) 3)) h in
    let state : state_number (state_numbered (get_or s 0 0)) ∷ [] ≡ bytes_in s 0 1
    = ap (λ x. x ∷ []) (state_there (get_or s 0 0) tests.0) ∙ sym (byte_part s 0 (omega arith)) in
    let mac : number_of (mac_numbered (get_or s 61 0)) ∷ [] ≡ bytes_in s 61 1
    = ap (λ x. x ∷ []) (mac_there (get_or s 61 0) tests.1) ∙ sym (byte_part s 61 (omega arith)) in
    let refresh : get_or s 62 0 ∷ [] ≡ bytes_in s 62 1 = sym (byte_part s 62 (omega arith)) in
    let width : get_or s 431 0 ∷ [] ≡ bytes_in s 431 1 = sym (byte_part s 431 (omega arith)) in
    let fields : ◌≡◌ {A = List (List ℕ)}
    ((state_number (state_numbered (get_or s 0 0)) ∷ []) ∷ bytes_in s 1 8 ∷ bytes_in s 9 20 ∷ bytes_in s 29 16 ∷ bytes_in s 45 16
    ∷ (number_of (mac_numbered (get_or s 61 0)) ∷ []) ∷ (get_or s 62 0 ∷ []) ∷ bytes_in s 63 12 ∷ bytes_in s 75 256 ∷ bytes8 (eight_in s 331)
    ∷ bytes_in s 339 84 ∷ bytes8 (eight_in s 423) ∷ (get_or s 431 0 ∷ []) ∷ bytes2 (two_in s 432) ∷ bytes8 (eight_in s 434)
    ∷ bytes4 (word_at s 442) ∷ bytes4 (word_at s 446) ∷ [])
    (cuts handshake_sizes 0 s)
    = λ i.
    state i ∷ bytes_in s 1 8 ∷ bytes_in s 9 20 ∷ bytes_in s 29 16 ∷ bytes_in s 45 16
    ∷ mac i ∷ refresh i ∷ bytes_in s 63 12 ∷ bytes_in s 75 256 ∷ eight_there s 331 all (omega arith) i
    ∷ bytes_in s 339 84 ∷ eight_there s 423 all (omega arith) i ∷ width i ∷ two_there s 432 all (omega arith) i ∷ eight_there s 434 all (omega arith) i
    ∷ four_there s 442 all (omega arith) i ∷ four_there s 446 all (omega arith) i ∷ [] in
    ap joined fields ∙ cut_joined handshake_sizes 0 s ∙ take_all handshake_size s (omega (arith, room))

-- the tests of a saved connection
record Tested (b : List ℕ) : Type 0 where
  size : length b ≡ state_size
  marked : word_at b 0 ≡ mark
  handshake : is_handshake (bytes_in b handshake_place handshake_size) ≡ true
  started : is_handshake (bytes_in b started_place handshake_size) ≡ true

tested : (b : List ℕ) → is_saved b ≡ true → Tested b
unfolding is_saved
tested b h =
    let main = is_handshake (bytes_in b handshake_place handshake_size) in
    let beside = is_handshake (bytes_in b started_place handshake_size) in
    let one = both_true (eqb (length b) state_size) (pick (eqb (word_at b 0) mark) (pick main beside false) false) h in
    let two = both_true (eqb (word_at b 0) mark) (pick main beside false) one.1 in
    let three = both_true main beside two.1 in
    record {
      size = eqb-true (length b) state_size one.0;
      marked = eqb-true (word_at b 0) mark two.0;
      handshake = three.0;
      started = three.1;
    }

there : (b : List ℕ) → Bytes b → Tested b → saved_of (connection_in b) ≡ b
unfolding saved_of sent_in cuts total
there b all t =
    let room : length b ≡ state_size = t.size in
    let marked : bytes4 mark ≡ bytes_in b 0 4 = ap bytes4 (sym t.marked) ∙ four_there b 0 all (omega arith) in
    let main : saved_handshake (handshake_in (bytes_in b handshake_place handshake_size)) ≡ bytes_in b 40 450
    = there_handshake (bytes_in b 40 450) (bytes_part b 40 450 all) (part_length b 40 450 (omega arith)) t.handshake in
    let beside : saved_handshake (handshake_in (bytes_in b started_place handshake_size)) ≡ bytes_in b 490 450
    = there_handshake (bytes_in b 490 450) (bytes_part b 490 450 all) (part_length b 490 450 (omega arith)) t.started in
    let fields : ◌≡◌ {A = List (List ℕ)}
    (bytes4 mark ∷ bytes4 (word_at b 4) ∷ bytes4 (word_at b 8) ∷ bytes4 (word_at b 12) ∷ bytes4 (word_at b 16) ∷ bytes4 (word_at b 20)
    ∷ bytes4 (word_at b 24) ∷ bytes4 (word_at b 28) ∷ bytes4 (word_at b 32) ∷ bytes4 (word_at b 36)
    ∷ saved_handshake (handshake_in (bytes_in b handshake_place handshake_size)) ∷ saved_handshake (handshake_in (bytes_in b started_place handshake_size)) ∷ [])
    (cuts connection_sizes 0 b)
    = λ i.
    marked i ∷ four_there b 4 all (omega arith) i ∷ four_there b 8 all (omega arith) i ∷ four_there b 12 all (omega arith) i
    ∷ four_there b 16 all (omega arith) i ∷ four_there b 20 all (omega arith) i ∷ four_there b 24 all (omega arith) i
    ∷ four_there b 28 all (omega arith) i ∷ four_there b 32 all (omega arith) i ∷ four_there b 36 all (omega arith) i
    ∷ main i ∷ beside i ∷ [] in
    ap joined fields ∙ cut_joined connection_sizes 0 b ∙ take_all state_size b (omega (arith, room))

is_loaded : (b : List ℕ) (c : Connection) → loaded b ≡ Is c → (is_saved b ≡ true) × (connection_in b ≡ c)
unfolding loaded
is_loaded b c e = told (is_saved b) (connection_in b) c e
  where
    told : (t : Bool) (x c : Connection) → pick t (Is x) No ≡ Is c → (t ≡ true) × (x ≡ c)
    told true x c e = (refl, cc)
    told false x c e = (cc, cc)

-- Bytes that load are exactly those that saving writes: one connection, one string of bytes.
pub loads_saved : (b : List ℕ) (c : Connection) → Bytes b → loaded b ≡ Is c → saved_of c ≡ b
loads_saved b c all e =
    let is = is_loaded b c e in
    ap saved_of (sym is.1) ∙ there b all (tested b is.0)

ranged_handshake : (s : List ℕ) → Bytes s → length s ≡ handshake_size → RangedHandshake (handshake_in s)
unfolding handshake_in protection_in keys_in kept_in window_in
ranged_handshake s all l =
    record {
      id = part_length s 1 8 (omega arith);
      secret = part_length s 9 20 (omega arith);
      server = part_length s 29 16 (omega arith);
      client = part_length s 45 16 (omega arith);
      expected = part_length s 63 12 (omega arith);
      hello = part_length s 75 256 (omega arith);
      heard = eight_below s 331 all;
      reply = part_length s 339 84 (omega arith);
      size = eight_below s 423 all;
      highest = two_below (get_or s 432 0) (get_or s 433 0) (all 432) (all 433);
      marks = eight_below s 434 all;
      protected = word_below s 442 all;
      clear = word_below s 446 all;
    }
  where
    two_below : (p q : ℕ) → p < 256 → q < 256 → p * 256 + q < 65536
    two_below p q hp hq = omega arith

word_each : (b : List ℕ) → Bytes b → (i : ℕ)
    → get_or (word_at b 8 ∷ word_at b 12 ∷ word_at b 16 ∷ word_at b 20 ∷ word_at b 24 ∷ word_at b 28 ∷ word_at b 32 ∷ word_at b 36 ∷ []) i 0
    < 4294967296
word_each b all zero = word_below b 8 all
word_each b all (suc zero) = word_below b 12 all
word_each b all (suc (suc zero)) = word_below b 16 all
word_each b all (suc (suc (suc zero))) = word_below b 20 all
word_each b all (suc (suc (suc (suc zero)))) = word_below b 24 all
word_each b all (suc (suc (suc (suc (suc zero))))) = word_below b 28 all
word_each b all (suc (suc (suc (suc (suc (suc zero)))))) = word_below b 32 all
word_each b all (suc (suc (suc (suc (suc (suc (suc zero))))))) = word_below b 36 all
word_each b all (suc (suc (suc (suc (suc (suc (suc (suc i)))))))) = omega arith

ranged : (b : List ℕ) → Bytes b → length b ≡ state_size → Ranged (connection_in b)
unfolding sent_in
ranged b all l =
    record {
      handshake = ranged_handshake (bytes_in b 40 450) (bytes_part b 40 450 all) (part_length b 40 450 (omega arith));
      started = ranged_handshake (bytes_in b 490 450) (bytes_part b 490 450 all) (part_length b 490 450 (omega arith));
      count = word_below b 4 all;
      sums = refl;
      sum = word_each b all;
    }

-- What loads is in range.
pub loads_ranged : (b : List ℕ) (c : Connection) → Bytes b → loaded b ≡ Is c → Ranged c
loads_ranged b c all e =
    let is = is_loaded b c e in
    subst Ranged is.1 (ranged b all (tested b is.0).size)

-- Saving never gives bytes that are refused.
pub saved_is : (c : Connection) → Ranged c → is_saved (saved_of c) ≡ true
saved_is c r = sound c r
