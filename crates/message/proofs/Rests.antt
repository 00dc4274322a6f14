-- What is left of a message from a place on. Field by field, what is left is the field and what is left after it:
-- read off the message in one sense, and put together from the fields in the other.
use mathlib.Core.Path.{◌≡◌, refl, sym, ◌∙◌, ap}
use mathlib.Core.List.{List, [], ◌∷◌, ◌++◌}
use mathlib.Core.Bool.{Bool, true, false}
use Prim.Native.Nat.{ℕ, zero, suc, ◌+◌, ◌*◌, ◌-◌, ◌/◌, ◌%◌, ◌≤◌, ◌<◌}
use native.Mathlib.Omega.{arith}
use native.Mathlib.Numerals.{add-one}
use lib.ListN.{length, get_or, take, drop, length-drop, length-append, take-append-drop}
use lib.Seq.{take_at, drop_at, drop-drop, get_or-drop, drop-cons, length-take-le}
use lib.Dec.{leb, ltb, lit<}
use borrow.Author.Tests.{le-leb, lt-ltb, leb-true}
use Rattle.digest.specs.Pick.{pick}
use Rattle.digest.specs.Bytes.{bytes2}
use Rattle.message.specs.Field.{field_end, short_end, long_end, two_at, part_of, short, long}
use Rattle.message.proofs.Fields.{field_fits, field_there, long_fits, long_there}

pub record Rest (m : List ℕ) (a : ℕ) (l : List ℕ) : Type 0 where
  pub from : drop a m ≡ l
  pub size : a + length l ≡ length m

-- the first byte of what is left
pub rest_byte : (m : List ℕ) (a : ℕ) (y : ℕ) (l : List ℕ) → Rest m a (y ∷ l) → get_or m a 0 ≡ y
rest_byte m a y l w =
    let z : a + 0 ≡ a = omega arith in
    ap (λ (k : ℕ). get_or m k 0) (sym z) ∙ sym (get_or-drop a m 0 0) ∙ ap (λ (t : List ℕ). get_or t 0 0) w.from

-- a field that stands at the front of what is left
module _ (m : List ℕ) (a n : ℕ) (x l : List ℕ) (w : Rest m a (x ++ l)) (e : length x ≡ n) where
  room : a + n + length l ≡ length m
  room = omega (arith, length-append x l, w.size)

  pub front_end : field_end m a n ≡ a + n
  front_end = sym (field_fits m a n (omega (arith, room)))

  pub front_part : part_of m a (a + n) ≡ x
  front_part =
      let z : a + n - a ≡ n = omega arith in
      rw (z, w.from) (take_at x l n e)

  pub front_rest : Rest m (a + n) l
  front_rest = record { from = sym (drop-drop n a m) ∙ ap (drop n) w.from ∙ drop_at x l n e; size = room }

-- a vector with a length of one byte
module _ (floor ceiling : ℕ) (m : List ℕ) (a : ℕ) (x l : List ℕ) (w : Rest m a (short x ++ l)) where
  short_tail : Rest m (a + 1) (x ++ l)
  short_tail = front_rest m a 1 (length x ∷ []) (x ++ l) w refl

  pub short_end_lem : floor ≤ length x → length x ≤ ceiling → short_end floor ceiling m a ≡ a + 1 + length x
  unfolding short_end
  short_end_lem f g =
      rw (
        rest_byte m a (length x) (x ++ l) w,
        lt-ltb a (length m) (omega (arith, short_tail.size)),
        le-leb floor (length x) f,
        le-leb (length x) ceiling g,
      )
      (front_end m (a + 1) (length x) x l short_tail refl)

  pub short_part : part_of m (a + 1) (a + 1 + length x) ≡ x
  short_part = front_part m (a + 1) (length x) x l short_tail refl

  pub short_rest : Rest m (a + 1 + length x) l
  short_rest = front_rest m (a + 1) (length x) x l short_tail refl

-- a vector with a length of two bytes
module _ (m : List ℕ) (a : ℕ) (x l : List ℕ) (w : Rest m a (long x ++ l)) where
  long_tail : Rest m (a + 2) (x ++ l)
  long_tail = front_rest m a 2 (bytes2 (length x)) (x ++ l) w refl

  long_low : Rest m (a + 1) (length x % 256 ∷ (x ++ l))
  long_low = front_rest m a 1 (length x / 256 % 256 ∷ []) (length x % 256 ∷ (x ++ l)) w refl

  pub long_end_lem : length x < 65536 → long_end m a ≡ a + 2 + length x
  long_end_lem h =
      let t : two_at m a ≡ length x =
      omega (
        arith,
        rest_byte m a (length x / 256 % 256) (length x % 256 ∷ (x ++ l)) w,
        rest_byte m (a + 1) (length x % 256) (x ++ l) long_low,
      ) in
      sym (long_fits m a (omega (arith, long_tail.size)))
      ∙ ap (field_end m (a + 2)) t
      ∙ front_end m (a + 2) (length x) x l long_tail refl

  pub long_part : part_of m (a + 2) (a + 2 + length x) ≡ x
  long_part = front_part m (a + 2) (length x) x l long_tail refl

  pub long_rest : Rest m (a + 2 + length x) l
  long_rest = front_rest m (a + 2) (length x) x l long_tail refl

-- the other sense: what is left, read off the message
pub piece : (m : List ℕ) (a n : ℕ) → a + n ≤ length m → drop a m ≡ part_of m a (a + n) ++ drop (a + n) m
piece m a n h =
    let z : a + n - a ≡ n = omega arith in
    rw (z, sym (drop-drop n a m)) (sym (take-append-drop n (drop a m)))

pub piece_size : (m : List ℕ) (a n : ℕ) → a + n ≤ length m → length (part_of m a (a + n)) ≡ n
piece_size m a n h =
    let z : a + n - a ≡ n = omega arith in
    rw z (length-take-le n (drop a m) (rw (length-drop a m) (omega arith)))

pub byte_piece : (m : List ℕ) (a : ℕ) → a + 1 ≤ length m → drop a m ≡ get_or m a 0 ∷ drop (a + 1) m
byte_piece m a h = rw (add-one a) (drop-cons m a 0 (omega arith))

-- a vector with a length of one byte that is there
pub record ShortThere (floor ceiling : ℕ) (m : List ℕ) (a e : ℕ) : Type 0 where
  pub ends : e ≡ a + 1 + get_or m a 0
  pub within : e ≤ length m
  pub above : floor ≤ get_or m a 0
  pub below : get_or m a 0 ≤ ceiling

pub short_there : (floor ceiling : ℕ) (m : List ℕ) (a : ℕ) → (short_end floor ceiling m a ≡ 0 → ⊥)
    → ShortThere floor ceiling m a (short_end floor ceiling m a)
unfolding short_end
short_there floor ceiling m a =
    go (ltb a (length m)) (leb floor (get_or m a 0)) (leb (get_or m a 0) ceiling) refl refl
  where
    go : (b f g : Bool) → leb floor (get_or m a 0) ≡ f → leb (get_or m a 0) ceiling ≡ g
        → (pick b (pick f (pick g (field_end m (a + 1) (get_or m a 0)) 0) 0) 0 ≡ 0 → ⊥)
        → ShortThere floor ceiling m a (pick b (pick f (pick g (field_end m (a + 1) (get_or m a 0)) 0) 0) 0)
    go true true true ef eg h =
        let w = field_there m (a + 1) (get_or m a 0) h in
        record {
          ends = w.0;
          within = omega (arith, w.0, w.1);
          above = leb-true floor (get_or m a 0) ef;
          below = leb-true (get_or m a 0) ceiling eg;
        }
    go true true false ef eg h = absurd (h refl)
    go true false true ef eg h = absurd (h refl)
    go true false false ef eg h = absurd (h refl)
    go false true true ef eg h = absurd (h refl)
    go false true false ef eg h = absurd (h refl)
    go false false true ef eg h = absurd (h refl)
    go false false false ef eg h = absurd (h refl)

pub short_size : (floor ceiling : ℕ) (m : List ℕ) (a e : ℕ) → ShortThere floor ceiling m a e → length (part_of m (a + 1) e) ≡ get_or m a 0
short_size floor ceiling m a e w =
    rw w.ends (piece_size m (a + 1) (get_or m a 0) (omega (arith, w.ends, w.within)))

pub short_piece : (floor ceiling : ℕ) (m : List ℕ) (a e : ℕ) → ShortThere floor ceiling m a e
    → drop a m ≡ short (part_of m (a + 1) e) ++ drop e m
short_piece floor ceiling m a e w =
    byte_piece m a (omega (arith, w.ends, w.within))
    ∙ ap (λ (t : List ℕ). get_or m a 0 ∷ t)
    (piece m (a + 1) (get_or m a 0) (omega (arith, w.ends, w.within))
    ∙ ap (λ (k : ℕ). part_of m (a + 1) k ++ drop k m) (sym w.ends))
    ∙ ap (λ (k : ℕ). k ∷ (part_of m (a + 1) e ++ drop e m)) (sym (short_size floor ceiling m a e w))

-- a vector with a length of two bytes that is there
pub record LongThere (m : List ℕ) (a e : ℕ) : Type 0 where
  pub ends : e ≡ a + 2 + two_at m a
  pub within : e ≤ length m

pub long_at_lem : (m : List ℕ) (a : ℕ) → (long_end m a ≡ 0 → ⊥) → LongThere m a (long_end m a)
long_at_lem m a h =
    let w = long_there m a h in
    record { ends = w.0; within = omega (arith, w.0, w.1) }

pub long_size : (m : List ℕ) (a e : ℕ) → LongThere m a e → length (part_of m (a + 2) e) ≡ two_at m a
long_size m a e w = rw w.ends (piece_size m (a + 2) (two_at m a) (omega (arith, w.ends, w.within)))

-- two bytes are those of the number that they spell
pub bytes2_of : (x y : ℕ) → x < 256 → y < 256 → bytes2 (x * 256 + y) ≡ x ∷ y ∷ []
bytes2_of x y h k =
    let p : (x * 256 + y) / 256 % 256 ≡ x = omega arith in
    let q : (x * 256 + y) % 256 ≡ y = omega arith in
    λ i. p i ∷ q i ∷ []

pub long_piece : (m : List ℕ) (a e : ℕ) → get_or m a 0 < 256 → get_or m (a + 1) 0 < 256 → LongThere m a e
    → drop a m ≡ long (part_of m (a + 2) e) ++ drop e m
long_piece m a e h k w =
    let z : a + 1 + 1 ≡ a + 2 = omega arith in
    byte_piece m a (omega (arith, w.ends, w.within))
    ∙ ap (λ (t : List ℕ). get_or m a 0 ∷ t) (byte_piece m (a + 1) (omega (arith, w.ends, w.within)))
    ∙ ap (λ (j : ℕ). get_or m a 0 ∷ (get_or m (a + 1) 0 ∷ drop j m)) z
    ∙ ap (λ (t : List ℕ). get_or m a 0 ∷ (get_or m (a + 1) 0 ∷ t))
    (piece m (a + 2) (two_at m a) (omega (arith, w.ends, w.within))
    ∙ ap (λ (j : ℕ). part_of m (a + 2) j ++ drop j m) (sym w.ends))
    ∙ ap (λ (t : List ℕ). t ++ (part_of m (a + 2) e ++ drop e m))
    (sym (bytes2_of (get_or m a 0) (get_or m (a + 1) 0) h k) ∙ ap bytes2 (sym (long_size m a e w)))

-- a part of bytes is bytes
bytes_take : (n : ℕ) (s : List ℕ) → ((i : ℕ) → get_or s i 0 < 256) → (i : ℕ) → get_or (take n s) i 0 < 256
bytes_take zero s b i = lit< tt
bytes_take (suc n) [] b i = lit< tt
bytes_take (suc n) (x ∷ s) b zero = b 0
bytes_take (suc n) (x ∷ s) b (suc i) = bytes_take n s (λ j. b (suc j)) i

pub bytes_part : (m : List ℕ) (from end : ℕ) → ((i : ℕ) → get_or m i 0 < 256) → (i : ℕ) → get_or (part_of m from end) i 0 < 256
bytes_part m from end b = bytes_take (end - from) (drop from m) (λ i. rw (get_or-drop from m i 0) (b (from + i)))
