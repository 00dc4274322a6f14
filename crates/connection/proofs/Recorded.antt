-- The records sent: what one more leaves of those that are kept, and how they are searched.
use mathlib.Core.Path.{◌≡◌, refl, sym, ◌∙◌, ap}
use mathlib.Core.Bool.{Bool, true, false}
use mathlib.Core.List.{List, [], ◌∷◌}
use Prim.Native.Nat.{ℕ, suc, ◌+◌, ◌≤◌, ◌<◌, min}
use Rattle.record.proofs.Histories.{decide}
use native.Mathlib.Numerals.{add-one}
use native.Mathlib.Omega.{arith}
use lib.ListN.{length, take, drop, get_or, length-take, drop_of_length-le}
use lib.Dec.{ltb, leb, eqb}
use lib.Seq.{take_all, take-take, drop-cons}
use borrow.Author.Tests.{eq-eqb, ne_eqb, eqb-true, eqb-false, leb-true, leb-false, ltb-true, ltb-false}
use Rattle.digest.specs.Pick.{pick}
use Rattle.connection.specs.Sent.{records_kept, sums_of, with_record, with_reply, one_of}
use Rattle.connection.specs.declared.sent.SentRecords.{SentRecords}

take_take_more : (m n : ℕ) (l : List ℕ) → n ≤ m → take m (take n l) ≡ take n l
take_take_more m n l h = take_all m (take n l) (omega (arith, length-take n l))

-- the first seven of eight, spelled out
pub seven : (l : List ℕ) → 7 ≤ length l
    → get_or l 0 0 ∷ get_or l 1 0 ∷ get_or l 2 0 ∷ get_or l 3 0 ∷ get_or l 4 0 ∷ get_or l 5 0 ∷ get_or l 6 0 ∷ [] ≡ take 7 l
seven [] h = absurd (omega arith)
seven (a ∷ []) h = absurd (omega arith)
seven (a ∷ b ∷ []) h = absurd (omega arith)
seven (a ∷ b ∷ c ∷ []) h = absurd (omega arith)
seven (a ∷ b ∷ c ∷ d ∷ []) h = absurd (omega arith)
seven (a ∷ b ∷ c ∷ d ∷ e ∷ []) h = absurd (omega arith)
seven (a ∷ b ∷ c ∷ d ∷ e ∷ f ∷ []) h = absurd (omega arith)
seven (a ∷ b ∷ c ∷ d ∷ e ∷ f ∷ g ∷ more) h = refl

-- one record more, as the code makes it
pub one_more : (s : SentRecords) (sum n : ℕ) → length s.checksums ≡ 8 → n ≡ pick (ltb s.count 8) (s.count + 1) 8
    → let l = s.checksums in
    ◌≡◌ {A = SentRecords} (record {
      count = n;
      checksums = sum ∷ get_or l 0 0 ∷ get_or l 1 0 ∷ get_or l 2 0 ∷ get_or l 3 0 ∷ get_or l 4 0 ∷ get_or l 5 0 ∷ get_or l 6 0 ∷ [];
    }) (with_record s sum)
unfolding with_record
one_more s sum n l e = λ i. record { count = e i; checksums = sum ∷ seven s.checksums (omega (arith, l)) i }

-- what is kept, one record later: the new one in front of the old ones, cut to eight
pub sums_with : (s : SentRecords) (sum : ℕ) → sums_of (with_record s sum) ≡ take records_kept (sum ∷ sums_of s)
unfolding with_record
sums_with s sum = told (ltb s.count 8) refl
  where
    few : (n : ℕ) → n < 8 → take (n + 1) (sum ∷ take 7 s.checksums) ≡ sum ∷ take 7 (take n s.checksums)
    few n h =
        ap (λ k. take k (sum ∷ take 7 s.checksums)) (add-one n)
        ∙ ap (λ (r : List ℕ). sum ∷ r)
        (take-take n 7 s.checksums (omega arith) ∙ sym (take_take_more 7 n s.checksums (omega arith)))

    told : (b : Bool) → ltb s.count 8 ≡ b
        → take (pick b (s.count + 1) 8) (take 8 (sum ∷ s.checksums)) ≡ take 8 (sum ∷ take s.count s.checksums)
    told true e = few s.count (ltb-true s.count 8 e)
    told false e =
        ap (λ (r : List ℕ). sum ∷ r)
        (take-take 7 7 s.checksums (omega arith) ∙ sym (take-take 7 s.count s.checksums (omega (arith, ltb-false s.count 8 e))))

-- three more
pub sums_reply : (s : SentRecords) (hello change finished : ℕ)
    → sums_of (with_reply s hello change finished) ≡ take records_kept (finished ∷ change ∷ hello ∷ sums_of s)
sums_reply s hello change finished =
    sums_with (with_record (with_record s hello) change) finished
    ∙ ap (λ (r : List ℕ). take 8 (finished ∷ r)) (sums_with (with_record s hello) change ∙ ap (λ (r : List ℕ). take 8 (change ∷ r)) (sums_with s hello))
    ∙ ap (λ (r : List ℕ). finished ∷ r) (take-take 7 8 (change ∷ take 8 (hello ∷ sums_of s)) (omega arith))
    ∙ ap (λ (r : List ℕ). finished ∷ change ∷ r) (take-take 6 8 (hello ∷ sums_of s) (omega arith))

-- the search from a place on: past the end, at a match, at none
pub past_end : (x i : ℕ) (l : List ℕ) → length l ≤ i → one_of x (drop i l) ≡ false
unfolding one_of
past_end x i l h = ap (one_of x) (drop_of_length-le l h)

pub match_here : (x i : ℕ) (l : List ℕ) → i < length l → get_or l i 0 ≡ x → one_of x (drop i l) ≡ true
unfolding one_of
match_here x i l h e =
    ap (one_of x) (drop-cons l i 0 h) ∙ ap (λ b. pick b true (one_of x (drop (suc i) l))) (eq-eqb x (get_or l i 0) (sym e))

pub no_match_here : (x i : ℕ) (l : List ℕ) → i < length l → (get_or l i 0 ≡ x → ⊥) → one_of x (drop i l) ≡ one_of x (drop (i + 1) l)
unfolding one_of
no_match_here x i l h n =
    ap (one_of x) (drop-cons l i 0 h)
    ∙ ap (λ b. pick b true (one_of x (drop (suc i) l))) (ne_eqb x (get_or l i 0) (λ k. n (sym k)))
    ∙ ap (λ k. one_of x (drop k l)) (sym (add-one i))

-- the first of them up to the count, of eight at most
pub kept_front : (n : ℕ) (l : List ℕ) → length l ≡ 8 → take (min n 8) l ≡ take n l
kept_front n l e = decide (leb n 8)
    (λ a. let most : min n 8 ≡ n = omega (arith, leb-true n 8 a) in ap (λ k. take k l) most)
    (λ a. let most : min n 8 ≡ 8 = omega (arith, leb-false n 8 a) in
    ap (λ k. take k l) most ∙ take_all 8 l (omega (arith, e)) ∙ sym (take_all n l (omega (arith, e, leb-false n 8 a))))

-- the first n of a list: no longer than n, nor than the list; and each of them is one of the list
pub front_most : (n : ℕ) (l : List ℕ) → (length (take n l) ≤ n) × (length (take n l) ≤ length l)
front_most n l = (omega (arith, length-take n l), omega (arith, length-take n l))

pub in_front : (n i : ℕ) (l : List ℕ) → i < n → i < length l → i < length (take n l)
in_front n i l a b = omega (arith, length-take n l)
