-- The records sent since the last start, and the checksums that are kept of them.
use mathlib.Core.Path.{◌≡◌, refl, sym, ◌∙◌, ap}
use mathlib.Core.Logic.{◌≢◌}
use mathlib.Core.Bool.{Bool, true, false}
use mathlib.Core.List.{List, [], ◌∷◌, map}
use Prim.Native.Nat.{ℕ, zero, suc, ◌<◌, suc-le-suc}
use native.Mathlib.Nat.{le_of_suc-le-suc, not-suc-le-zero, zero-lt-suc}
use native.Mathlib.Omega.{arith}
use lib.ListN.{length, take, get_or}
use lib.Seq.{take-take}
use lib.Dec.{eqb}
use borrow.Author.Tests.{eq-eqb, ne_eqb}
use Rattle.digest.specs.Pick.{pick}
use Rattle.connection.specs.Sent.{records_kept, sum_of, sums_of, with_record, with_reply, one_of}
use Rattle.connection.specs.declared.sent.SentRecords.{SentRecords}
use Rattle.connection.proofs.Recorded.{sums_with, sums_reply}

take_map : (n : ℕ) (l : List (List ℕ)) → take n (map sum_of l) ≡ map sum_of (take n l)
take_map zero l = refl
take_map (suc n) [] = refl
take_map (suc n) (b ∷ l) = ap (λ (r : List ℕ). sum_of b ∷ r) (take_map n l)

-- fewer of the last eight
fewer : (n : ℕ) (l : List (List ℕ)) (sums : List ℕ) → n < 9 → sums ≡ map sum_of (take 8 l) → take n sums ≡ map sum_of (take n l)
fewer n l sums h e = ap (take n) e ∙ take_map n (take 8 l) ∙ ap (map sum_of) (take-take n 8 l (omega arith))

-- one record more
pub record_sums : (s : SentRecords) (l : List (List ℕ)) (bytes : List ℕ) → sums_of s ≡ map sum_of (take records_kept l)
    → sums_of (with_record s (sum_of bytes)) ≡ map sum_of (take records_kept (bytes ∷ l))
record_sums s l bytes e =
    sums_with s (sum_of bytes) ∙ ap (λ (r : List ℕ). sum_of bytes ∷ r) (fewer 7 l (sums_of s) (omega arith) e)

-- a reply more
pub reply_sums : (s : SentRecords) (l : List (List ℕ)) (hello change finished : List ℕ) → sums_of s ≡ map sum_of (take records_kept l)
    → sums_of (with_reply s (sum_of hello) (sum_of change) (sum_of finished)) ≡ map sum_of (take records_kept (finished ∷ change ∷ hello ∷ l))
reply_sums s l hello change finished e =
    sums_reply s (sum_of hello) (sum_of change) (sum_of finished)
    ∙ ap (λ (r : List ℕ). sum_of finished ∷ sum_of change ∷ sum_of hello ∷ r) (fewer 5 l (sums_of s) (omega arith) e)

-- a checksum is none of the kept ones exactly if none of the records has it
pub unmatched : (sum n : ℕ) (l : List (List ℕ)) → one_of sum (map sum_of (take n l)) ≡ false
    → (i : ℕ) → i < n → i < length l → sum ≢ sum_of (get_or l i [])
unfolding one_of
unmatched sum zero l e i h k = absurd (not-suc-le-zero h)
unmatched sum (suc n) [] e i h k = absurd (not-suc-le-zero k)
unmatched sum (suc n) (b ∷ l) e zero h k =
    λ z. let yes : eqb sum (sum_of b) ≡ true = eq-eqb sum (sum_of b) z in
    let no : true ≡ false = sym (ap (λ t. pick t true (one_of sum (map sum_of (take n l)))) yes) ∙ e in
    let z : ◌≡◌ {A = ℕ} 0 1 = cc in
    absurd (omega arith)
unmatched sum (suc n) (b ∷ l) e (suc i) h k =
    unmatched sum n l (rest (eqb sum (sum_of b)) (one_of sum (map sum_of (take n l))) e) i (le_of_suc-le-suc h) (le_of_suc-le-suc k)
  where
    rest : (t x : Bool) → pick t true x ≡ false → x ≡ false
    rest true x f = cc
    rest false x f = f

pub matches_none : (sum n : ℕ) (l : List (List ℕ)) → ((i : ℕ) → i < n → i < length l → sum ≢ sum_of (get_or l i []))
    → one_of sum (map sum_of (take n l)) ≡ false
unfolding one_of
matches_none sum zero l f = refl
matches_none sum (suc n) [] f = refl
matches_none sum (suc n) (b ∷ l) f =
    ap (λ t. pick t true (one_of sum (map sum_of (take n l)))) (ne_eqb sum (sum_of b) (f zero (zero-lt-suc n) (zero-lt-suc (length l))))
    ∙ matches_none sum n l (λ i h k. f (suc i) (suc-le-suc h) (suc-le-suc k))
