-- What is heard of a hello that is written of values is what the values say: the first pair that fits is told by its
-- place in the list, and each condition by the value that it is about.
use mathlib.Core.Path.{◌≡◌, refl, sym, ◌∙◌, ap, subst}
use mathlib.Core.Logic.{◌⊎◌, inl, inr, by_cases}
use mathlib.Core.List.{List, [], ◌∷◌}
use mathlib.Core.Bool.{true, false}
use Prim.Native.Nat.{ℕ, zero, suc, ◌+◌, ◌*◌, ◌<◌}
use native.Mathlib.Omega.{arith}
use native.Mathlib.Decide.{dec_le}
use lib.ListN.{get_or}
use lib.Dec.{eqb}
use borrow.Author.Tests.{eq-eqb, ne_eqb, eqb-true, eqb-false}
use Rattle.digest.specs.Mac.{number_of, listed_as, same_bytes}
use Rattle.digest.proofs.Same.{same_equal, equal_same, differ_same}
use Rattle.digest.specs.declared.mac.Mac.{Mac}
use Rattle.digest.specs.declared.mac.Mac.TheVariants.{Sha80, Sha}
use Rattle.std.specs.Prelude.{Option, Some}
use Rattle.message.specs.Values.{Values, hello_of, allowed}
use Rattle.message.specs.Acceptance.{fits_pair, first_fit, has_null, paired, accepted_of, acceptance_of, judged, heard_as, heard_of}
use Rattle.message.specs.Said.{FitsAt, FirstPair, NoPair, NullIn, Known, Says, HeardAsSaid}
use Rattle.message.specs.declared.acceptance.Condition.TheVariants as C
use Rattle.message.specs.declared.acceptance.Unheard.TheVariants as H
use Rattle.message.proofs.Fields.{by_test, clash}
use Rattle.message.proofs.Written.{written_read}
use Rattle.std.specs.Prelude.{Err, Ok, Result}
use Rattle.message.specs.declared.acceptance.Plan.{Plan}
use Rattle.message.specs.declared.acceptance.Unheard.{Unheard}

-- ---- pairs

fits_is : (cipher mac : ℕ) → fits_pair cipher mac ≡ true → (cipher ≡ 0) × ((mac ≡ 2) ⊎ (mac ≡ 3))
unfolding fits_pair
fits_is cipher mac e =
    by_test ((cipher ≡ 0) × ((mac ≡ 2) ⊎ (mac ≡ 3))) (eqb cipher 0)
    (λ a. by_test ((cipher ≡ 0) × ((mac ≡ 2) ⊎ (mac ≡ 3))) (eqb mac 2)
    (λ b. (eqb-true cipher 0 a, inl (eqb-true mac 2 b)))
    (λ b. (eqb-true cipher 0 a, inr (eqb-true mac 3 (rw (a, b) at e)))))
    (λ a. clash (rw a at e))

is_fits : (cipher mac : ℕ) → cipher ≡ 0 → (mac ≡ 2) ⊎ (mac ≡ 3) → fits_pair cipher mac ≡ true
unfolding fits_pair
is_fits cipher mac c (inl e) = rw (eq-eqb cipher 0 c, eq-eqb mac 2 e) refl
is_fits cipher mac c (inr e) = rw (eq-eqb cipher 0 c, ne_eqb mac 2 (λ z. omega arith), eq-eqb mac 3 e) refl

-- what the search for the first pair has found
pub data Found (s : List ℕ) (n : ℕ) : Type 0 where
  none : n ≡ 0 → NoPair s → Found s n
  one : (mac : Mac) → n ≡ number_of mac → FirstPair s mac → Found s n

-- the pairs behind the first
module _ (cipher mac : ℕ) (rest : List ℕ) where
  abbrev all : List ℕ
  all = cipher ∷ mac ∷ rest

  behind_cipher : (k : ℕ) → get_or all (2 * suc k) 0 ≡ get_or rest (2 * k) 0
  behind_cipher k =
      let z : 2 * suc k ≡ suc (suc (2 * k)) = omega arith in
      ap (λ (n : ℕ). get_or all n 0) z

  behind_mac : (k : ℕ) → get_or all (2 * suc k + 1) 0 ≡ get_or rest (2 * k + 1) 0
  behind_mac k =
      let z : 2 * suc k + 1 ≡ suc (suc (2 * k + 1)) = omega arith in
      ap (λ (n : ℕ). get_or all n 0) z

  behind_fits : (k : ℕ) → FitsAt all (suc k) → FitsAt rest k
  behind_fits k (c, inl m) = (sym (behind_cipher k) ∙ c, inl (sym (behind_mac k) ∙ m))
  behind_fits k (c, inr m) = (sym (behind_cipher k) ∙ c, inr (sym (behind_mac k) ∙ m))

  first_not : fits_pair cipher mac ≡ false → FitsAt all 0 → ⊥
  first_not e (c, m) = clash (sym e ∙ is_fits cipher mac c m)

  none_behind : fits_pair cipher mac ≡ false → NoPair rest → NoPair all
  none_behind e n zero l f = first_not e f
  none_behind e n (suc k) l f = n k (omega arith) (behind_fits k f)

  before_behind : fits_pair cipher mac ≡ false → (p : ℕ) → ((k : ℕ) → k < p → FitsAt rest k → ⊥)
      → (k : ℕ) → k < suc p → FitsAt all k → ⊥
  before_behind e p n zero l f = first_not e f
  before_behind e p n (suc k) l f = n k (omega arith) (behind_fits k f)

  one_behind : fits_pair cipher mac ≡ false → (m : Mac) → FirstPair rest m → FirstPair all m
  one_behind e m w =
      record {
        place = suc w.place;
        there = omega (arith, w.there);
        cipher = behind_cipher w.place ∙ w.cipher;
        kind = behind_mac w.place ∙ w.kind;
        none_before = before_behind e w.place w.none_before;
      }

  found_behind : fits_pair cipher mac ≡ false → (n : ℕ) → Found rest n → Found all n
  found_behind e n (none z w) = none z (none_behind e w)
  found_behind e n (one m z w) = one m z (one_behind e m w)

  found_here : (cipher ≡ 0) × ((mac ≡ 2) ⊎ (mac ≡ 3)) → Found all mac
  found_here (c, inl m) =
      one Sha80 m (record { place = 0; there = omega arith; cipher = c; kind = m; none_before = λ k l f. omega arith })
  found_here (c, inr m) =
      one Sha m (record { place = 0; there = omega arith; cipher = c; kind = m; none_before = λ k l f. omega arith })

found : (s : List ℕ) → Found s (first_fit s)
unfolding first_fit
found [] = none refl (λ k l f. omega arith)
found (cipher ∷ []) = none refl (λ k l f. omega arith)
found (cipher ∷ mac ∷ rest) =
    by_test (Found (cipher ∷ mac ∷ rest) (first_fit (cipher ∷ mac ∷ rest))) (fits_pair cipher mac)
    (λ e. rw e (found_here cipher mac rest (fits_is cipher mac e)))
    (λ e. rw e (found_behind cipher mac rest e (first_fit rest) (found rest)))

-- the first pair is one
fits_at : (s : List ℕ) (mac : Mac) (w : FirstPair s mac) → FitsAt s w.place
fits_at s Sha80 w = (w.cipher, inl w.kind)
fits_at s Sha w = (w.cipher, inr w.kind)

number_one : (m n : Mac) → number_of m ≡ number_of n → m ≡ n
number_one Sha80 Sha80 e = refl
number_one Sha80 Sha e = absurd (omega arith)
number_one Sha Sha80 e = absurd (omega arith)
number_one Sha Sha e = refl

place_one : (s : List ℕ) (m n : Mac) (w : FirstPair s m) (u : FirstPair s n) → w.place ≡ u.place
place_one s m n w u =
    by_cases (dec_le w.place u.place)
    (λ l. by_cases (dec_le u.place w.place) (λ k. omega arith)
    (λ k. absurd (u.none_before w.place (omega arith) (fits_at s m w))))
    (λ l. absurd (w.none_before u.place (omega arith) (fits_at s n u)))

pair_one : (s : List ℕ) (m n : Mac) → FirstPair s m → FirstPair s n → m ≡ n
pair_one s m n w u =
    number_one m n
    (sym w.kind ∙ ap (λ (k : ℕ). get_or s (2 * k + 1) 0) (place_one s m n w u) ∙ u.kind)

found_none : (s : List ℕ) (n : ℕ) → Found s n → NoPair s → n ≡ 0
found_none s n (none z w) v = z
found_none s n (one mac z w) v = absurd (v w.place w.there (fits_at s mac w))

found_one : (s : List ℕ) (n : ℕ) → Found s n → (mac : Mac) → FirstPair s mac → n ≡ number_of mac
found_one s n (none z w) mac u = absurd (w u.place u.there (fits_at s mac u))
found_one s n (one m z w) mac u = z ∙ ap number_of (pair_one s m mac w u)

listed_one : (mac : Mac) → listed_as (number_of mac) ≡ Some mac
unfolding listed_as
listed_one Sha80 = refl
listed_one Sha = refl

-- ---- null compression

null_found : (s : List ℕ) → has_null s ≡ true → NullIn s
unfolding has_null
null_found [] h = clash h
null_found (x ∷ s) h =
    by_test (NullIn (x ∷ s)) (eqb x 0) (λ e. (0, omega arith, eqb-true x 0 e))
    (λ e. let (i, l, z) = null_found s (rw e at h) in (suc i, omega arith, z))

null_none : (s : List ℕ) → has_null s ≡ false → NullIn s → ⊥
unfolding has_null
null_none [] h (i, l, z) = omega arith
null_none (x ∷ s) h w =
    by_test ⊥ (eqb x 0) (λ e. clash (sym (rw e at h))) (λ e. behind e (null_none s (rw e at h)) w)
  where
    behind : eqb x 0 ≡ false → (NullIn s → ⊥) → NullIn (x ∷ s) → ⊥
    behind e n (zero, l, z) = eqb-false x 0 e z
    behind e n (suc i, l, z) = n (i, omega arith, z)

null_in : (s : List ℕ) → NullIn s → has_null s ≡ true
null_in s w = by_test (has_null s ≡ true) (has_null s) (λ e. e) (λ e. absurd (null_none s e w))

null_out : (s : List ℕ) → (NullIn s → ⊥) → has_null s ≡ false
null_out s n = by_test (has_null s ≡ false) (has_null s) (λ e. absurd (n (null_found s e))) (λ e. e)

-- ---- acceptance

module _ (v : Values) (planted : List ℕ) where
  -- the MAC kind found, then compression and numbering
  pair_said : Known v planted → (mac : Mac) → FirstPair v.suites mac
      → Says v planted (judged (paired (Some mac) v.methods v.numbering v.refresh))
  pair_said k mac w =
      let S = Says v planted (judged (paired (Some mac) v.methods v.numbering v.refresh)) in
      by_test S (has_null v.methods)
      (λ c. by_test S (eqb v.numbering 2)
      (λ e. rw (c, e) (record {
        known = k;
        pair = w;
        compression = null_found v.methods c;
        numbering = eqb-true v.numbering 2 e;
        refresh = refl;
        key = refl;
      }))
      (λ e. rw (c, e) (k, (mac, w), null_found v.methods c, eqb-false v.numbering 2 e)))
      (λ c. rw c (k, (mac, w), null_none v.methods c))

  listed_said : Known v planted → (n : ℕ) → Found v.suites n
      → Says v planted (judged (paired (listed_as n) v.methods v.numbering v.refresh))
  unfolding listed_as
  listed_said k n (none z w) = rw z (k, w)
  listed_said k n (one Sha80 z w) = rw z (pair_said k Sha80 w)
  listed_said k n (one Sha z w) = rw z (pair_said k Sha w)

  accept_said : Says v planted (judged (acceptance_of v planted))
  unfolding accepted_of
  accept_said =
      let S = Says v planted (judged (acceptance_of v planted)) in
      by_test S (eqb v.version 1)
      (λ a. by_test S (same_bytes v.session planted)
      (λ b. rw (a, b)
      (listed_said (record { version = eqb-true v.version 1 a; session = same_equal v.session planted b })
      (first_fit v.suites) (found v.suites)))
      (λ b. rw (a, b) (eqb-true v.version 1 a, λ q. clash (sym b ∙ equal_same v.session planted q))))
      (λ a. rw a (eqb-false v.version 1 a))

  -- and nothing else
  known_so : Known v planted
      → acceptance_of v planted ≡ paired (listed_as (first_fit v.suites)) v.methods v.numbering v.refresh
  unfolding accepted_of
  known_so k = rw (eq-eqb v.version 1 k.version, equal_same v.session planted k.session) refl

  pair_so : Known v planted → (mac : Mac) → FirstPair v.suites mac
      → acceptance_of v planted ≡ paired (Some mac) v.methods v.numbering v.refresh
  pair_so k mac w =
      known_so k
      ∙ ap (λ (l : Option Mac). paired l v.methods v.numbering v.refresh)
      (ap listed_as (found_one v.suites (first_fit v.suites) (found v.suites) mac w) ∙ listed_one mac)

  accept_only : (h : Result Plan Unheard) → Says v planted h → judged (acceptance_of v planted) ≡ h
  unfolding accepted_of listed_as
  accept_only (Ok plan) w =
      ap judged (pair_so w.known plan.mac w.pair)
      ∙ rw (null_in v.methods w.compression, eq-eqb v.numbering 2 w.numbering)
      (λ i. Ok (record { mac = plan.mac; refresh = sym w.refresh i; key = sym w.key i }))
  accept_only (Err (H.Unacceptable C.Version)) n = rw (ne_eqb v.version 1 n) refl
  accept_only (Err (H.Unacceptable C.SessionId)) (a, n) = rw (eq-eqb v.version 1 a, differ_same v.session planted n) refl
  accept_only (Err (H.Unacceptable C.CipherSuite)) (k, n) =
      ap judged (known_so k) ∙ rw (found_none v.suites (first_fit v.suites) (found v.suites) n) refl
  accept_only (Err (H.Unacceptable C.Compression)) (k, (mac, w), n) =
      ap judged (pair_so k mac w) ∙ rw (null_out v.methods n) refl
  accept_only (Err (H.Unacceptable C.Numbering)) (k, (mac, w), c, n) =
      ap judged (pair_so k mac w) ∙ rw (null_in v.methods c, ne_eqb v.numbering 2 n) refl
  accept_only (Err (H.Malformed fault)) n = absurd n

  pub heard_so : allowed v ≡ true → heard_of (hello_of v) planted ≡ judged (acceptance_of v planted)
  unfolding heard_of
  heard_so h =
      let w = written_read v h in
      ap (heard_as (hello_of v) planted) w.0 ∙ ap (λ (u : Values). judged (acceptance_of u planted)) w.1

  pub heard_said : allowed v ≡ true → Says v planted (heard_of (hello_of v) planted)
  heard_said h = subst (Says v planted) (sym (heard_so h)) accept_said

  pub heard_only : allowed v ≡ true → (h : Result Plan Unheard) → Says v planted h → heard_of (hello_of v) planted ≡ h
  heard_only a h s = heard_so a ∙ accept_only h s

pub heard_as_said : HeardAsSaid
heard_as_said = record { said = heard_said; only = heard_only }
