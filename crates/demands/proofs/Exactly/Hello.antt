-- Hellos, by what is written of their values. The idea: the well-formed hellos are exactly those that the writer
-- writes (layer 3), and the conditions of acceptance are the tests on those values.
use mathlib.Core.Path.{◌≡◌, refl, sym, ap, subst, ◌∙◌}
use mathlib.Core.Logic.{◌⊎◌, inl, inr}
use mathlib.Core.Bool.{true, false}
use mathlib.Core.List.{List, [], ◌∷◌}
use Prim.Native.Nat.{ℕ, zero, suc, ◌+◌, ◌<◌}
use native.Mathlib.Omega.{arith}
use lib.ListN.{take, drop}
use lib.Seq.{get_or-drop}
use lib.Dec.{eqb, lit<}
use borrow.Author.Tests.{eq-eqb, ne_eqb, eqb-true, eqb-false}
use Rattle.digest.specs.Pick.{pick}
use Rattle.digest.specs.Mac.{listed_as, same_bytes}
use Rattle.digest.proofs.Same.{same_equal, equal_same}
use Rattle.std.specs.Prelude.{Option, Some, None}
use Rattle.digest.specs.declared.mac.Mac.{Mac}
use Rattle.message.specs.Acceptance.{fits_pair, first_fit, has_null, paired, accepted_of, acceptance_of, judged, heard_as, heard_of}
use Rattle.message.specs.Hello.{read_of}
use Rattle.message.specs.Values.{Values, values_at}
use Rattle.message.proofs.Written.{places_of, read_written, written_read}
use Rattle.message.specs.declared.acceptance.Condition.TheVariants as N
use Rattle.message.specs.declared.acceptance.Condition.{Condition}
use Rattle.message.specs.declared.acceptance.Unheard.TheVariants as H
use Rattle.message.specs.declared.hello.Field.{Field}
use Rattle.message.specs.declared.hello.Hello.{Hello}
use Rattle.demands.specs.Exactly.Numbers.{is_among}
use Rattle.demands.specs.Facts.{FirstUnmet}
use Rattle.demands.specs.Exactly.Record.{Bytes, WellFormedHello, OffersPair, Acceptable}
use Rattle.demands.proofs.Exactly.Reasons.{clash, decide}
use Rattle.std.specs.Prelude.{Err, Ok, Result}
use Rattle.message.specs.declared.acceptance.Plan.{Plan}
use Rattle.message.specs.declared.acceptance.Unheard.{Unheard}

-- ---- a part of bytes is bytes

pub bytes_take : (n : ℕ) (s : List ℕ) → Bytes s → Bytes (take n s)
bytes_take zero s b i = lit< tt
bytes_take (suc n) [] b i = lit< tt
bytes_take (suc n) (x ∷ s) b zero = b 0
bytes_take (suc n) (x ∷ s) b (suc i) = bytes_take n s (λ j. b (suc j)) i

pub bytes_drop : (n : ℕ) (s : List ℕ) → Bytes s → Bytes (drop n s)
bytes_drop n s b i = subst (λ x. x < 256) (sym (get_or-drop n s i 0)) (b (n + i))

-- ---- the pair and the compression

fits_is : (cipher mac : ℕ) → cipher ≡ 0 → (mac ≡ 2) ⊎ (mac ≡ 3) → fits_pair cipher mac ≡ true
unfolding fits_pair
fits_is cipher mac c (inl e) = rw (eq-eqb cipher 0 c, eq-eqb mac 2 e) refl
fits_is cipher mac c (inr e) = rw (eq-eqb cipher 0 c, ne_eqb mac 2 (λ z. omega arith), eq-eqb mac 3 e) refl

is_fits : (cipher mac : ℕ) → fits_pair cipher mac ≡ true → (cipher ≡ 0) × ((mac ≡ 2) ⊎ (mac ≡ 3))
unfolding fits_pair
is_fits cipher mac e =
    decide (eqb cipher 0)
    (λ a. decide (eqb mac 2) (λ b. (eqb-true cipher 0 a, inl (eqb-true mac 2 b)))
    (λ b. (eqb-true cipher 0 a, inr (eqb-true mac 3 (sym (rw (a, b) refl) ∙ e)))))
    (λ a. clash (sym (sym (rw a refl) ∙ e)))

-- the first pair that fits is a pair that fits, and there is none where none is found
abbrev FitHolds : List ℕ → ℕ → Type 0
FitHolds s n = (((n ≡ 2) ⊎ (n ≡ 3)) × OffersPair s) ⊎ ((n ≡ 0) × (OffersPair s → ⊥))

fit-holds : (s : List ℕ) → FitHolds s (first_fit s)
unfolding first_fit OffersPair
fit-holds [] = inr (refl, λ o. o)
fit-holds (cipher ∷ []) = inr (refl, λ o. o)
fit-holds (cipher ∷ mac ∷ rest) =
    decide (fits_pair cipher mac)
    (λ e. rw e (inl ((is_fits cipher mac e).1, inl (is_fits cipher mac e))))
    (λ e. rw e (behind e (fit-holds rest)))
  where
    behind : fits_pair cipher mac ≡ false → FitHolds rest (first_fit rest)
        → (((first_fit rest ≡ 2) ⊎ (first_fit rest ≡ 3)) × (((cipher ≡ 0) × ((mac ≡ 2) ⊎ (mac ≡ 3))) ⊎ OffersPair rest))
        ⊎ ((first_fit rest ≡ 0) × ((((cipher ≡ 0) × ((mac ≡ 2) ⊎ (mac ≡ 3))) ⊎ OffersPair rest) → ⊥))
    behind e (inl (a, o)) = inl (a, inr o)
    behind e (inr (z, n)) = inr (z, either)
      where
        either : ((cipher ≡ 0) × ((mac ≡ 2) ⊎ (mac ≡ 3))) ⊎ OffersPair rest → ⊥
        either (inl (c, m)) = clash (sym (fits_is cipher mac c m) ∙ e)
        either (inr o) = n o

abbrev ListedHolds : List ℕ → Option Mac → Type 0
ListedHolds s (Some mac) = OffersPair s
ListedHolds s None = OffersPair s → ⊥

listed-holds : (s : List ℕ) → ListedHolds s (listed_as (first_fit s))
unfolding listed_as
listed-holds s = go (fit-holds s)
  where
    go : FitHolds s (first_fit s) → ListedHolds s (listed_as (first_fit s))
    go (inl (inl e, o)) = rw (eq-eqb (first_fit s) 2 e) o
    go (inl (inr e, o)) = rw (ne_eqb (first_fit s) 2 (λ z. omega arith), eq-eqb (first_fit s) 3 e) o
    go (inr (e, n)) = rw (ne_eqb (first_fit s) 2 (λ z. omega arith), ne_eqb (first_fit s) 3 (λ z. omega arith)) n

null_is : (s : List ℕ) → has_null s ≡ is_among s 0
unfolding has_null is_among
null_is [] = refl
null_is (x ∷ s) = ap (pick (eqb x 0) true) (null_is s)

-- ---- acceptance

abbrev AcceptHolds : Values → List ℕ → Result Plan Condition → Type 0
AcceptHolds v id (Ok plan) = Acceptable v id
AcceptHolds v id (Err condition) = FirstUnmet v id condition

module _ (v : Values) (id : List ℕ) where
  paired-holds : v.version ≡ 1 → v.session ≡ id → (l : Option Mac) → ListedHolds v.suites l
      → AcceptHolds v id (paired l v.methods v.numbering v.refresh)
  paired-holds a b (Some mac) o =
      decide (has_null v.methods)
      (λ c. decide (eqb v.numbering 2)
      (λ e. rw (c, e) (record {
        version = a;
        session = b;
        pair = o;
        compression = sym (null_is v.methods)
            ∙ c;
        numbering = eqb-true v.numbering 2 e;
      }))
      (λ e. rw (c, e) (a, b, o, sym (null_is v.methods) ∙ c, eqb-false v.numbering 2 e)))
      (λ c. rw c (a, b, o, sym (null_is v.methods) ∙ c))
  paired-holds a b None o = (a, b, o)

  accept-holds : AcceptHolds v id (acceptance_of v id)
  unfolding accepted_of
  accept-holds =
      decide (eqb v.version 1)
      (λ a. decide (same_bytes v.session id)
      (λ b. rw (a, b)
      (paired-holds (eqb-true v.version 1 a) (same_equal v.session id b) (listed_as (first_fit v.suites))
      (listed-holds v.suites)))
      (λ b. rw (a, b) (eqb-true v.version 1 a, λ x. clash (sym (equal_same v.session id x) ∙ b))))
      (λ a. rw a (eqb-false v.version 1 a))

  -- a hello of which a condition fails is not acceptable
  pub unmet-not : (condition : Condition) → FirstUnmet v id condition → Acceptable v id → ⊥
  unmet-not N.Version u x = u x.version
  unmet-not N.SessionId (a, u) x = u x.session
  unmet-not N.CipherSuite (a, b, u) x = u x.pair
  unmet-not N.Compression (a, b, o, u) x = clash (sym x.compression ∙ u)
  unmet-not N.Numbering (a, b, o, c, u) x = u x.numbering

-- ---- a message that is to be a ClientHello

module _ (m id : List ℕ) where
  abbrev pub HeardHolds : Result Plan Unheard → Type 0
  HeardHolds (Ok plan) = Unit
  HeardHolds (Err (H.Unacceptable condition)) = (w : WellFormedHello m) × FirstUnmet w.values id condition
  HeardHolds (Err (H.Malformed fault)) = WellFormedHello m → ⊥

  -- what is written of values is read as well formed
  pub reads_so : (w : WellFormedHello m) → read_of m ≡ Ok (places_of w.values)
  reads_so w = subst (λ l. read_of l ≡ Ok (places_of w.values)) w.layout
      (written_read w.values w.can).0

  pub values-so : (w : WellFormedHello m) → values_at m (places_of w.values) ≡ w.values
  values-so w = subst (λ l. values_at l (places_of w.values) ≡ w.values) w.layout
      (written_read w.values w.can).1

  pub heard-holds : Bytes m → HeardHolds (heard_of m id)
  unfolding heard_of
  heard-holds b = go (read_of m) refl
    where
      accepted-as : (h : Hello) → read_of m ≡ Ok h → (a : Result Plan Condition) → AcceptHolds (values_at m h) id a
          → HeardHolds (judged a)
      accepted-as h e (Ok plan) x = tt
      accepted-as h e (Err condition) x =
          let written = read_written m b h e in
          (record { values = values_at m h; can = written.0; layout = written.1 }, x)

      go : (r : Result Hello Field) → read_of m ≡ r → HeardHolds (heard_as m id r)
      go (Ok h) e = accepted-as h e (acceptance_of (values_at m h) id) (accept-holds (values_at m h) id)
      go (Err fault) e = λ w. let t : Err fault ≡ Ok (places_of w.values) = sym e
          ∙ reads_so w in let n : ◌≡◌ {A = ℕ} 0 1 = cc in omega arith

  pub not-hello : Bytes m → (WellFormedHello m → ⊥) → (fault : Field) × (heard_of m id ≡ Err (H.Malformed fault))
  unfolding heard_of
  not-hello b n = go (read_of m) refl
    where
      go : (r : Result Hello Field) → read_of m ≡ r → (fault : Field) × (heard_as m id r ≡ Err (H.Malformed fault))
      go (Ok h) e =
          let written = read_written m b h e in
          absurd (n (record { values = values_at m h; can = written.0; layout = written.1 }))
      go (Err fault) e = (fault, refl)

  pub not-acceptable : (w : WellFormedHello m) → (Acceptable w.values id → ⊥)
      → (condition : Condition) × (heard_of m id ≡ Err (H.Unacceptable condition))
  unfolding heard_of
  not-acceptable w n =
      let (condition, e) = go (acceptance_of w.values id) (accept-holds w.values id) in
      (condition, ap (heard_as m id) (reads_so w) ∙ ap (λ v. judged (acceptance_of v id)) (values-so w) ∙ ap judged e)
    where
      go : (a : Result Plan Condition) → AcceptHolds w.values id a → (condition : Condition) × (a ≡ Err condition)
      go (Ok plan) x = absurd (n x)
      go (Err condition) x = (condition, refl)
