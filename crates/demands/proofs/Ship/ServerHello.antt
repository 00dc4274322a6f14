-- A ServerHello, by what is written of its values. The idea: the well-formed ones are exactly those that the writer writes (layer 3),
-- and the terms are the tests on those values.
use mathlib.Core.Path.{◌≡◌, refl, sym, ap, subst, ◌∙◌}
use mathlib.Core.Logic.{inl, inr}
use mathlib.Core.Bool.{true, false}
use mathlib.Core.List.{List}
use Prim.Native.Nat.{ℕ, ◌+◌}
use native.Mathlib.Omega.{arith}
use lib.ListN.{length}
use lib.Dec.{eqb, ltb}
use borrow.Author.Tests.{eqb-true, eqb-false, ltb-true, ltb-false}
use Rattle.digest.specs.Mac.{listed_as, same_bytes}
use Rattle.digest.proofs.Same.{same_equal, equal_same}
use Rattle.digest.specs.declared.mac.Mac.{Mac}
use Rattle.digest.specs.declared.mac.Mac.TheVariants as M
use Rattle.std.specs.Prelude.{Option, Some, None}
use Rattle.message.specs.Offer.{offers}
use Rattle.message.specs.Agreement.{offered_as, chosen_of, settled_by, agreed_of, agreed_with, agreed_as, agreement_of}
use Rattle.message.specs.ServerHello.{server_read, ServerValues, server_values_at}
use Rattle.message.proofs.ServerHellos.{server_hellos_as_written}
use Rattle.message.specs.declared.agreement.Disagreed.TheVariants as G
use Rattle.message.specs.declared.agreement.Term.{Term}
use Rattle.message.specs.declared.offer.Kinds.{Kinds}
use Rattle.message.specs.declared.offer.Offer.{Offer}
use Rattle.demands.specs.Exactly.Record.{Bytes}
use Rattle.demands.specs.Ship.ExactlyRecord.{WellFormedHello, Offered, Acceptable}
use Rattle.demands.proofs.Exactly.Reasons.{clash, decide}
use Rattle.std.specs.Prelude.{Err, None, Ok, Option, Result, Some}
use Rattle.message.specs.declared.acceptance.Plan.{Plan}
use Rattle.message.specs.declared.agreement.Disagreed.{Disagreed}

-- ---- the kind

abbrev ChosenHolds : ℕ → ℕ → Kinds → Option Mac → Type 0
ChosenHolds cipher mac kinds (Some m) = (cipher ≡ 0) × Offered kinds mac
ChosenHolds cipher mac kinds None = cipher ≡ 0 → Offered kinds mac → ⊥

offered-holds : (mac : ℕ) (kinds : Kinds) → ChosenHolds 0 mac kinds (offered_as kinds (listed_as mac))
unfolding listed_as
offered-holds mac kinds =
    decide (eqb mac 2)
    (λ a. decide (offers kinds M.Sha80)
    (λ b. rw (a, b) (refl, inl (eqb-true mac 2 a, b)))
    (λ b. rw (a, b) (λ z o. not-80 a b o)))
    (λ a. decide (eqb mac 3)
    (λ c. decide (offers kinds M.Sha)
    (λ b. rw (a, c, b) (refl, inr (eqb-true mac 3 c, b)))
    (λ b. rw (a, c, b) (λ z o. not-sha c b o)))
    (λ c. rw (a, c) (λ z o. neither a c o)))
  where
    not-80 : eqb mac 2 ≡ true → offers kinds M.Sha80 ≡ false → Offered kinds mac → ⊥
    not-80 a b (inl (e, o)) = clash (sym o ∙ b)
    not-80 a b (inr (e, o)) = omega (arith, eqb-true mac 2 a)

    not-sha : eqb mac 3 ≡ true → offers kinds M.Sha ≡ false → Offered kinds mac → ⊥
    not-sha a b (inl (e, o)) = omega (arith, eqb-true mac 3 a)
    not-sha a b (inr (e, o)) = clash (sym o ∙ b)

    neither : eqb mac 2 ≡ false → eqb mac 3 ≡ false → Offered kinds mac → ⊥
    neither a c (inl (e, o)) = eqb-false mac 2 a e
    neither a c (inr (e, o)) = eqb-false mac 3 c e

chosen_at : (cipher mac : ℕ) (kinds : Kinds) → cipher ≡ 0 → (l : Option Mac) → ChosenHolds 0 mac kinds l → ChosenHolds cipher mac kinds l
chosen_at cipher mac kinds e (Some m) h = (e, h.1)
chosen_at cipher mac kinds e None h = λ z o. h refl o

chosen-holds : (cipher mac : ℕ) (kinds : Kinds) → ChosenHolds cipher mac kinds (chosen_of cipher mac kinds)
unfolding chosen_of
chosen-holds cipher mac kinds =
    decide (eqb cipher 0)
    (λ a. rw a (chosen_at cipher mac kinds (eqb-true cipher 0 a) (offered_as kinds (listed_as mac)) (offered-holds mac kinds)))
    (λ a. rw a (λ z o. eqb-false cipher 0 a z))

-- ---- the terms

abbrev TermsHold : ServerValues → List ℕ → Offer → Result Plan Disagreed → Type 0
TermsHold v id offer (Ok plan) = Acceptable v id offer
TermsHold v id offer (Err (G.Unacceptable term)) = Acceptable v id offer → ⊥
TermsHold v id offer (Err G.Malformed) = ⊥

module _ (v : ServerValues) (id : List ℕ) (offer : Offer) where
  settled-holds : v.version ≡ 1 → v.session ≡ id → v.key ≡ 0 → (l : Option Mac) → ChosenHolds v.cipher v.mac offer.kinds l
      → TermsHold v id offer (settled_by l v.compression v.numbering v.refresh offer.refresh)
  settled-holds a b c (Some m) h =
      decide (eqb v.compression 0)
      (λ d. decide (eqb v.numbering 2)
      (λ e. decide (ltb offer.refresh v.refresh)
      (λ f. rw (d, e, f) (λ x. omega (arith, ltb-true offer.refresh v.refresh f, x.refresh)))
      (λ f. rw (d, e, f) (record {
        version = a;
        session = b;
        key = c;
        cipher = h.0;
        kind = h.1;
        compression = eqb-true v.compression 0 d;
        numbering = eqb-true v.numbering 2 e;
        refresh = ltb-false offer.refresh v.refresh f;
      })))
      (λ e. rw (d, e) (λ x. eqb-false v.numbering 2 e x.numbering)))
      (λ d. rw d (λ x. eqb-false v.compression 0 d x.compression))
  settled-holds a b c None h = λ x. h x.cipher x.kind

  terms-hold : TermsHold v id offer (agreed_with v id offer)
  unfolding agreed_of
  terms-hold =
      decide (eqb v.version 1)
      (λ a. decide (same_bytes v.session id)
      (λ b. decide (eqb v.key 0)
      (λ c. rw (a, b, c)
      (settled-holds (eqb-true v.version 1 a) (same_equal v.session id b) (eqb-true v.key 0 c)
      (chosen_of v.cipher v.mac offer.kinds) (chosen-holds v.cipher v.mac offer.kinds)))
      (λ c. rw (a, b, c) (λ x. eqb-false v.key 0 c x.key)))
      (λ b. rw (a, b) (λ x. clash (sym (equal_same v.session id x.session) ∙ b))))
      (λ a. rw a (λ x. eqb-false v.version 1 a x.version))

-- ---- a message that is to be a ServerHello

module _ (m id : List ℕ) (offer : Offer) where
  abbrev pub AgreementHolds : Result Plan Disagreed → Type 0
  AgreementHolds (Ok plan) = (w : WellFormedHello m) × Acceptable w.values id offer
  AgreementHolds (Err (G.Unacceptable term)) = (w : WellFormedHello m) × (Acceptable w.values id offer → ⊥)
  AgreementHolds (Err G.Malformed) = WellFormedHello m → ⊥

  -- what is written of values is read as well formed
  reads_so : (w : WellFormedHello m) → server_read m ≡ Some (21 + length w.values.session)
  reads_so w =
      subst (λ l. server_read l ≡ Some (21 + length w.values.session)) w.layout
      (server_hellos_as_written.written w.values w.can).0

  values-so : (w : WellFormedHello m) → server_values_at m (21 + length w.values.session) ≡ w.values
  values-so w =
      subst (λ l. server_values_at l (21 + length w.values.session) ≡ w.values) w.layout
      (server_hellos_as_written.written w.values w.can).1

  agreed-so : (end : ℕ) → (w : WellFormedHello m) → w.values ≡ server_values_at m end → (a : Result Plan Disagreed)
      → TermsHold (server_values_at m end) id offer a → AgreementHolds a
  agreed-so end w e (Ok plan) h = (w, subst (λ v. Acceptable v id offer) (sym e) h)
  agreed-so end w e (Err (G.Unacceptable term)) h = (w, λ x. h (subst (λ v. Acceptable v id offer) e x))
  agreed-so end w e (Err G.Malformed) h = absurd h

  pub agreement-holds : Bytes m → AgreementHolds (agreement_of m id offer)
  unfolding agreement_of
  agreement-holds b = go (server_read m) refl
    where
      go : (r : Option ℕ) → server_read m ≡ r → AgreementHolds (agreed_as m id offer r)
      go (Some end) e =
          let back = server_hellos_as_written.read m b end e in
          let w : WellFormedHello m = record { values = server_values_at m end; can = back.0; layout = back.1 } in
          agreed-so end w refl (agreed_with (server_values_at m end) id offer) (terms-hold (server_values_at m end) id offer)
      go None e = λ w. let t : None ≡ Some (21 + length w.values.session) = sym e ∙ reads_so w in
          let n : ◌≡◌ {A = ℕ} 0 1 = cc in omega arith

  pub not-hello : Bytes m → (WellFormedHello m → ⊥) → agreement_of m id offer ≡ Err G.Malformed
  not-hello b n = go (agreement_of m id offer) (agreement-holds b)
    where
      go : (a : Result Plan Disagreed) → AgreementHolds a → a ≡ Err G.Malformed
      go (Ok plan) h = absurd (n h.0)
      go (Err (G.Unacceptable term)) h = absurd (n h.0)
      go (Err G.Malformed) h = refl

  -- a message has one reading
  one-reading : (w x : WellFormedHello m) → w.values ≡ x.values
  one-reading w x =
      let n : 21 + length w.values.session ≡ 21 + length x.values.session = same_end (reads_so w) (reads_so x) in
      sym (values-so w) ∙ ap (server_values_at m) n ∙ values-so x
    where
      same_end : {i j : ℕ} → server_read m ≡ Some i → server_read m ≡ Some j → i ≡ j
      same_end e f = let t = sym e ∙ f in cc

  pub not-acceptable : Bytes m → (w : WellFormedHello m) → (Acceptable w.values id offer → ⊥)
      → (term : Term) × (agreement_of m id offer ≡ Err (G.Unacceptable term))
  not-acceptable b w n = go (agreement_of m id offer) (agreement-holds b)
    where
      go : (a : Result Plan Disagreed) → AgreementHolds a → (term : Term) × (a ≡ Err (G.Unacceptable term))
      go (Ok plan) h = absurd (n (subst (λ v. Acceptable v id offer) (one-reading h.0 w) h.1))
      go (Err (G.Unacceptable term)) h = (term, refl)
      go (Err G.Malformed) h = absurd (h w)
