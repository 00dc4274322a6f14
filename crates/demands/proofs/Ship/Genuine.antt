-- A record is protected with a content exactly if the test of its code succeeds, and the content is then the fragment without its code:
-- the laws of `record`, at the shore's sense.
use mathlib.Core.Path.{◌≡◌, refl, ◌∙◌, ap}
use mathlib.Core.Logic.{◌⊎◌, inl, inr}
use mathlib.Core.Bool.{Bool, true, false}
use mathlib.Core.List.{List}
use Prim.Native.Nat.{ℕ}
use Rattle.digest.specs.Pick.{pick}
use Rattle.digest.specs.Hmac.{hmac}
use Rattle.digest.specs.Mac.{size_of}
use Rattle.record.specs.Protection.{genuine_under, content_under}
use Rattle.record.specs.declared.keys.Keys.{Keys}
use Rattle.record.specs.declared.keys.Sense.TheVariants.{FromShore}
use Rattle.record.specs.declared.reader.Record.{Record}
use Rattle.record.proofs.ProtectedBytes.{genuine_made, protected_genuine}
use Rattle.connection.specs.Judge.{fragment_of}
use Rattle.demands.specs.Ship.Genuine.{shore_key, Protected, genuine_bytes, content_bytes}
use Rattle.demands.proofs.Genuine.{true_false}
use Rattle.demands.proofs.Coded.{content_before}

module _ (k : Keys) (d : List ℕ) (r : Record) where
  pub protected_right : (c : List ℕ) → Protected k d r c → genuine_under k FromShore r.number r.byte (fragment_of d r) ≡ true
  protected_right c s =
      ap (genuine_under k FromShore r.number r.byte) s.is_coded
      ∙ protected_genuine (shore_key k r.number) k.mac r.number r.byte c

  pub protected_content : (c : List ℕ) → Protected k d r c → content_bytes k d r ≡ c
  protected_content c s =
      ap (content_under k) s.is_coded ∙ content_before (shore_key k r.number) k.mac r.number r.byte c

  pub right_protected : r.protected ≡ true → genuine_under k FromShore r.number r.byte (fragment_of d r) ≡ true
      → Protected k d r (content_bytes k d r)
  right_protected p g =
      record {
        is_protected = p;
        is_coded = (genuine_made (hmac (shore_key k r.number)) (size_of k.mac) r.number r.byte (fragment_of d r) g).1;
      }

  -- one or the other
  pub coded-or-not : r.protected ≡ true → ((c : List ℕ) × Protected k d r c) ⊎ ((c : List ℕ) → Protected k d r c → ⊥)
  coded-or-not p = told (genuine_under k FromShore r.number r.byte (fragment_of d r)) refl
    where
      told : (b : Bool) → genuine_under k FromShore r.number r.byte (fragment_of d r) ≡ b
          → ((c : List ℕ) × Protected k d r c) ⊎ ((c : List ℕ) → Protected k d r c → ⊥)
      told true e = inl (content_bytes k d r, right_protected p e)
      told false e = inr (λ c s. true_false (genuine_under k FromShore r.number r.byte (fragment_of d r)) (protected_right c s) e)

  pub bytes-right : (c : List ℕ) → Protected k d r c → genuine_bytes k d r ≡ true
  bytes-right c s = (λ i. pick (s.is_protected i) (protected_right c s i) false)

  pub bytes-wrong : ((c : List ℕ) → Protected k d r c → ⊥) → genuine_bytes k d r ≡ false
  bytes-wrong never = told r.protected refl (genuine_under k FromShore r.number r.byte (fragment_of d r)) refl
    where
      told : (p : Bool) → r.protected ≡ p → (b : Bool) → genuine_under k FromShore r.number r.byte (fragment_of d r) ≡ b
          → pick p b false ≡ false
      told true ep true eb = absurd (never (content_bytes k d r) (right_protected ep eb))
      told true ep false eb = refl
      told false ep b eb = refl
