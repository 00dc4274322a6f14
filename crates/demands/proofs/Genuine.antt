-- A record is protected with a content exactly if the test of its code succeeds, and the content is then the fragment without its code.
use mathlib.Core.Path.{◌≡◌, sym, ◌∙◌, ap}
use mathlib.Core.Bool.{Bool, true, false}
use mathlib.Core.List.{List, ◌++◌}
use Prim.Native.Nat.{ℕ, ◌-◌, ◌≤◌}
use native.Mathlib.Omega.{arith}
use lib.ListN.{length, take, length-append}
use lib.Seq.{take_at, length-take-le}
use Rattle.digest.specs.Hmac.{hmac}
use Rattle.digest.specs.Mac.{size_of}
use Rattle.digest.proofs.Codes.{length_hmac}
use Rattle.record.specs.Code.{coded_of, code_by, fragment_by, genuine_by}
use Rattle.record.specs.declared.reader.Record.{Record}
use Rattle.record.proofs.ProtectedBytes.{size_most, genuine_made, made_genuine}
use Rattle.connection.specs.Judge.{fragment_of}
use Rattle.record.specs.declared.keys.Keys.{Keys}
use Rattle.demands.specs.Genuine.{Protected, unit_key}
use Rattle.demands.specs.Course.{content_bytes}

-- no truth is false
pub true_false : {P : Type 0} (b : Bool) → b ≡ true → b ≡ false → P
true_false b t f = let z : true ≡ false = sym t ∙ f in let n : ◌≡◌ {A = ℕ} 0 1 = cc in absurd (omega arith)

module _ (k : Keys) (d : List ℕ) (r : Record) where
  enough : (c : List ℕ) → size_of k.mac ≤ length (hmac (unit_key k r.number) (coded_of r.number r.byte c))
  enough c = omega (arith, size_most k.mac, length_hmac (unit_key k r.number) (coded_of r.number r.byte c))

  pub protected_right : (c : List ℕ) → Protected k d r c
      → genuine_by (hmac (unit_key k r.number)) (size_of k.mac) r.number r.byte (fragment_of d r) ≡ true
  protected_right c s =
      ap (genuine_by (hmac (unit_key k r.number)) (size_of k.mac) r.number r.byte) s.is_coded
      ∙ made_genuine (hmac (unit_key k r.number)) (size_of k.mac) r.number r.byte c (enough c)

  pub protected_content : (c : List ℕ) → Protected k d r c → content_bytes k d r ≡ c
  unfolding fragment_by code_by
  protected_content c s =
      let code : List ℕ = take (size_of k.mac) (hmac (unit_key k r.number) (coded_of r.number r.byte c)) in
      let z : length code ≡ size_of k.mac = length-take-le (size_of k.mac) (hmac (unit_key k r.number) (coded_of r.number r.byte c)) (enough c) in
      let n : length c ≡ length (c ++ code) - size_of k.mac = omega (arith, length-append c code) in
      ap (λ f. take (length f - size_of k.mac) f) s.is_coded
      ∙ take_at c code (length (c ++ code) - size_of k.mac) n

  pub right_protected : r.protected ≡ true
      → genuine_by (hmac (unit_key k r.number)) (size_of k.mac) r.number r.byte (fragment_of d r) ≡ true
      → Protected k d r (content_bytes k d r)
  right_protected p g =
      record {
        is_protected = p;
        is_coded = (genuine_made (hmac (unit_key k r.number)) (size_of k.mac) r.number r.byte (fragment_of d r) g).1;
      }

  -- a record has one content
  pub one_content : (c e : List ℕ) → Protected k d r c → Protected k d r e → c ≡ e
  one_content c e s t = sym (protected_content c s) ∙ protected_content e t
