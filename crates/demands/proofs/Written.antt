-- What is written is read back: the laws of layers 2 and 3 in one place.
use mathlib.Core.Path.{◌≡◌, refl, ◌∙◌, ap}
use mathlib.Core.Logic.{◌↔◌}
use mathlib.Core.Bool.{Bool, true, false}
use mathlib.Core.List.{List, [], ◌∷◌}
use Prim.Native.Nat.{ℕ, ◌-◌}
use native.Mathlib.Omega.{arith}
use lib.ListN.{length, take, get_or}
use lib.Dec.{eqb}
use borrow.Author.Tests.{eqb-true}
use Rattle.digest.specs.Pick.{pick}
use Rattle.digest.specs.Hmac.{hmac}
use Rattle.digest.specs.Mac.{size_of}
use Rattle.digest.specs.declared.mac.Mac.{Mac}
use Rattle.digest.proofs.Codes.{length_hmac}
use Rattle.record.specs.Code.{coded_of, fragment_by, genuine_by}
use Rattle.record.proofs.RoundTrip.{read_long, read_short, fragment_back}
use Rattle.record.proofs.ProtectedBytes.{size_most, genuine_made, made_genuine}
use Rattle.message.specs.Change.{is_change, change_bytes}
use Rattle.message.specs.Finished.{judged_of}
use Rattle.message.proofs.AlertLaws.{alert_back}
use Rattle.message.proofs.FinishedLaws.{finished_right}
use Rattle.message.proofs.Written.{image}
use Rattle.demands.specs.Written.{ReadAsWritten}
use Rattle.demands.proofs.Genuine.{true_false}
use Rattle.demands.proofs.Finished.{right_is}

code_exactly : (key : List ℕ) (mac : Mac) (number byte : ℕ) (fragment : List ℕ)
    → (genuine_by (hmac key) (size_of mac) number byte fragment ≡ true) ↔ ((c : List ℕ) × (fragment ≡ fragment_by (hmac key) (size_of mac) number byte c))
code_exactly key mac number byte fragment = (
  λ e. (take (length fragment - size_of mac) fragment, (genuine_made (hmac key) (size_of mac) number byte fragment e).1),
  λ q. ap (genuine_by (hmac key) (size_of mac) number byte) q.1
      ∙ made_genuine (hmac key) (size_of mac) number byte q.0 (omega (arith, size_most mac, length_hmac key (coded_of number byte q.0))),
)

one_byte : (s : List ℕ) → length s ≡ 1 → s ≡ get_or s 0 0 ∷ []
one_byte [] e = let z : ◌≡◌ {A = ℕ} 0 1 = e in absurd (omega arith)
one_byte (x ∷ []) e = refl
one_byte (x ∷ y ∷ s) e = absurd (omega arith)

change_tests : (s : List ℕ) (a b : Bool) → eqb (length s) 1 ≡ a → eqb (get_or s 0 0) 1 ≡ b → pick a b false ≡ true → s ≡ change_bytes
change_tests s true true ea eb z = one_byte s (eqb-true (length s) 1 ea) ∙ ap (λ x. x ∷ []) (eqb-true (get_or s 0 0) 1 eb)
change_tests s true false ea eb z = true_false false z refl
change_tests s false b ea eb z = true_false false z refl

change_exactly : (s : List ℕ) → (is_change s ≡ true) ↔ (s ≡ change_bytes)
unfolding is_change
change_exactly s = (λ z. change_tests s (eqb (length s) 1) (eqb (get_or s 0 0) 1) refl refl z, λ e. ap is_change e)

pub read_as_written : ReadAsWritten
read_as_written =
    record {
      long_record = read_long;
      short_record = read_short;
      its_fragment = fragment_back;
      its_code = code_exactly;
      alerts = alert_back;
      changes = change_exactly;
      finisheds = λ m v e. (right_is m v, λ z. ap (λ x. judged_of x v) z ∙ finished_right v e);
      hellos = image;
    }
