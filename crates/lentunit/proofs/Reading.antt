-- One answer more of those that are laid one behind the other.
use mathlib.Core.Path.{◌≡◌, sym, ◌∙◌, ap, subst}
use mathlib.Core.List.{List, [], ◌∷◌, ◌++◌}
use Prim.Native.Nat.{ℕ, ◌+◌, ◌*◌, ◌<◌}
use native.Mathlib.Omega.{arith}
use native.Mathlib.Numerals.{add-one}
use lib.ListN.{length, get_or}
use Rattle.digest.specs.Bytes.{laid_over}
use Rattle.lent.specs.Fields.{joined}
use Rattle.lent.specs.Report.{entry_bytes}
use Rattle.lent.proofs.Laying.{Laid, laid_block, joined_one}
use Rattle.unit.specs.Answer.{slot}
use Rattle.unit.specs.declared.answer.Answer.TheVariants.{Nothing}
use Rattle.unit.specs.declared.answer.Slot.{Slot}
use Rattle.lentunit.specs.Report.{entry_of, report_first}

pub report_more : (answers : List Slot) (d e e' : List ℕ) (i : ℕ) (x : List ℕ) → Laid d 0 (report_first answers i) e (24 * i) → length d ≡ 192 → i < 8
    → x ≡ entry_bytes (entry_of (get_or answers i (slot Nothing)).answer) → length x ≡ 24 → e' ≡ laid_over e (24 * i) x
    → Laid d 0 (report_first answers (i + 1)) e' (24 * (i + 1))
unfolding report_first
report_more answers d e e' i x laid size h is l made =
    let one : joined (x ∷ []) ≡ x = joined_one x in
    let there : 24 * i ≡ 0 + 24 * i = omega arith in
    let more : Laid d 0 (report_first answers i ++ (x ∷ [])) e' (24 * i + 24)
    = laid_block (24 * i) 24 (x ∷ []) e' laid there (ap length one ∙ l) (omega arith) (made ∙ ap (laid_over e (24 * i)) (sym one)) in
    let fields : report_first answers i ++ (x ∷ []) ≡ report_first answers (i + 1)
    = ap (λ y. report_first answers i ++ (y ∷ [])) is ∙ sym (ap (report_first answers) (add-one i)) in
    let count : 24 * i + 24 ≡ 24 * (i + 1) = omega arith in
    subst (λ n. Laid d 0 (report_first answers (i + 1)) e' n) count (subst (λ fs. Laid d 0 fs e' (24 * i + 24)) fields more)
