-- Fields read from their places: an array of n zeros over which n bytes of a part are laid is that part.
use mathlib.Core.Path.{◌≡◌, refl, sym, ◌∙◌, ap, subst}
use mathlib.Core.List.{List, [], ◌∷◌, ◌++◌}
use Prim.Native.Nat.{ℕ, ◌+◌, ◌*◌, ◌≤◌, ◌<◌}
use native.Mathlib.Omega.{arith}
use native.Mathlib.Numerals.{add-one}
use lib.ListN.{length, drop, get_or, replicate, length-drop}
use lib.Seq.{length-take-le}
use Rattle.digest.specs.Bytes.{laid_over, laid_within, bytes4, bytes8}
use Rattle.connection.proofs.Filling.{filled_whole}
use Rattle.connection.specs.Receive.{slot}
use Rattle.connection.specs.declared.answer.Answer.TheVariants.{Nothing}
use Rattle.connection.specs.declared.answer.Slot.{Slot}
use Rattle.lent.specs.Fields.{joined, bytes_in}
use Rattle.lent.specs.Report.{entry_of, entry_bytes, report_first}
use Rattle.lent.specs.declared.report.Entry.{Entry}
use Rattle.lent.proofs.Laying.{Laid, laid_block, joined_one, joined_size, joined_none, length_eight}

pub part_length : (b : List ℕ) (at n : ℕ) → at + n ≤ length b → length (bytes_in b at n) ≡ n
part_length b at n h = length-take-le n (drop at b) (omega (arith, length-drop at b))

pub part_filled : (n at : ℕ) (b d : List ℕ) → at + n ≤ length b → d ≡ laid_within (replicate n 0) 0 (bytes_in b at n) → d ≡ bytes_in b at n
part_filled n at b d h e = filled_whole n (bytes_in b at n) d (part_length b at n h) e

-- one answer more
pub report_more : (answers : List Slot) (d e e' : List ℕ) (i : ℕ) (x : List ℕ) → Laid d 0 (report_first answers i) e (24 * i) → length d ≡ 192 → i < 8
    → x ≡ entry_bytes (entry_of (get_or answers i (slot Nothing)).answer) → length x ≡ 24 → e' ≡ laid_over e (24 * i) x
    → Laid d 0 (report_first answers (i + 1)) e' (24 * (i + 1))
unfolding report_first
report_more answers d e e' i x laid size h is l made =
    let one : joined (x ∷ []) ≡ x = joined_one x in
    let there : 24 * i ≡ 0 + 24 * i = omega arith in
    let more : Laid d 0 (report_first answers i ++ (x ∷ [])) e' (24 * i + 24)
    = laid_block (24 * i) 24 (x ∷ []) e' laid there (ap length one ∙ l) (omega arith) (made ∙ ap (laid_over e (24 * i)) (sym one)) in
    let fields : report_first answers i ++ (x ∷ []) ≡ report_first answers (i + 1)
    = ap (λ y. report_first answers i ++ (y ∷ [])) is ∙ sym (ap (report_first answers) (add-one i)) in
    let count : 24 * i + 24 ≡ 24 * (i + 1) = omega arith in
    subst (λ n. Laid d 0 (report_first answers (i + 1)) e' n) count (subst (λ fs. Laid d 0 fs e' (24 * i + 24)) fields more)

pub length_entry : (e : Entry) → length (entry_bytes e) ≡ 24
unfolding entry_bytes
length_entry e =
    joined_size (e.kind ∷ e.refusal ∷ e.description ∷ 0 ∷ []) _ 4 20 refl
    (joined_size (bytes4 e.number) _ 4 16 refl
    (joined_size (bytes8 e.start) _ 8 8 (length_eight e.start) (joined_size (bytes8 e.size) [] 8 0 (length_eight e.size) joined_none)))
