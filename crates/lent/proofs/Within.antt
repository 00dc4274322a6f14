-- What the calls for bytes of any size give where the bytes have their size.
use mathlib.Core.Path.{◌≡◌, refl, sym, ◌∙◌, ap}
use mathlib.Core.List.{List}
use mathlib.Core.Logic.{by_cases}
use Prim.Native.Nat.{ℕ, ◌+◌, ◌≤◌, ◌<◌}
use native.Mathlib.Decide.{dec_le}
use native.Mathlib.Nat.{add-zero}
use native.Mathlib.Omega.{arith}
use lib.ListN.{length, replicate}
use Rattle.std.specs.Int.{w16, w32, w64, from_be_bytes}
use Rattle.digest.specs.Bytes.{word_at, laid_over}
use Rattle.digest.proofs.Picks.{if_eq, if_ge, if_lt}
use Rattle.connection.specs.Sent.{no_records}
use Rattle.connection.specs.Tally.{fresh_tally}
use Rattle.connection.specs.declared.sent.SentRecords.{SentRecords}
use Rattle.connection.specs.declared.tally.Tally.{Tally}
use Rattle.lent.specs.Fields.{joined, bytes_in, two_in, eight_in, bytes_within, two_within, four_within, eight_within}
use Rattle.lent.specs.Saved.{sent_fields, sent_in, sent_laid, sent_within}
use Rattle.lent.specs.Counts.{tally_bytes, tally_in, tally_laid, tally_within}
use Rattle.lent.specs.Report.{entry_bytes, entry_laid}
use Rattle.lent.specs.declared.report.Entry.{Entry}
use Rattle.lent.proofs.PartsOf.{part_two, part_word, part_eight}

pub bytes_stand : (b : List ℕ) (at n : ℕ) → at + n ≤ length b → bytes_within b at n ≡ bytes_in b at n
unfolding bytes_within
bytes_stand b at n h = sym (if_ge (replicate n 0) (length b) (at + n) h refl)

bytes_fall : (b : List ℕ) (at n : ℕ) → length b < at + n → bytes_within b at n ≡ replicate n 0
unfolding bytes_within
bytes_fall b at n h = sym (if_lt (bytes_in b at n) (length b) (at + n) h refl)

-- the number that bytes from a place on spell
spelled_two : (x : List ℕ) → from_be_bytes w16 x ≡ two_in x 0
spelled_two x = omega arith

spelled_four : (x : List ℕ) → from_be_bytes w32 x ≡ word_at x 0
unfolding word_at
spelled_four x = omega arith

spelled_eight : (x : List ℕ) → from_be_bytes w64 x ≡ eight_in x 0
unfolding word_at
spelled_eight x = omega arith

pub two_read : (b : List ℕ) (at : ℕ) (x : List ℕ) (r : ℕ) → x ≡ bytes_within b at 2 → r ≡ from_be_bytes w16 x → r ≡ two_within b at
unfolding two_within
two_read b at x r is e =
    by_cases (dec_le (at + 2) (length b))
    (λ h. if_ge 0 (length b) (at + 2) h (e ∙ ap (from_be_bytes w16) (is ∙ bytes_stand b at 2 h) ∙ spelled_two (bytes_in b at 2) ∙ part_two b at 2 0 (omega arith) ∙ ap (two_in b) (add-zero at)))
    (λ n. if_lt (two_in b at) (length b) (at + 2) (omega arith) (e ∙ ap (from_be_bytes w16) (is ∙ bytes_fall b at 2 (omega arith))))

pub four_read : (b : List ℕ) (at : ℕ) (x : List ℕ) (r : ℕ) → x ≡ bytes_within b at 4 → r ≡ from_be_bytes w32 x → r ≡ four_within b at
unfolding four_within
four_read b at x r is e =
    by_cases (dec_le (at + 4) (length b))
    (λ h. if_ge 0 (length b) (at + 4) h (e ∙ ap (from_be_bytes w32) (is ∙ bytes_stand b at 4 h) ∙ spelled_four (bytes_in b at 4) ∙ part_word b at 4 0 (omega arith) ∙ ap (word_at b) (add-zero at)))
    (λ n. if_lt (word_at b at) (length b) (at + 4) (omega arith) (e ∙ ap (from_be_bytes w32) (is ∙ bytes_fall b at 4 (omega arith))))

pub eight_read : (b : List ℕ) (at : ℕ) (x : List ℕ) (r : ℕ) → x ≡ bytes_within b at 8 → r ≡ from_be_bytes w64 x → r ≡ eight_within b at
unfolding eight_within
eight_read b at x r is e =
    by_cases (dec_le (at + 8) (length b))
    (λ h. if_ge 0 (length b) (at + 8) h (e ∙ ap (from_be_bytes w64) (is ∙ bytes_stand b at 8 h) ∙ spelled_eight (bytes_in b at 8) ∙ part_eight b at 8 0 (omega arith) ∙ ap (eight_in b) (add-zero at)))
    (λ n. if_lt (eight_in b at) (length b) (at + 8) (omega arith) (e ∙ ap (from_be_bytes w64) (is ∙ bytes_fall b at 8 (omega arith))))

pub two_stands : (b : List ℕ) (at : ℕ) → at + 2 ≤ length b → two_within b at ≡ two_in b at
unfolding two_within
two_stands b at h = sym (if_ge 0 (length b) (at + 2) h refl)

pub four_stands : (b : List ℕ) (at : ℕ) → at + 4 ≤ length b → four_within b at ≡ word_at b at
unfolding four_within
four_stands b at h = sym (if_ge 0 (length b) (at + 4) h refl)

pub eight_stands : (b : List ℕ) (at : ℕ) → at + 8 ≤ length b → eight_within b at ≡ eight_in b at
unfolding eight_within
eight_stands b at h = sym (if_ge 0 (length b) (at + 8) h refl)

pub sent_stands : (b : List ℕ) → 40 ≤ length b → sent_within b ≡ sent_in b
unfolding sent_within
sent_stands b h = sym (if_ge no_records (length b) 40 h refl)

pub sent_lies : (d : List ℕ) (s : SentRecords) → 40 ≤ length d → sent_laid d s ≡ laid_over d 4 (joined (sent_fields s))
unfolding sent_laid
sent_lies d s h = sym (if_ge d (length d) 40 h refl)

pub tally_stands : (b : List ℕ) → length b ≡ 16 → tally_within b ≡ tally_in b
unfolding tally_within
tally_stands b h = sym (if_eq fresh_tally (length b) 16 h refl)

pub tally_lies : (d : List ℕ) (t : Tally) → length d ≡ 16 → tally_laid d t ≡ tally_bytes t
unfolding tally_laid
tally_lies d t h = sym (if_eq d (length d) 16 h refl)

pub entry_lies : (d : List ℕ) (at : ℕ) (e : Entry) → at + 24 ≤ length d → entry_laid d at e ≡ laid_over d at (entry_bytes e)
unfolding entry_laid
entry_lies d at e h = sym (if_ge d (length d) (at + 24) h refl)
