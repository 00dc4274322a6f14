-- Bytes laid one behind the other from the front of a buffer are those bytes in a row.
use mathlib.Core.Path.{◌≡◌, refl, sym, ap, ap₂, ◌∙◌}
use mathlib.Core.Bool.{Bool, true, false}
use mathlib.Core.List.{List, ◌∷◌, ◌++◌, append_assoc}
use Prim.Native.Nat.{ℕ, ◌+◌, ◌/◌, ◌%◌, ◌≤◌, ◌<◌}
use native.Mathlib.Omega.{arith}
use lib.ListN.{length, drop, set, length-append}
use lib.Seq.{sets, sets-eq, take-append_seam, drop-append-add, drop-drop}
use lib.Dec.{leb, lit≤}
use borrow.Author.Tests.{le-leb, lt-leb}
use Rattle.digest.specs.Bytes.{laid_over, bytes2}
use Rattle.record.specs.Written.{header_of, header_size, record_of, written_of, size_within, count_of, byte_for}
use Rattle.record.specs.declared.header.Content.{Content}
use Rattle.digest.specs.Pick.{pick}
use Rattle.std.specs.Prelude.{None, Option, Some, unwrap_or}

-- b behind a
pub laid_next : (d a b : List ℕ) → laid_over (laid_over d 0 a) (length a) b ≡ laid_over d 0 (a ++ b)
unfolding laid_over
laid_next d a b =
    let x : List ℕ = drop (0 + length a) d in
    let k : 0 + length a + length b ≡ 0 + length (a ++ b) = omega (arith, length-append a b) in
    ap₂ (λ (f e : List ℕ). f ++ b ++ e) (take-append_seam a x) (drop-append-add a x (length b) ∙ drop-drop (length b) (0 + length a) d)
    ∙ ap (λ (i : ℕ). a ++ b ++ drop i d) k

-- stores from the front
pub laid_stores : (d s : List ℕ) → length s ≤ length d → sets d 0 s ≡ laid_over d 0 s
unfolding laid_over
laid_stores d s h = sets-eq s d 0 (omega arith)

pub header_length : (long protected : Bool) (content : Content) (number size : ℕ) → length (header_of long protected content number size) ≡ header_size long
unfolding header_of
header_length true protected content number size = refl
header_length false protected content number size = refl

pub record_length : (long protected : Bool) (content : Content) (number : ℕ) (fragment : List ℕ) → length (record_of long protected content number fragment) ≡ header_size long + length fragment
unfolding record_of
record_length long protected content number fragment =
    length-append (header_of long protected content number (length fragment)) fragment
    ∙ ap (λ (k : ℕ). k + length fragment) (header_length long protected content number (length fragment))

-- ---- a buffer with room, and one without

pub no_room_within : (out bytes : List ℕ) → length out < length bytes → (None ≡ size_within out bytes) × (out ≡ written_of out bytes)
unfolding size_within written_of
no_room_within out bytes h = (rw (lt-leb (length bytes) (length out) h), rw (lt-leb (length bytes) (length out) h))

pub room_within : (out bytes : List ℕ) (n : ℕ) (after : List ℕ) → length bytes ≤ length out → n ≡ length bytes → after ≡ laid_over out 0 bytes → (Some n ≡ size_within out bytes) × (after ≡ written_of out bytes)
unfolding size_within written_of
room_within out bytes n after h e f =
    (rw (le-leb (length bytes) (length out) h, e), rw (le-leb (length bytes) (length out) h) f)

-- no bytes count as none written
pub count_within : (out bytes : List ℕ) → unwrap_or (size_within out bytes) 0 ≡ count_of out bytes
unfolding size_within count_of
count_within out bytes = told (leb (length bytes) (length out))
  where
    told : (b : Bool) → unwrap_or (pick b (Some (length bytes)) None) 0 ≡ pick b (length bytes) 0
    told true = refl
    told false = refl

-- the same, counted
pub no_room : (out bytes : List ℕ) → length out < length bytes → (0 ≡ count_of out bytes) × (out ≡ written_of out bytes)
no_room out bytes h =
    let both = no_room_within out bytes h in (ap (λ (r : Option ℕ). unwrap_or r 0) both.0 ∙ count_within out bytes, both.1)

pub room : (out bytes : List ℕ) (n : ℕ) (after : List ℕ) → length bytes ≤ length out → n ≡ length bytes → after ≡ laid_over out 0 bytes → (n ≡ count_of out bytes) × (after ≡ written_of out bytes)
room out bytes n after h e f =
    let both = room_within out bytes n after h e f in (ap (λ (r : Option ℕ). unwrap_or r 0) both.0 ∙ count_within out bytes, both.1)

-- the same of other bytes that are equal
pub retold : (out a b : List ℕ) (n : ℕ) (after : List ℕ) → a ≡ b → (n ≡ count_of out a) × (after ≡ written_of out a) → (n ≡ count_of out b) × (after ≡ written_of out b)
retold out a b n after e p = (p.0 ∙ ap (count_of out) e, p.1 ∙ ap (written_of out) e)

-- header, first and second laid one behind the other are the record
pub laid_record : (long protected : Bool) (content : Content) (number : ℕ) (out first second : List ℕ) → laid_over (laid_over (laid_over out 0 (header_of long protected content number (length first + length second))) (header_size long) first) (header_size long + length first) second ≡ laid_over out 0 (record_of long protected content number (first ++ second))
unfolding record_of
laid_record long protected content number out first second =
    let k : ℕ = length first + length second in
    let head : List ℕ = header_of long protected content number k in
    let size : length head ≡ header_size long = header_length long protected content number k in
    let behind : header_size long + length first ≡ length (head ++ first) = omega (arith, length-append head first, size) in
    ap (λ (i : ℕ). laid_over (laid_over (laid_over out 0 head) i first) (header_size long + length first) second) (sym size)
    ∙ ap (λ (x : List ℕ). laid_over x (header_size long + length first) second) (laid_next out head first)
    ∙ ap (λ (i : ℕ). laid_over (laid_over out 0 (head ++ first)) i second) behind
    ∙ laid_next out (head ++ first) second
    ∙ ap (laid_over out 0) (append_assoc head first second)
    ∙ ap (λ (i : ℕ). laid_over out 0 (header_of long protected content number i ++ (first ++ second))) (sym (length-append first second))

pub laid_three : (long protected : Bool) (content : Content) (number h : ℕ) (out first second a b e : List ℕ) → h ≡ header_size long → a ≡ laid_over out 0 (header_of long protected content number (length first + length second)) → b ≡ laid_over a h first → e ≡ laid_over b (h + length first) second → e ≡ laid_over out 0 (record_of long protected content number (first ++ second))
laid_three long protected content number h out first second a b e p q r s =
    s ∙ rw (r, q, p) (laid_record long protected content number out first second)

-- the size of the record, as the code counts it
pub record_size : (long protected : Bool) (content : Content) (number h : ℕ) (first second : List ℕ) → h ≡ header_size long → length (record_of long protected content number (first ++ second)) ≡ h + length first + length second
record_size long protected content number h first second e =
    omega (arith, record_length long protected content number (first ++ second), length-append first second)

-- ---- the header, stored byte by byte

pub header_three : (long : Bool) → 3 ≤ header_size long
header_three true = lit≤ tt
header_three false = lit≤ tt

pub stored_long : (long protected : Bool) (content : Content) (number size x : ℕ) (out : List ℕ) → long ≡ true → x ≡ byte_for long protected content → 5 ≤ length out → set (set (set (set (set out 0 x) 1 (number / 256 % 256)) 2 (number % 256)) 3 (size / 256 % 256)) 4 (size % 256) ≡ laid_over out 0 (header_of long protected content number size)
unfolding header_of
stored_long long protected content number size x out t e h =
    rw (sym e, t) (laid_stores out (x ∷ (bytes2 number ++ bytes2 size)) h)

pub stored_short : (long protected : Bool) (content : Content) (number size x : ℕ) (out : List ℕ) → long ≡ false → x ≡ byte_for long protected content → 3 ≤ length out → set (set (set out 0 x) 1 (number / 256 % 256)) 2 (number % 256) ≡ laid_over out 0 (header_of long protected content number size)
unfolding header_of
stored_short long protected content number size x out t e h =
    rw (sym e, t) (laid_stores out (x ∷ bytes2 number) h)
