-- What our writer writes, our reader reads back. The idea: the type byte of our parts splits into those parts, and every
-- test of the reader is then a fact about lengths.
use mathlib.Core.Path.{◌≡◌, refl, ap, ◌∙◌}
use mathlib.Core.Bool.{Bool, true, false}
use mathlib.Core.List.{List, ◌++◌}
use Prim.Native.Nat.{ℕ, ◌+◌, ◌-◌, ◌*◌, ◌/◌, ◌%◌, ◌≤◌, ◌<◌}
use native.Mathlib.Omega.{arith}
use lib.ListN.{length, get_or, take, drop, length-append}
use lib.Seq.{take-append_seam}
use lib.Pow.{recompose}
use lib.Dec.{eqb, ltb}
use borrow.Author.Tests.{ne_eqb, le-ltb}
use Rattle.digest.specs.Hmac.{hmac}
use Rattle.digest.specs.Mac.{size_of as code_size}
use Rattle.digest.specs.declared.mac.Mac.{Mac}
use Rattle.record.specs.Header.{kind_of, sound_kind, content_of, number_of}
use Rattle.record.specs.Reader.{read_of, read_as, framed_of, size_of, pair_at}
use Rattle.record.specs.Written.{byte_for, header_of, header_size, record_of}
use Rattle.record.specs.Code.{fragment_by, protected_by}
use Rattle.record.proofs.ProtectedBytes.{protected_length, size_some}
use Rattle.record.specs.declared.header.Kind.{Kind}
use Rattle.record.specs.declared.header.Content.{Content}
use Rattle.record.specs.declared.header.Content.TheVariants.{ChangeCipherSpec, Alert, Handshake, Data}
use Rattle.record.specs.declared.reader.Record.{Record}
use Rattle.std.specs.Prelude.{Ok}

-- the parts of our type byte
abbrev pub ours : Bool → Bool → Content → Kind
ours long protected content =
    record { long = long; numbered = true; protected = protected; reserved = false; content = number_of content }

-- split and built again
pub kind_back : (long protected : Bool) (content : Content) → kind_of (byte_for long protected content) ≡ ours long protected content
unfolding kind_of byte_for
kind_back true true ChangeCipherSpec = refl
kind_back true true Alert = refl
kind_back true true Handshake = refl
kind_back true true Data = refl
kind_back true false ChangeCipherSpec = refl
kind_back true false Alert = refl
kind_back true false Handshake = refl
kind_back true false Data = refl
kind_back false true ChangeCipherSpec = refl
kind_back false true Alert = refl
kind_back false true Handshake = refl
kind_back false true Data = refl
kind_back false false ChangeCipherSpec = refl
kind_back false false Alert = refl
kind_back false false Handshake = refl
kind_back false false Data = refl

pub ours_sound : (long protected : Bool) (content : Content) → sound_kind (ours long protected content) ≡ true
unfolding sound_kind
ours_sound long protected ChangeCipherSpec = refl
ours_sound long protected Alert = refl
ours_sound long protected Handshake = refl
ours_sound long protected Data = refl

pub content_back : (content : Content) → content_of (number_of content) ≡ content
unfolding content_of
content_back ChangeCipherSpec = refl
content_back Alert = refl
content_back Handshake = refl
content_back Data = refl

-- two bytes spell the number that they were made of
pub pair_back : (n : ℕ) → n < 65536 → n / 256 % 256 * 256 + n % 256 ≡ n
pair_back n h = recompose {n = n} 8 8 h

-- the record as it is read back
abbrev pub read_back : Bool → Bool → Content → ℕ → ℕ → Record
read_back long protected content number size =
    record { byte = byte_for long protected content; content = content; protected = protected; number = number; start = 0; head = header_size long; size = size; used = header_size long + size }

framed_back : (long protected : Bool) (content : Content) (number size left : ℕ) → 0 < size → size ≤ left → framed_of (byte_for long protected content) (ours long protected content) number (header_size long) size left ≡ Ok (read_back long protected content number size)
unfolding framed_of
framed_back long protected content number size left h l =
    rw (ne_eqb size 0 (λ e. omega arith), le-ltb left size l, content_back content)

-- the tests of the reader, passed
read_by : (long protected : Bool) (content : Content) (number size : ℕ) (s : List ℕ) → get_or s 0 0 ≡ byte_for long protected content → pair_at s 1 ≡ number → size_of s (ours long protected content) ≡ size → header_size long + size ≤ length s → 0 < size → read_of s ≡ Ok (read_back long protected content number size)
unfolding read_of read_as
read_by long protected content number size s b n z l h =
    let b0 : ℕ = byte_for long protected content in
    let kind : Kind = ours long protected content in
    let sound : sound_kind kind ≡ true = ours_sound long protected content in
    let whole : ltb (length s) (header_size long) ≡ false = le-ltb (length s) (header_size long) (omega arith) in
    let some : eqb (length s) 0 ≡ false = ne_eqb (length s) 0 (λ e. omega arith) in
    rw (some, b, kind_back long protected content, sound, whole, n, z)
    (framed_back long protected content number size (length s - header_size long) h (omega arith))

-- with a length, whatever stands behind the record
pub read_long : (protected : Bool) (content : Content) (number : ℕ) (fragment tail : List ℕ) → number < 65536 → 0 < length fragment → length fragment < 65536 → read_of (record_of true protected content number fragment ++ tail) ≡ Ok (read_back true protected content number (length fragment))
unfolding record_of header_of
read_long protected content number fragment tail hn h k =
    read_by true protected content number (length fragment) (record_of true protected content number fragment ++ tail) refl
    (pair_back number hn) (pair_back (length fragment) k) (omega (arith, length-append fragment tail)) h

-- without a length, as the last record of its datagram
pub read_short : (protected : Bool) (content : Content) (number : ℕ) (fragment : List ℕ) → number < 65536 → 0 < length fragment → read_of (record_of false protected content number fragment) ≡ Ok (read_back false protected content number (length fragment))
unfolding record_of header_of
read_short protected content number fragment hn h =
    read_by false protected content number (length fragment) (record_of false protected content number fragment) refl
    (pair_back number hn) (omega arith) (omega arith) h

-- the fragment stands behind the header
pub fragment_back : (long protected : Bool) (content : Content) (number : ℕ) (fragment tail : List ℕ) → take (length fragment) (drop (header_size long) (record_of long protected content number fragment ++ tail)) ≡ fragment
unfolding record_of header_of
fragment_back true protected content number fragment tail = take-append_seam fragment tail
fragment_back false protected content number fragment tail = take-append_seam fragment tail

-- a protected record of ours, without a length, is read back; its fragment is the content and the code
pub read_protected : (k : List ℕ) (mac : Mac) (content : Content) (number : ℕ) (body : List ℕ) → number < 65536 → read_of (protected_by (hmac k) (code_size mac) false content number body) ≡ Ok (read_back false true content number (length body + code_size mac))
unfolding protected_by
read_protected k mac content number body h =
    let byte : ℕ = byte_for false true content in
    let size = protected_length k mac number byte body in
    read_short true content number (fragment_by (hmac k) (code_size mac) number byte body) h (omega (arith, size, size_some mac))
    ∙ ap (λ (n : ℕ). Ok (read_back false true content number n)) size
