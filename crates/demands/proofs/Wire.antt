-- Records on the wire: a datagram of one record without a length is framed as this record, clear or protected, and its fragment is what
-- was put into it.
use mathlib.Core.Path.{◌≡◌, refl, sym, ◌∙◌, ap, ap₂}
use mathlib.Core.Bool.{true, false}
use mathlib.Core.List.{List, [], ◌∷◌, ◌++◌, append-nil}
use Prim.Native.Nat.{ℕ, zero, suc, ◌+◌, ◌≤◌}
use native.Mathlib.Omega.{arith}
use lib.ListN.{length, take, drop, length-append}
use lib.Seq.{drop-append_seam, drop-append-add}
use lib.Dec.{ltb}
use borrow.Author.Tests.{eq-eqb, ne_eqb, le-ltb}
use Rattle.digest.specs.Pick.{pick}
use Rattle.digest.specs.Hmac.{hmac}
use Rattle.digest.specs.Mac.{size_of}
use Rattle.digest.specs.declared.mac.Mac.{Mac}
use Rattle.record.specs.Reader.{read_of}
use Rattle.record.specs.Written.{record_of, byte_for}
use Rattle.record.specs.Code.{fragment_by, protected_by}
use Rattle.record.specs.Datagram.{framed, faulty, after, ahead, placed_at, framing_from, framing_of}
use Rattle.record.specs.declared.header.Content.{Content}
use Rattle.record.specs.declared.reader.Record.{Record}
use Rattle.record.specs.declared.reader.Fault.TheVariants as F
use Rattle.record.proofs.Fronts.{record_length}
use Rattle.record.proofs.RoundTrip.{read_back, read_long, read_short, read_protected, fragment_back}
use Rattle.record.proofs.ProtectedBytes.{protected_length, size_some, size_most}
use Rattle.connection.specs.Judge.{fragment_of}
use Rattle.std.specs.Prelude.{Ok}

-- no record where no byte is left
no_more : (room at : ℕ) (s : List ℕ) → length s ≡ 0 → framing_from room at s ≡ framed []
unfolding framing_from
no_more zero at s e = ap (λ b. pick b (framed []) (faulty F.Ninth at)) (eq-eqb (length s) 0 e)
no_more (suc room) at s e =
    ap (λ b. pick b (framed []) (ahead at (read_of s) (λ r. framing_from room (at + r.used) (drop r.used s)))) (eq-eqb (length s) 0 e)

-- a record at the front, and the rest
pub front_framed : (room at : ℕ) (s tail : List ℕ) (r : Record) → read_of (s ++ tail) ≡ Ok r → r.used ≡ length s → 1 ≤ length s
    → framing_from (suc room) at (s ++ tail) ≡ after (placed_at r at ∷ []) (framing_from room (at + length s) tail)
unfolding framing_from
front_framed room at s tail r e u some =
    ap (λ b. pick b (framed []) (ahead at (read_of (s ++ tail)) (λ q. framing_from room (at + q.used) (drop q.used (s ++ tail)))))
    (ne_eqb (length (s ++ tail)) 0 (not_zero (length (s ++ tail)) (length s) (length tail) (length-append s tail) some))
    ∙ ap (λ x. ahead at x (λ q. framing_from room (at + q.used) (drop q.used (s ++ tail)))) e
    ∙ ap (λ n. after (placed_at r at ∷ []) (framing_from room (at + n) (drop n (s ++ tail)))) u
    ∙ ap (λ t. after (placed_at r at ∷ []) (framing_from room (at + length s) t)) (drop-append_seam s tail)
  where
    not_zero : (n a b : ℕ) → n ≡ a + b → 1 ≤ a → n ≡ 0 → ⊥
    not_zero n a b e l z = omega arith

-- a record that fills what is left
pub last_framed : (room at : ℕ) (s : List ℕ) (r : Record) → read_of s ≡ Ok r → r.used ≡ length s → 1 ≤ length s
    → framing_from (suc room) at s ≡ framed (placed_at r at ∷ [])
last_framed room at s r e u some =
    ap (framing_from (suc room) at) (sym (append-nil s))
    ∙ front_framed room at s [] r (ap read_of (append-nil s) ∙ e) u some
    ∙ ap (after (placed_at r at ∷ [])) (no_more room (at + length s) [] refl)

-- a datagram of 1 to 1,400 bytes
pub sized : (s : List ℕ) → 1 ≤ length s → length s ≤ 1400 → framing_of s ≡ framing_from 8 0 s
unfolding framing_of
sized s some most =
    ap (λ b. pick b (faulty F.Size 0) (pick (ltb 1400 (length s)) (faulty F.Size 0) (framing_from 8 0 s))) (ne_eqb (length s) 0 (λ z. omega arith))
    ∙ ap (λ b. pick b (faulty F.Size 0) (framing_from 8 0 s)) (le-ltb 1400 (length s) most)

-- one record that fills its datagram
pub lone : (s : List ℕ) (r : Record) → read_of s ≡ Ok r → r.used ≡ length s → 1 ≤ length s → length s ≤ 1400
    → framing_of s ≡ framed (placed_at r 0 ∷ [])
lone s r e u some most = sized s some most ∙ last_framed 7 0 s r e u some

module _ (content : Content) (number : ℕ) (inside : number ≤ 65535) where
  -- a clear record
  module _ (body : List ℕ) (some : 1 ≤ length body) where
    abbrev pub clear_back : Record
    clear_back = read_back false false content number (length body)

    pub clear_read : read_of (record_of false false content number body) ≡ Ok (read_back false false content number (length body))
    clear_read = read_short false content number body (omega arith) some

    pub clear_framed : length body ≤ 1397 → framing_of (record_of false false content number body) ≡ framed (read_back false false content number (length body) ∷ [])
    clear_framed most =
        lone (record_of false false content number body) (read_back false false content number (length body)) clear_read
        (sym (record_length false false content number body)) (omega (arith, record_length false false content number body)) (omega (arith, record_length false false content number body))

    pub clear_fragment : fragment_of (record_of false false content number body) (read_back false false content number (length body)) ≡ body
    clear_fragment =
        ap (λ s. take (length body) (drop 3 s)) (sym (append-nil (record_of false false content number body)))
        ∙ fragment_back false false content number body []

  -- a protected record
  module _ (k : List ℕ) (mac : Mac) (body : List ℕ) where
    pub size_protected : length (protected_by (hmac k) (size_of mac) false content number body) ≡ 3 + (length body + size_of mac)
    unfolding protected_by
    size_protected =
        record_length false true content number (fragment_by (hmac k) (size_of mac) number (byte_for false true content) body)
        ∙ ap (λ n. 3 + n) (protected_length k mac number (byte_for false true content) body)

    pub protected_read : read_of (protected_by (hmac k) (size_of mac) false content number body) ≡ Ok (read_back false true content number (length body + size_of mac))
    protected_read = read_protected k mac content number body (omega arith)

    pub protected_framed : length body + size_of mac ≤ 1397
        → framing_of (protected_by (hmac k) (size_of mac) false content number body) ≡ framed (read_back false true content number (length body + size_of mac) ∷ [])
    protected_framed most =
        lone (protected_by (hmac k) (size_of mac) false content number body) (read_back false true content number (length body + size_of mac)) protected_read
        (sym size_protected) (omega (arith, size_protected)) (omega (arith, size_protected))

    pub protected_fragment : take (length body + size_of mac) (drop 3 (protected_by (hmac k) (size_of mac) false content number body))
        ≡ fragment_by (hmac k) (size_of mac) number (byte_for false true content) body
    unfolding protected_by
    protected_fragment =
        let f : List ℕ = fragment_by (hmac k) (size_of mac) number (byte_for false true content) body in
        ap₂ (λ n s. take n (drop 3 s)) (sym (protected_length k mac number (byte_for false true content) body)) (sym (append-nil (record_of false true content number f)))
        ∙ fragment_back false true content number f []

    -- with a length, and something behind it
    pub long_size : length (protected_by (hmac k) (size_of mac) true content number body) ≡ 5 + (length body + size_of mac)
    unfolding protected_by
    long_size =
        record_length true true content number (fragment_by (hmac k) (size_of mac) number (byte_for true true content) body)
        ∙ ap (λ n. 5 + n) (protected_length k mac number (byte_for true true content) body)

    pub long_read : (tail : List ℕ) → length body ≤ 1400
        → read_of (protected_by (hmac k) (size_of mac) true content number body ++ tail) ≡ Ok (read_back true true content number (length body + size_of mac))
    unfolding protected_by
    long_read tail most =
        let f : List ℕ = fragment_by (hmac k) (size_of mac) number (byte_for true true content) body in
        let size = protected_length k mac number (byte_for true true content) body in
        read_long true content number f tail (omega arith) (omega (arith, size, size_some mac)) (omega (arith, size, size_most mac))
        ∙ ap (λ n. Ok (read_back true true content number n)) size

    pub long_fragment : (tail : List ℕ) → take (length body + size_of mac) (drop 5 (protected_by (hmac k) (size_of mac) true content number body ++ tail))
        ≡ fragment_by (hmac k) (size_of mac) number (byte_for true true content) body
    unfolding protected_by
    long_fragment tail =
        let f : List ℕ = fragment_by (hmac k) (size_of mac) number (byte_for true true content) body in
        ap (λ n. take n (drop 5 (record_of true true content number f ++ tail))) (sym (protected_length k mac number (byte_for true true content) body))
        ∙ fragment_back true true content number f tail

-- a fragment behind other records
pub behind : (a rest : List ℕ) (n head size : ℕ) → n ≡ length a → take size (drop (n + head) (a ++ rest)) ≡ take size (drop head rest)
behind a rest n head size e = ap (λ m. take size (drop (m + head) (a ++ rest))) e ∙ ap (take size) (drop-append-add a rest head)
