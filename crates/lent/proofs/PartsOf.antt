-- Parts of parts: what stands at a place of bytes that were themselves read from a place.
use mathlib.Core.Path.{◌≡◌, ◌∙◌, ap, ap₂}
use mathlib.Core.List.{List}
use Prim.Native.Nat.{ℕ, ◌+◌, ◌-◌, ◌*◌, ◌≤◌, ◌<◌}
use native.Mathlib.Omega.{arith}
use lib.ListN.{take, drop, get_or}
use lib.Seq.{get_or-take, get_or-drop, take-take, drop-drop}
use Rattle.std.proofs.lemmas.List.{drop-take}
use Rattle.digest.specs.Bytes.{word_at}
use Rattle.digest.proofs.Rounds.{word_part}
use Rattle.lent.specs.Fields.{bytes_in, two_in, eight_in}
use Rattle.lent.specs.Saved.{mac_numbered, keys_of, window_of, protection_of, keys_in, window_in, protection_in}

pub part_bytes : (s : List ℕ) (at n k m : ℕ) → k + m ≤ n → bytes_in (bytes_in s at n) k m ≡ bytes_in s (at + k) m
part_bytes s at n k m h =
    ap (λ x. take m (drop k (take x (drop at s)))) (omega arith)
    ∙ ap (take m) (drop-take k (n - k) (drop at s))
    ∙ take-take m (n - k) (drop k (drop at s)) (omega arith)
    ∙ ap (take m) (drop-drop k at s)

pub part_byte : (s : List ℕ) (at n k : ℕ) → k < n → get_or (bytes_in s at n) k 0 ≡ get_or s (at + k) 0
part_byte s at n k h = get_or-take n (drop at s) k 0 h ∙ get_or-drop at s k 0

pub part_two : (s : List ℕ) (at n k : ℕ) → k + 2 ≤ n → two_in (bytes_in s at n) k ≡ two_in s (at + k)
part_two s at n k h =
    ap₂ (λ x y. x * 256 + y) (part_byte s at n k (omega arith))
    (part_byte s at n (k + 1) (omega arith) ∙ ap (λ i. get_or s i 0) (omega arith))

pub part_word : (s : List ℕ) (at n k : ℕ) → k + 4 ≤ n → word_at (bytes_in s at n) k ≡ word_at s (at + k)
part_word s at n k h = word_part s at n k (omega arith)

pub part_eight : (s : List ℕ) (at n k : ℕ) → k + 8 ≤ n → eight_in (bytes_in s at n) k ≡ eight_in s (at + k)
part_eight s at n k h =
    ap₂ (λ x y. x * 4294967296 + y) (part_word s at n k (omega arith))
    (part_word s at n (k + 4) (omega arith) ∙ ap (word_at s) (omega arith))

-- the parts of a handshake
pub window_parts : (s : List ℕ) → window_of (bytes_in s 431 11) ≡ window_in s
unfolding window_of window_in
window_parts s = λ i. record {
  width = part_byte s 431 11 0 (omega arith) i;
  highest = part_two s 431 11 1 (omega arith) i;
  marks = part_eight s 431 11 3 (omega arith) i;
}

keys_parts : (s : List ℕ) → keys_of (bytes_in s 9 54) ≡ keys_in s
unfolding keys_of keys_in
keys_parts s = λ i. record {
  secret = part_bytes s 9 54 0 20 (omega arith) i;
  server = part_bytes s 9 54 20 16 (omega arith) i;
  client = part_bytes s 9 54 36 16 (omega arith) i;
  mac = mac_numbered (part_byte s 9 54 52 (omega arith) i);
  refresh = part_byte s 9 54 53 (omega arith) i;
}

pub protection_parts : (s : List ℕ) → protection_of (bytes_in s 9 54) (bytes_in s 431 19) ≡ protection_in s
unfolding protection_of protection_in
protection_parts s = λ i. record {
  keys = keys_parts s i;
  window = (ap window_of (part_bytes s 431 19 0 11 (omega arith)) ∙ window_parts s) i;
  protected = part_word s 431 19 11 (omega arith) i;
  clear = part_word s 431 19 15 (omega arith) i;
}
