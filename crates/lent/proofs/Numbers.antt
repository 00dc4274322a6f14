-- Numbers and the bytes that spell them: each is had back from the other.
use mathlib.Core.Path.{◌≡◌, sym, ◌∙◌, ap, ap₂}
use mathlib.Core.List.{List, [], ◌∷◌, ◌++◌}
use Prim.Native.Nat.{ℕ, suc, ◌+◌, ◌*◌, ◌/◌, ◌%◌, ◌≤◌, ◌<◌}
use native.Mathlib.Omega.{arith}
use native.Mathlib.Nat.{div-add-mod', div-div-eq-div-mul, add-zero}
use native.Mathlib.Numerals.{add-one}
use lib.ListN.{length, take, drop, get_or}
use lib.Seq.{drop-cons, get_or-take, get_or-drop, take-add, drop-drop}
use Rattle.std.specs.Int.{w64, to_be_bytes}
use Rattle.digest.specs.Bytes.{word_at, bytes2, bytes4, bytes8}
use Rattle.digest.proofs.Rounds.{word_part}
use Rattle.message.proofs.AlertLaws.{word_back}
use Rattle.lent.specs.Fields.{bytes_in, two_in, eight_in}
use Rattle.lent.specs.Saved.{Bytes}

-- ---- eight bytes are four of each half

pub eight_bytes : (n : ℕ) → to_be_bytes w64 n ≡ bytes8 n
unfolding bytes8
eight_bytes n = λ i.
    high n 16777216 i % 256 ∷ high n 65536 i % 256 ∷ high n 256 i % 256 ∷ n / 4294967296 % 256
    ∷ low n i ∷ middle n i ∷ second n i ∷ first n i ∷ []
  where
    high : (n k : ℕ) → n / (4294967296 * k) ≡ n / 4294967296 / k
    high n k = sym (div-div-eq-div-mul n 4294967296 k)

    low : (n : ℕ) → n / 16777216 % 256 ≡ n % 4294967296 / 16777216 % 256
    low n = omega arith

    middle : (n : ℕ) → n / 65536 % 256 ≡ n % 4294967296 / 65536 % 256
    middle n = omega arith

    second : (n : ℕ) → n / 256 % 256 ≡ n % 4294967296 / 256 % 256
    second n = omega arith

    first : (n : ℕ) → n % 256 ≡ n % 4294967296 % 256
    first n = omega arith

-- ---- numbers, from where they were spelled

pub byte_back : (s : List ℕ) (at x : ℕ) → bytes_in s at 1 ≡ x ∷ [] → get_or s at 0 ≡ x
byte_back s at x e =
    ap (λ k. get_or s k 0) (sym (add-zero at))
    ∙ sym (get_or-drop at s 0 0)
    ∙ sym (get_or-take 1 (drop at s) 0 0 (omega arith))
    ∙ ap (λ l. get_or l 0 0) e

pub two_back : (s : List ℕ) (at n : ℕ) → n < 65536 → bytes_in s at 2 ≡ bytes2 n → two_in s at ≡ n
two_back s at n h e =
    let a : get_or s at 0 ≡ n / 256 % 256
    = ap (λ k. get_or s k 0) (sym (add-zero at)) ∙ sym (get_or-drop at s 0 0) ∙ sym (get_or-take 2 (drop at s) 0 0 (omega arith)) ∙ ap (λ l. get_or l 0 0) e in
    let b : get_or s (at + 1) 0 ≡ n % 256
    = sym (get_or-drop at s 1 0) ∙ sym (get_or-take 2 (drop at s) 1 0 (omega arith)) ∙ ap (λ l. get_or l 1 0) e in
    ap₂ (λ x y. x * 256 + y) a b ∙ back n h
  where
    back : (n : ℕ) → n < 65536 → n / 256 % 256 * 256 + n % 256 ≡ n
    back n h = omega arith

pub word_of : (n : ℕ) → n < 4294967296 → word_at (bytes4 n) 0 ≡ n
unfolding word_at
word_of n h = word_back n h

pub four_back : (s : List ℕ) (at n : ℕ) → n < 4294967296 → bytes_in s at 4 ≡ bytes4 n → word_at s at ≡ n
four_back s at n h e =
    ap (word_at s) (sym (add-zero at)) ∙ sym (word_part s at 4 0 (omega arith)) ∙ ap (λ l. word_at l 0) e ∙ word_of n h

high_of : (n : ℕ) → n < 18446744073709551616 → word_at (bytes8 n) 0 ≡ n / 4294967296
unfolding word_at bytes8
high_of n h = word_back (n / 4294967296) (omega arith)

low_of : (n : ℕ) → word_at (bytes8 n) 4 ≡ n % 4294967296
unfolding word_at bytes8
low_of n = word_back (n % 4294967296) (omega arith)

pub eight_back : (s : List ℕ) (at n : ℕ) → n < 18446744073709551616 → bytes_in s at 8 ≡ bytes8 n → eight_in s at ≡ n
eight_back s at n h e =
    let high : word_at s at ≡ n / 4294967296
    = ap (word_at s) (sym (add-zero at)) ∙ sym (word_part s at 8 0 (omega arith)) ∙ ap (λ l. word_at l 0) e ∙ high_of n h in
    let low : word_at s (at + 4) ≡ n % 4294967296
    = sym (word_part s at 8 4 (omega arith)) ∙ ap (λ l. word_at l 4) e ∙ low_of n in
    ap₂ (λ x y. x * 4294967296 + y) high low ∙ div-add-mod' n 4294967296

-- ---- bytes, from the number that they spell

part_next : (s : List ℕ) (at n : ℕ) → at < length s → bytes_in s at (suc n) ≡ get_or s at 0 ∷ bytes_in s (at + 1) n
part_next s at n h = ap (take (suc n)) (drop-cons s at 0 h) ∙ ap (λ k. get_or s at 0 ∷ take n (drop k s)) (sym (add-one at))

pub byte_part : (s : List ℕ) (at : ℕ) → at < length s → bytes_in s at 1 ≡ get_or s at 0 ∷ []
byte_part s at h = part_next s at 0 h

pub two_part : (s : List ℕ) (at : ℕ) → at + 2 ≤ length s → bytes_in s at 2 ≡ get_or s at 0 ∷ get_or s (at + 1) 0 ∷ []
two_part s at h = part_next s at 1 (omega arith) ∙ ap (λ l. get_or s at 0 ∷ l) (part_next s (at + 1) 0 (omega arith))

four_part : (s : List ℕ) (at : ℕ) → at + 4 ≤ length s
    → bytes_in s at 4 ≡ get_or s at 0 ∷ get_or s (at + 1) 0 ∷ get_or s (at + 2) 0 ∷ get_or s (at + 3) 0 ∷ []
four_part s at h =
    let two : at + 1 + 1 ≡ at + 2 = omega arith in
    let three : at + 1 + 1 + 1 ≡ at + 3 = omega arith in
    part_next s at 3 (omega arith)
    ∙ ap (λ l. get_or s at 0 ∷ l)
    (part_next s (at + 1) 2 (omega arith)
    ∙ ap (λ l. get_or s (at + 1) 0 ∷ l)
    (part_next s (at + 1 + 1) 1 (omega arith) ∙ ap (λ l. get_or s (at + 1 + 1) 0 ∷ l) (part_next s (at + 1 + 1 + 1) 0 (omega arith))))
    ∙ ap₂ (λ x y. get_or s at 0 ∷ get_or s (at + 1) 0 ∷ get_or s x 0 ∷ get_or s y 0 ∷ []) two three

two_spelled : (a b : ℕ) → a < 256 → b < 256 → bytes2 (a * 256 + b) ≡ a ∷ b ∷ []
two_spelled a b ha hb =
    let x : (a * 256 + b) / 256 % 256 ≡ a = omega arith in
    let y : (a * 256 + b) % 256 ≡ b = omega arith in
    ap₂ (λ p q. p ∷ q ∷ []) x y

four_spelled : (a b c d : ℕ) → a < 256 → b < 256 → c < 256 → d < 256 → bytes4 (((a * 256 + b) * 256 + c) * 256 + d) ≡ a ∷ b ∷ c ∷ d ∷ []
four_spelled a b c d ha hb hc hd =
    let n = ((a * 256 + b) * 256 + c) * 256 + d in
    let q : n / 256 ≡ (a * 256 + b) * 256 + c = step ((a * 256 + b) * 256 + c) d hd in
    let r : n / 65536 ≡ a * 256 + b = sym (div-div-eq-div-mul n 256 256) ∙ ap (λ x. x / 256) q ∙ step (a * 256 + b) c hc in
    let t : n / 16777216 ≡ a = sym (div-div-eq-div-mul n 65536 256) ∙ ap (λ x. x / 256) r ∙ step a b hb in
    let e₁ : n / 16777216 % 256 ≡ a = ap (λ x. x % 256) t ∙ small a ha in
    let e₂ : n / 65536 % 256 ≡ b = ap (λ x. x % 256) r ∙ left a b hb in
    let e₃ : n / 256 % 256 ≡ c = ap (λ x. x % 256) q ∙ left (a * 256 + b) c hc in
    let e₄ : n % 256 ≡ d = left ((a * 256 + b) * 256 + c) d hd in
    λ i. e₁ i ∷ e₂ i ∷ e₃ i ∷ e₄ i ∷ []
  where
    step : (m d : ℕ) → d < 256 → (m * 256 + d) / 256 ≡ m
    step m d h = omega arith

    left : (m d : ℕ) → d < 256 → (m * 256 + d) % 256 ≡ d
    left m d h = omega arith

    small : (m : ℕ) → m < 256 → m % 256 ≡ m
    small m h = omega arith

pub two_there : (s : List ℕ) (at : ℕ) → Bytes s → at + 2 ≤ length s → bytes2 (two_in s at) ≡ bytes_in s at 2
two_there s at b h = two_spelled (get_or s at 0) (get_or s (at + 1) 0) (b at) (b (at + 1)) ∙ sym (two_part s at h)

pub four_there : (s : List ℕ) (at : ℕ) → Bytes s → at + 4 ≤ length s → bytes4 (word_at s at) ≡ bytes_in s at 4
unfolding word_at
four_there s at b h =
    four_spelled (get_or s at 0) (get_or s (at + 1) 0) (get_or s (at + 2) 0) (get_or s (at + 3) 0) (b at) (b (at + 1)) (b (at + 2)) (b (at + 3))
    ∙ sym (four_part s at h)

pub word_below : (s : List ℕ) (at : ℕ) → Bytes s → word_at s at < 4294967296
unfolding word_at
word_below s at b = below (get_or s at 0) (get_or s (at + 1) 0) (get_or s (at + 2) 0) (get_or s (at + 3) 0) (b at) (b (at + 1)) (b (at + 2)) (b (at + 3))
  where
    below : (a b c d : ℕ) → a < 256 → b < 256 → c < 256 → d < 256 → ((a * 256 + b) * 256 + c) * 256 + d < 4294967296
    below a b c d ha hb hc hd = omega arith

pub eight_there : (s : List ℕ) (at : ℕ) → Bytes s → at + 8 ≤ length s → bytes8 (eight_in s at) ≡ bytes_in s at 8
unfolding bytes8
eight_there s at b h =
    let high : eight_in s at / 4294967296 ≡ word_at s at = quotient (word_at s at) (word_at s (at + 4)) (word_below s (at + 4) b) in
    let low : eight_in s at % 4294967296 ≡ word_at s (at + 4) = remainder (word_at s at) (word_at s (at + 4)) (word_below s (at + 4) b) in
    ap₂ (λ x y. bytes4 x ++ bytes4 y) high low
    ∙ ap₂ (λ x y. x ++ y) (four_there s at b (omega arith)) (four_there s (at + 4) b (omega arith))
    ∙ sym (halves s at)
  where
    quotient : (p q : ℕ) → q < 4294967296 → (p * 4294967296 + q) / 4294967296 ≡ p
    quotient p q h = omega arith

    remainder : (p q : ℕ) → q < 4294967296 → (p * 4294967296 + q) % 4294967296 ≡ q
    remainder p q h = omega arith

    halves : (s : List ℕ) (at : ℕ) → bytes_in s at 8 ≡ bytes_in s at 4 ++ bytes_in s (at + 4) 4
    halves s at = take-add 4 4 (drop at s) ∙ ap (λ l. take 4 (drop at s) ++ take 4 l) (drop-drop 4 at s)

pub eight_below : (s : List ℕ) (at : ℕ) → Bytes s → eight_in s at < 18446744073709551616
eight_below s at b = below (word_at s at) (word_at s (at + 4)) (word_below s at b) (word_below s (at + 4) b)
  where
    below : (p q : ℕ) → p < 4294967296 → q < 4294967296 → p * 4294967296 + q < 18446744073709551616
    below p q hp hq = omega arith
