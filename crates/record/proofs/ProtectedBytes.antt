-- Codes and fragments. A fragment is genuine exactly if it is a content with its code behind it (`genuine_made`,
-- `made_genuine`); and what holds of the code under a key holds of HMAC under the secret that the key is of.
use mathlib.Core.Path.{◌≡◌, refl, sym, ap, ◌∙◌}
use mathlib.Core.Bool.{Bool, true, false}
use mathlib.Core.List.{List, [], ◌∷◌, ◌++◌}
use Prim.Native.Nat.{ℕ, ◌+◌, ◌-◌, ◌/◌, ◌%◌, ◌≤◌, ◌<◌}
use native.Mathlib.Omega.{arith}
use lib.ListN.{length, take, drop, get_or, length-append, take-append-drop}
use lib.Seq.{length-take-le, take_at, drop_at}
use lib.Dec.{lit<, lit≤, ltb}
use borrow.Author.Tests.{lt-ltb, le-ltb, ltb-true, ltb-false}
use Rattle.digest.specs.Pick.{pick}
use Rattle.std.specs.Int.{to_be_bytes, w16}
use Rattle.digest.specs.Hmac.{code_under, hmac, key_of}
use Rattle.digest.specs.Mac.{same_bytes, size_of}
use Rattle.digest.proofs.Codes.{code_is, length_hmac}
use Rattle.digest.proofs.Same.{equal_same, same_equal}
use Rattle.digest.specs.declared.key.Key.{Key}
use Rattle.digest.specs.declared.mac.Mac.{Mac}
use Rattle.digest.specs.declared.mac.Mac.TheVariants.{Sha80, Sha}
use Rattle.record.specs.Code.{coded_of, code_by, fragment_by, genuine_by, protected_by}
use Rattle.record.specs.Written.{byte_for, record_of}
use Rattle.record.specs.declared.header.Content.{Content}

pub size_most : (mac : Mac) → size_of mac ≤ 20
size_most Sha80 = lit≤ tt
size_most Sha = lit≤ tt

pub size_some : (mac : Mac) → 0 < size_of mac
size_some Sha80 = lit< tt
size_some Sha = lit< tt

-- the bytes kept are as many as the kind says
pub kept : (s : List ℕ) (mac : Mac) (size : ℕ) → length s ≡ 20 → size ≡ size_of mac → length (take size s) ≡ size
kept s mac size h e = length-take-le size s (omega (arith, size_most mac))

-- ---- genuine, over any hash

module _ (hash : List ℕ → List ℕ) (size number byte : ℕ) where
  pub genuine_short : (f : List ℕ) → length f < size → genuine_by hash size number byte f ≡ false
  unfolding genuine_by
  genuine_short f h = rw (lt-ltb (length f) size h)

  pub genuine_long : (f : List ℕ) → size ≤ length f → genuine_by hash size number byte f ≡ same_bytes (drop (length f - size) f) (code_by hash size number byte (take (length f - size) f))
  unfolding genuine_by
  genuine_long f h = rw (le-ltb (length f) size h)

  -- a genuine fragment is a content with its code
  pub genuine_made : (f : List ℕ) → genuine_by hash size number byte f ≡ true → (size ≤ length f) × (f ≡ fragment_by hash size number byte (take (length f - size) f))
  unfolding fragment_by
  genuine_made f e = decided (ltb (length f) size) refl
    where
      decided : (b : Bool) → ltb (length f) size ≡ b → (size ≤ length f) × (f ≡ take (length f - size) f ++ code_by hash size number byte (take (length f - size) f))
      decided true t =
          let z : ◌≡◌ {A = Bool} false true = sym (genuine_short f (ltb-true (length f) size t)) ∙ e in
          let n : ◌≡◌ {A = ℕ} 0 1 = cc in
          absurd (omega arith)
      decided false t =
          let h : size ≤ length f = ltb-false (length f) size t in
          let end : ℕ = length f - size in (
            h,
            sym (take-append-drop end f)
                ∙ ap (λ (x : List ℕ). take end f ++ x) (same_equal (drop end f) (code_by hash size number byte (take end f)) (sym (genuine_long f h) ∙ e)),
          )

  -- a content with its code is a genuine fragment
  pub made_genuine : (c : List ℕ) → size ≤ length (hash (coded_of number byte c)) → genuine_by hash size number byte (fragment_by hash size number byte c) ≡ true
  unfolding fragment_by code_by
  made_genuine c h =
      let code : List ℕ = take size (hash (coded_of number byte c)) in
      let f : List ℕ = c ++ code in
      let k : length code ≡ size = length-take-le size (hash (coded_of number byte c)) h in
      let l : length f ≡ length c + length code = length-append c code in
      let at_end : length c ≡ length f - size = omega arith in
      let front : take (length f - size) f ≡ c = take_at c code (length f - size) at_end in
      let back : drop (length f - size) f ≡ code = drop_at c code (length f - size) at_end in
      genuine_long f (omega arith)
      ∙ equal_same (drop (length f - size) f) (take size (hash (coded_of number byte (take (length f - size) f))))
      (back ∙ ap (λ (x : List ℕ). take size (hash (coded_of number byte x))) (sym front))

-- ---- under a key

pub genuine_key : (key : Key) (k : List ℕ) → key ≡ key_of k → (size number byte : ℕ) (f : List ℕ) → genuine_by (code_under key) size number byte f ≡ genuine_by (hmac k) size number byte f
unfolding genuine_by code_by
genuine_key key k e size number byte f =
    let end : ℕ = length f - size in
    ap (λ (x : List ℕ). pick (ltb (length f) size) false (same_bytes (drop end f) (take size x)))
    (code_is key k (coded_of number byte (take end f)) e)

pub protected_key : (key : Key) (k : List ℕ) → key ≡ key_of k → (size : ℕ) (long : Bool) (content : Content) (number : ℕ) (body : List ℕ) → protected_by (code_under key) size long content number body ≡ protected_by (hmac k) size long content number body
unfolding protected_by fragment_by code_by
protected_key key k e size long content number body =
    ap (λ (x : List ℕ). record_of long true content number (body ++ take size x))
    (code_is key k (coded_of number (byte_for long true content) body) e)

-- ---- as the code makes them

pub coded_head : (number byte : ℕ) (content : List ℕ) → (number / 256 % 256 ∷ number % 256 ∷ byte ∷ length content / 256 % 256 ∷ length content % 256 ∷ []) ++ content ≡ coded_of number byte content
unfolding coded_of
coded_head number byte content = refl

pub coded_bytes : (number byte : ℕ) (content n size : List ℕ) → n ≡ to_be_bytes w16 number → size ≡ to_be_bytes w16 (length content % 65536) → (get_or n 0 0 ∷ get_or n 1 0 ∷ byte ∷ get_or size 0 0 ∷ get_or size 1 0 ∷ []) ++ content ≡ coded_of number byte content
unfolding coded_of
coded_bytes number byte content n size e f =
    let high : length content % 65536 / 256 % 256 ≡ length content / 256 % 256 = omega arith in
    let low : length content % 65536 % 256 ≡ length content % 256 = omega arith in
    rw (e, f, high, low)

pub judged : (hash : List ℕ → List ℕ) (size number byte : ℕ) (f w : List ℕ) (r : Bool) → size ≤ length f → w ≡ hash (coded_of number byte (take (length f - size) f)) → r ≡ same_bytes (drop (length f - size) f) (take size w) → r ≡ genuine_by hash size number byte f
unfolding code_by
judged hash size number byte f w r h e q = q ∙ rw e (sym (genuine_long hash size number byte f h))

pub protected : (hash : List ℕ → List ℕ) (size : ℕ) (long : Bool) (content : Content) (number byte : ℕ) (body w : List ℕ) → byte ≡ byte_for long true content → w ≡ hash (coded_of number byte body) → record_of long true content number (body ++ take size w) ≡ protected_by hash size long content number body
unfolding protected_by fragment_by code_by
protected hash size long content number byte body w e f = rw (f, e)

-- ---- under a secret, for either kind

module _ (k : List ℕ) (mac : Mac) (number byte : ℕ) (c : List ℕ) where
  pub protected_genuine : genuine_by (hmac k) (size_of mac) number byte (fragment_by (hmac k) (size_of mac) number byte c) ≡ true
  protected_genuine =
      made_genuine (hmac k) (size_of mac) number byte c (omega (arith, size_most mac, length_hmac k (coded_of number byte c)))

  pub protected_length : length (fragment_by (hmac k) (size_of mac) number byte c) ≡ length c + size_of mac
  unfolding fragment_by code_by
  protected_length =
      length-append c (take (size_of mac) (hmac k (coded_of number byte c)))
      ∙ ap (λ (n : ℕ). length c + n) (kept (hmac k (coded_of number byte c)) mac (size_of mac) (length_hmac k (coded_of number byte c)) refl)
