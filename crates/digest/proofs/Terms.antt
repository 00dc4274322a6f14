-- The laws of the expansion, over any MAC of twenty bytes.
use Rattle.std.proofs.Common.{◌≡◌, ℕ, zero, suc, ◌+◌, ◌-◌, ◌*◌, ◌/◌, ◌<◌, ◌≤◌, List, [], ◌∷◌, ◌++◌, length, take, sym, refl, ap, ◌∙◌, ap₂, add-one, arith, length-append, length-take-le, take_all}
use mathlib.Core.Path.{fun_ext}
use lib.Seq.{take-append-add}
use Rattle.digest.proofs.Lay.{laid_front, length_laid}
use Rattle.digest.proofs.Codes.{code_is}
use Rattle.digest.specs.Bytes.{laid_over}
use Rattle.digest.specs.Hmac.{key_of, code_under}
use Rattle.digest.specs.Expansion.{chain, terms, expansion, prf}
use Rattle.digest.specs.declared.key.Key.{Key}

module _ (mac : List ℕ → List ℕ) (size : (m : List ℕ) → length (mac m) ≡ 20) (seed : List ℕ) where
  length_terms : (i : ℕ) → length (terms mac seed i) ≡ 20 * i
  unfolding terms
  length_terms zero = refl
  length_terms (suc i) =
      length-append (terms mac seed i) (mac (chain mac seed (suc i) ++ seed))
      ∙ ap₂ (λ x y. x + y) (length_terms i) (size (chain mac seed (suc i) ++ seed))
      ∙ omega arith

  -- one term more, as a loop lays it
  pub terms_more : (out a t : List ℕ) (i : ℕ) → 20 * i ≤ length out → a ≡ chain mac seed (i + 1) → t ≡ mac (a ++ seed)
      → take (20 * i) out ≡ terms mac seed i → take (20 * (i + 1)) (laid_over out (20 * i) t) ≡ terms mac seed (i + 1)
  unfolding terms
  terms_more out a t i h ea et e =
      let long : length t ≡ 20 = ap length et ∙ size (a ++ seed) in
      let there : 20 * (i + 1) ≡ 20 * i + length t = omega arith in
      laid_front out (20 * i) (20 * (i + 1)) t h there
      ∙ ap₂ (λ x y. x ++ y) e (et ∙ ap (λ x. mac (x ++ seed)) (ea ∙ ap (chain mac seed) (add-one i)))
      ∙ sym (ap (terms mac seed) (add-one i))

  pub chain_first : (a : List ℕ) → a ≡ mac seed → a ≡ chain mac seed (0 + 1)
  unfolding chain
  chain_first a e = e

  pub chain_more : (a b : List ℕ) (i : ℕ) → b ≡ mac a → a ≡ chain mac seed (i + 1) → b ≡ chain mac seed (i + 1 + 1)
  unfolding chain
  chain_more a b i eb ea = eb ∙ ap mac ea ∙ sym (ap (chain mac seed) (add-one (i + 1)))

  -- the last term, cut to what is left
  pub expansion_by : (out d a t : List ℕ) (i : ℕ) → 0 < length out → i ≡ (length out - 1) / 20
      → a ≡ chain mac seed (i + 1) → t ≡ mac (a ++ seed) → take (20 * i) out ≡ terms mac seed i
      → d ≡ laid_over out (20 * i) (take (length out - 20 * i) t) → d ≡ expansion mac seed (length out)
  unfolding expansion terms
  expansion_by out d a t i some ei ea et e ed =
      let n = length out in
      let left = n - 20 * i in
      let inside : 20 * i < n = omega arith in
      let few : left ≤ 20 = omega arith in
      let long : length t ≡ 20 = ap length et ∙ size (a ++ seed) in
      let cut : length (take left t) ≡ left = length-take-le left t (omega arith) in
      let ends : n ≡ 20 * i + length (take left t) = omega arith in
      let same : length d ≡ n = ap length ed ∙ length_laid out (20 * i) (take left t) (omega arith) in
      let count : (n + 19) / 20 ≡ i + 1 = omega arith in
      let front : n ≡ length (terms mac seed i) + left = omega (arith, length_terms i) in
      sym (take_all n d (omega arith))
      ∙ ap (take n) ed
      ∙ laid_front out (20 * i) n (take left t) (omega arith) ends
      ∙ ap₂ (λ x y. x ++ take left y) e (et ∙ ap (λ x. mac (x ++ seed)) (ea ∙ ap (chain mac seed) (add-one i)))
      ∙ sym (take-append-add (terms mac seed i) (mac (chain mac seed (suc i) ++ seed)) left)
      ∙ ap (λ k. take k (terms mac seed (suc i))) (sym front)
      ∙ ap (λ k. take n (terms mac seed k)) (sym (count ∙ add-one i))

  -- one term alone
  pub expansion_once : (out d a t : List ℕ) → 0 < length out → length out ≤ 20 → a ≡ mac seed → t ≡ mac (a ++ seed)
      → d ≡ laid_over out 0 (take (length out) t) → d ≡ expansion mac seed (length out)
  unfolding terms
  expansion_once out d a t some few ea et ed =
      let all : length out ≡ length out - 20 * 0 = omega arith in
      expansion_by out d a t 0 some (omega arith) (chain_first a ea) et refl (ed ∙ ap (λ k. laid_over out 0 (take k t)) all)

-- An empty expansion.
pub expansion_none : (mac : List ℕ → List ℕ) (seed out : List ℕ) → length out ≡ 0 → out ≡ expansion mac seed (length out)
unfolding expansion terms
expansion_none mac seed [] e = refl
expansion_none mac seed (x ∷ out) e = absurd (let z : suc (length out) ≡ 0 = e in omega arith)

-- Under the key of a secret the expansion is the pseudo-random function's.
pub expansion_is : (key : Key) (k label seed : List ℕ) (n : ℕ) → key ≡ key_of k → expansion (code_under key) (label ++ seed) n ≡ prf k label seed n
unfolding prf
expansion_is key k label seed n e =
    ap (λ mac. expansion mac (label ++ seed) n) (fun_ext (λ m. code_is key k m e))

pub both_expanded : (key : Key) (d label seed : List ℕ) (n : ℕ) → d ≡ expansion (code_under key) (label ++ seed) n
    → (d ≡ expansion (code_under key) (label ++ seed) n) × ((k : List ℕ) → key ≡ key_of k → d ≡ prf k label seed n)
both_expanded key d label seed n e = (e, λ k ek. e ∙ expansion_is key k label seed n ek)
