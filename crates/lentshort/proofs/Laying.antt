-- What the code lays into lent bytes: a gatherer before its store, and what is said of a message.
use mathlib.Core.Path.{◌≡◌, refl, ◌∙◌, ap, ap₂, subst}
use mathlib.Core.Bool.{Bool, false}
use mathlib.Core.List.{List, [], ◌∷◌, ◌++◌, map, append-nil}
use Prim.Native.Nat.{ℕ, ◌+◌, ◌-◌, ◌*◌, ◌%◌, ◌≤◌, ◌<◌}
use native.Mathlib.Omega.{arith}
use lib.ListN.{length, take, drop, get_or, length-append, length-drop, drop_of_length-le}
use lib.Seq.{take_all}
use borrow.Author.Tests.{eq-eqb, ne_eqb}
use borrow.Author.Count.{below_more}
use Rattle.digest.specs.Bytes.{bytes2, laid_over, laid_within}
use Rattle.digest.specs.Mac.{same_bytes}
use Rattle.connection.proofs.Filling.{within}
use Rattle.gather.specs.declared.gatherer.Gatherer.{Gatherer}
use Rattle.lent.specs.Fields.{joined}
use Rattle.lent.proofs.Laying.{laid_on}
use Rattle.digest.proofs.Lay.{length_laid}
use Rattle.std.proofs.lemmas.List.{get_or_default}
use Rattle.gather.specs.Slot.{free}
use Rattle.gather.specs.declared.slot.Slot.{Slot}
use Rattle.lentshort.specs.Saved.{gatherer_size, store_at, mark, slot_bytes, slot_in, head_fields, saved_gatherer, is_gatherer, store_in, Is, loaded_gatherer, SlotRanged, Ranged}
use Rattle.lentshort.proofs.Rows.{row_more}
use Rattle.lentshort.proofs.Spelling.{slot_size}
use Rattle.lentshort.proofs.Back.{head_size, saved_loads}

-- ---- the tests of a saved gatherer

pub not_size : (b : List ℕ) → (length b ≡ gatherer_size → ⊥) → false ≡ is_gatherer b
unfolding is_gatherer
not_size b h = rw (ne_eqb (length b) gatherer_size h) refl

pub marked_is : (b m : List ℕ) (r : Bool) → length b ≡ gatherer_size → m ≡ mark → r ≡ same_bytes (take 4 b) m → r ≡ is_gatherer b
unfolding is_gatherer
marked_is b m r h e f = rw (eq-eqb (length b) gatherer_size h) (f ∙ ap (same_bytes (take 4 b)) e)

-- ---- a gatherer

-- the slots before the k-th laid behind the mark
pub record SlotsLaid (d : List ℕ) (slots : List Slot) (e : List ℕ) (k : ℕ) : Type 0 where
  pub size : length d ≡ gatherer_size
  pub same : length e ≡ length d
  pub bytes : e ≡ laid_over d 0 (mark ++ joined (map slot_bytes (take k slots)))
  pub ranged : (i : ℕ) → i < k → SlotRanged (get_or slots i free)

module _ (d : List ℕ) (slots : List Slot) (four : length slots ≡ 4) where
  pub mark_laid : (m e : List ℕ) → length d ≡ gatherer_size → m ≡ mark → e ≡ laid_within d 0 m → SlotsLaid d slots e 0
  unfolding joined
  mark_laid m e size is made =
      let over : e ≡ laid_over d 0 mark = within d 0 mark e (omega arith) (made ∙ ap (laid_within d 0) is) in
      record {
        size = size;
        same = ap length over ∙ length_laid d 0 mark (omega arith);
        bytes = over;
        ranged = λ i h. absurd (omega arith);
      }

  pub slot_laid : (e f : List ℕ) (k : ℕ) (none : Slot) → SlotsLaid d slots e k → k < 4
      → f ≡ laid_over e (4 + 24 * k) (slot_bytes (get_or slots k none)) → SlotRanged (get_or slots k none) → SlotsLaid d slots f (k + 1)
  slot_laid e f k none w h made r =
      let slot = get_or slots k free in
      let is : get_or slots k none ≡ slot = get_or_default slots k none free (omega arith) in
      let fine : SlotRanged slot = subst SlotRanged is r in
      let put : f ≡ laid_over e (4 + 24 * k) (slot_bytes slot) = made ∙ ap (λ x. laid_over e (4 + 24 * k) (slot_bytes x)) is in
      let place : 4 + 24 * k ≡ 0 + length mark + 24 * k = omega arith in
      let ranged : (i : ℕ) → i < k + 1 → SlotRanged (get_or slots i free) = below_more (λ i. SlotRanged (get_or slots i free)) k w.ranged fine in
      record {
        size = w.size;
        same = ap length put ∙ length_laid e (4 + 24 * k) (slot_bytes slot) (omega (arith, slot_size slot fine, w.same, w.size)) ∙ w.same;
        bytes =
            row_more free slot_in slot_bytes SlotRanged 24 slot_size d e mark 0 k slots ranged (omega arith) (omega (arith, w.size)) w.bytes f
            (put ∙ ap (λ n. laid_over e n (slot_bytes slot)) place);
        ranged = ranged;
      }

module _ (g : Gatherer) (d e : List ℕ) (w : SlotsLaid d g.slots e 4) where
  all_ranged : Ranged g
  all_ranged = record { slot = w.ranged }

  pub gatherer_laid : e ≡ saved_gatherer g (store_in d)
  unfolding laid_over saved_gatherer joined
  gatherer_laid =
      w.bytes
      ∙ ap (λ l. laid_over d 0 (mark ++ joined (map slot_bytes l))) (take_all 4 g.slots (omega (arith, g.four)))
      ∙ ap (λ n. joined (head_fields g) ++ drop (0 + n) d) (head_size g all_ranged)

  pub gatherer_loads_lem : loaded_gatherer e ≡ Is g (store_in d)
  gatherer_loads_lem =
      ap loaded_gatherer gatherer_laid ∙ saved_loads g (store_in d) all_ranged (length-drop store_at d ∙ ap (λ n. n - store_at) w.size)

-- ---- what is said of a message

-- bytes laid behind those that were laid at the front
behind : (d e f s t : List ℕ) (at : ℕ) → e ≡ laid_over d 0 s → length s ≡ at → at + length t ≤ length d → f ≡ laid_within e at t
    → f ≡ laid_over d 0 (s ++ t)
behind d e f s t at el long h made =
    let same : length e ≡ length d = ap length el ∙ length_laid d 0 s (omega arith) in
    let place : at ≡ 0 + length s = omega arith in
    within e at t f (omega arith) made
    ∙ (λ i. laid_over (el i) (place i) t)
    ∙ laid_on d s t 0 (omega arith)

-- four of them are all that there are
pub told_laid : (d d₁ d₂ d₃ d₄ kind x y z : List ℕ) → length d ≡ 10 → length kind ≡ 4 → length x ≡ 2 → length y ≡ 2 → length z ≡ 2
    → d₁ ≡ laid_within d 0 kind → d₂ ≡ laid_within d₁ 4 x → d₃ ≡ laid_within d₂ 6 y → d₄ ≡ laid_within d₃ 8 z
    → d₄ ≡ kind ++ x ++ y ++ z
unfolding laid_over
told_laid d d₁ d₂ d₃ d₄ kind x y z size k lx ly lz e₁ e₂ e₃ e₄ =
    let l₂ : length (kind ++ x) ≡ 6 = omega (arith, length-append kind x) in
    let l₃ : length (kind ++ x ++ y) ≡ 8 = omega (arith, length-append (kind ++ x) y) in
    let l₄ : length (kind ++ x ++ y ++ z) ≡ 10 = omega (arith, length-append (kind ++ x ++ y) z) in
    let f₁ = within d 0 kind d₁ (omega arith) e₁ in
    let f₂ = behind d d₁ d₂ kind x 4 f₁ k (omega arith) e₂ in
    let f₃ = behind d d₂ d₃ (kind ++ x) y 6 f₂ l₂ (omega arith) e₃ in
    behind d d₃ d₄ (kind ++ x ++ y) z 8 f₃ l₃ (omega arith) e₄
    ∙ ap (λ r. kind ++ x ++ y ++ z ++ r) (drop_of_length-le d {i = 0 + length (kind ++ x ++ y ++ z)} (omega arith))
    ∙ append-nil (kind ++ x ++ y ++ z)

-- the two lowest bytes of a number are those of its rest by 65,536
pub low_bytes : (n : ℕ) → bytes2 (n % 65536) ≡ bytes2 n
low_bytes n = ap₂ (λ p q. p ∷ q ∷ []) (omega arith) (omega arith)
