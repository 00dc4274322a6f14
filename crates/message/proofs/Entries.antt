-- Laws of key lists: an entry that is there ends past its beginning, so the walk over the entries does not depend on
-- how many it is allowed, and goes on from the end of each entry.
use mathlib.Core.Path.{◌≡◌, refl, sym, ◌∙◌, ap}
use mathlib.Core.List.{List}
use mathlib.Core.Bool.{Bool, true, false}
use Prim.Native.Nat.{ℕ, zero, suc, ◌+◌, ◌≤◌, ◌<◌}
use native.Mathlib.Omega.{arith}
use lib.ListN.{length, get_or}
use lib.Dec.{ltb, eqb}
use borrow.Author.Tests.{le-ltb, lt-ltb, eqb-false, eq-eqb, ne_eqb}
use Rattle.digest.specs.Pick.{pick}
use Rattle.message.specs.Field.{long_end, part_of}
use Rattle.message.specs.Keys.{specifier_end, identifier_end, entry_end, entries_from, key_list, keys_end}
use Rattle.message.specs.Set.{set_sound}
use Rattle.message.proofs.Fields.{Past, past_zero, past_pick, past_field, past_short, past_long, pick_same}

past_specifier : (s : List ℕ) (at suite n : ℕ) → n ≤ at → Past n (specifier_end s at suite)
unfolding specifier_end
past_specifier s at suite n l =
    past_pick (ltb at (length s)) _ 0 n
    (past_pick (eqb (get_or s at 0) 255) _ (at + 1) n
    (past_pick (set_sound suite (part_of s (at + 3) (long_end s (at + 1)))) _ 0 n
    (past_long s (at + 1) n (omega arith)) (past_zero n))
    (λ h. omega arith))
    (past_zero n)

past_identifier : (s : List ℕ) (at n : ℕ) → n ≤ at → Past n (identifier_end s at)
unfolding identifier_end
past_identifier s at n l =
    past_pick (ltb at (length s)) _ 0 n
    (past_pick (eqb (get_or s at 0) 0) (at + 1) _ n (λ h. omega arith)
    (past_pick (eqb (get_or s at 0) 1) _ _ n (past_short 1 255 s (at + 3) n (omega arith))
    (past_pick (eqb (get_or s at 0) 2) _ _ n (past_short 1 255 s (at + 1) n (omega arith))
    (past_pick (eqb (get_or s at 0) 254) _ _ n (past_field s (at + 1) 20 n (omega arith))
    (past_pick (eqb (get_or s at 0) 255) _ 0 n (past_short 1 255 s (at + 1) n (omega arith)) (past_zero n))))))
    (past_zero n)

pub past_entry : (s : List ℕ) (at : ℕ) → Past at (entry_end s at)
unfolding entry_end
past_entry s at =
    past_pick (ltb at (length s)) _ 0 at
    (go (eqb (specifier_end s (at + 1) (get_or s at 0)) 0) refl)
    (past_zero at)
  where
    go : (b : Bool) → eqb (specifier_end s (at + 1) (get_or s at 0)) 0 ≡ b
        → Past at (pick b 0 (identifier_end s (specifier_end s (at + 1) (get_or s at 0))))
    go true e = past_zero at
    go false e =
        let p = specifier_end s (at + 1) (get_or s at 0) in
        let l : at < p = past_specifier s (at + 1) (get_or s at 0) at (omega arith) (eqb-false p 0 e) in
        past_identifier s p at (omega arith)

pub entries_same : (f g : ℕ) (s : List ℕ) (at : ℕ) → length s ≤ at + f → length s ≤ at + g → entries_from f s at ≡ entries_from g s at
unfolding entries_from
entries_same zero zero s at h k = refl
entries_same zero (suc g) s at h k = rw (le-ltb at (length s) (omega arith)) refl
entries_same (suc f) zero s at h k = rw (le-ltb at (length s) (omega arith)) refl
entries_same (suc f) (suc g) s at h k = go (eqb (entry_end s at) 0) refl (entries_same f g s (entry_end s at))
  where
    go : (b : Bool) → eqb (entry_end s at) 0 ≡ b
        → (length s ≤ entry_end s at + f → length s ≤ entry_end s at + g → entries_from f s (entry_end s at) ≡ entries_from g s (entry_end s at))
        → pick (ltb at (length s)) (pick b false (entries_from f s (entry_end s at))) (eqb at (length s))
        ≡ pick (ltb at (length s)) (pick b false (entries_from g s (entry_end s at))) (eqb at (length s))
    go true e ih = refl
    go false e ih =
        let l : at < entry_end s at = past_entry s at (eqb-false (entry_end s at) 0 e) in
        ap (λ (w : Bool). pick (ltb at (length s)) w (eqb at (length s))) (ih (omega arith) (omega arith))

-- the walk goes on from the end of an entry
pub entries_step : (s : List ℕ) (at : ℕ) → at < length s → (entry_end s at ≡ 0 → ⊥)
    → entries_from (length s) s at ≡ entries_from (length s) s (entry_end s at)
unfolding entries_from
entries_step s at l h =
    entries_same (length s) (suc (length s)) s at (omega arith) (omega arith)
    ∙ rw (lt-ltb at (length s) l, ne_eqb (entry_end s at) 0 h) refl

-- it fails where no entry begins
pub entries_fault : (s : List ℕ) (at : ℕ) → at < length s → entry_end s at ≡ 0 → entries_from (length s) s at ≡ false
unfolding entries_from
entries_fault s at l h =
    entries_same (length s) (suc (length s)) s at (omega arith) (omega arith)
    ∙ rw (lt-ltb at (length s) l, eq-eqb (entry_end s at) 0 h) refl

-- and is done at the end
pub entries_done : (s : List ℕ) (at : ℕ) → at ≡ length s → entries_from (length s) s at ≡ true
unfolding entries_from
entries_done s at e =
    entries_same (length s) zero s at (omega arith) (omega arith)
    ∙ eq-eqb at (length s) e

-- an entry by its parts
module _ (s : List ℕ) (at : ℕ) where
  pub entry_cut : length s ≤ at → 0 ≡ entry_end s at
  unfolding entry_end
  entry_cut h = rw (le-ltb at (length s) h) refl

  module _ (l : at < length s) (suite k : ℕ) (e : suite ≡ get_or s at 0) where
    pub entry_none : specifier_end s (at + 1) suite ≡ 0 → 0 ≡ entry_end s at
    unfolding entry_end
    entry_none h = rw (lt-ltb at (length s) l, sym e, h) refl

    pub entry_some : k ≡ specifier_end s (at + 1) suite → (k ≡ 0 → ⊥) → identifier_end s k ≡ entry_end s at
    unfolding entry_end
    entry_some p h = rw (lt-ltb at (length s) l, sym e, sym p, ne_eqb k 0 h) refl

-- a key list whose length is not there is not there
pub keys_cut : (m : List ℕ) (at : ℕ) → long_end m at ≡ 0 → 0 ≡ keys_end m at
unfolding keys_end
keys_cut m at h = rw h (pick_same (key_list (part_of m (at + 2) 0)) 0)

-- one whose length is there, by what the walk says of its bytes
pub keys_by : (m : List ℕ) (at end : ℕ) (list : List ℕ) (sound : Bool) → end ≡ long_end m at → list ≡ part_of m (at + 2) end
    → sound ≡ key_list list → pick sound end 0 ≡ keys_end m at
unfolding keys_end
keys_by m at end list sound e p w =
    ap (λ (b : Bool). pick b end 0) (w ∙ ap key_list p)
    ∙ ap (λ (k : ℕ). pick (key_list (part_of m (at + 2) k)) k 0) e

pub keys_sound : (m : List ℕ) (at end : ℕ) (list : List ℕ) (sound : Bool) → end ≡ long_end m at → list ≡ part_of m (at + 2) end
    → sound ≡ key_list list → sound ≡ true → end ≡ keys_end m at
keys_sound m at end list sound e p w h = ap (λ (b : Bool). pick b end 0) (sym h) ∙ keys_by m at end list sound e p w

pub keys_unsound : (m : List ℕ) (at end : ℕ) (list : List ℕ) (sound : Bool) → end ≡ long_end m at → list ≡ part_of m (at + 2) end
    → sound ≡ key_list list → sound ≡ false → 0 ≡ keys_end m at
keys_unsound m at end list sound e p w h = ap (λ (b : Bool). pick b end 0) (sym h) ∙ keys_by m at end list sound e p w
