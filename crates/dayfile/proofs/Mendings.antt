-- Mending, test by test.
use mathlib.Core.Path.{◌≡◌, refl, sym, ap}
use mathlib.Core.Bool.{Bool, true, false}
use mathlib.Core.List.{List}
use Prim.Native.Nat.{ℕ, ◌-◌, ◌≤◌, ◌<◌}
use native.Mathlib.Omega.{arith}
use lib.Dec.{ltb, leb}
use lib.ListN.{length}
use borrow.Author.Tests.{lt-ltb, le-ltb, le-leb, lt-leb, leb-true, ltb-false}
use Rattle.digest.specs.Pick.{pick}
use Rattle.dayfile.specs.File.{body_of, file_of, is_within}
use Rattle.dayfile.specs.Runs.{run_of}
use Rattle.dayfile.specs.Mending.{Mend, mended, refused, said_of, mend_of, mending_told, mend_left}
use Rattle.dayfile.specs.declared.refusal.Refusal.{Refusal}
use Rattle.dayfile.specs.declared.refusal.Refusal.TheVariants.{Limit, Room}
use Rattle.dayfile.specs.declared.mend.Mended.{Mended}
use Rattle.std.specs.Prelude.{Result, Ok}

module _ (b : List ℕ) (room : ℕ) where
  pub mend_long : 65536 < length b → mend_of b room ≡ refused Limit
  unfolding mend_of
  mend_long h = rw (lt-ltb 65536 (length b) h)

  module _ (h : length b ≤ 65536) where
    pub mend_over : is_within (run_of b) ≡ false → mend_of b room ≡ refused Limit
    unfolding mend_of
    mend_over k = rw (le-ltb 65536 (length b) h, k)

    module _ (k : is_within (run_of b) ≡ true) where
      pub mend_narrow : room < length (file_of (run_of b)) → mend_of b room ≡ refused Room
      unfolding mend_of
      mend_narrow n = rw (le-ltb 65536 (length b) h, k, lt-leb (length (file_of (run_of b))) room n)

      pub mend_done : length (file_of (run_of b)) ≤ room → mend_of b room ≡ mended (file_of (run_of b)) (said_of b)
      unfolding mend_of
      mend_done n = rw (le-ltb 65536 (length b) h, k, le-leb (length (file_of (run_of b))) room n)

inside : (s t : Mended) → ◌≡◌ {A = Result Mended Refusal} (Ok s) (Ok t) → s ≡ t
inside s t e = cc

-- what is told of it, and what the lent room holds
pub record Given (out : List ℕ) (x w : Mend) : Type 0 where
  pub told : mending_told w ≡ mending_told x
  pub held : mend_left out w ≡ mend_left out x

pub given : (out : List ℕ) (x w : Mend) → x ≡ w → Given out x w
given out x w e = record { told = ap mending_told (sym e); held = ap (mend_left out) (sym e) }

-- what is told fits its bits
pub told_bounds : (b : List ℕ) (room : ℕ) (said : Mended) → mending_told (mend_of b room) ≡ Ok said → (said.kept ≤ 4096) × (said.after ≤ 65536)
unfolding mend_of is_within said_of
told_bounds b room said e = told (ltb 65536 (length b)) (leb (length (run_of b)) 4096) (leb (length (file_of (run_of b))) 65536) (leb (length (file_of (run_of b))) room) refl refl e
  where
    told : (w x y z : Bool) → ltb 65536 (length b) ≡ w → leb (length (run_of b)) 4096 ≡ x
        → mending_told (pick w (refused Limit) (pick (pick x y false) (pick z (mended (file_of (run_of b)) (said_of b)) (refused Room)) (refused Limit))) ≡ Ok said
        → (said.kept ≤ 4096) × (said.after ≤ 65536)
    told true x y z p q g = absurd (cc)
    told false false y z p q g = absurd (cc)
    told false true false z p q g = absurd (cc)
    told false true true false p q g = absurd (cc)
    told false true true true p q g =
        let same : said_of b ≡ said = inside (said_of b) said g in
        let kept : said.kept ≡ length (run_of b) = ap (λ s. s.kept) (sym same) in
        let after : said.after ≡ length b - length (body_of (run_of b)) = ap (λ s. s.after) (sym same) in
        (omega (arith, leb-true (length (run_of b)) 4096 q), omega (arith, ltb-false 65536 (length b) p))
