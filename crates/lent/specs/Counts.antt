-- The unit's tally in 16 lent bytes: handed out, forged, too old, repeated, four bytes each, the most significant
-- first. All strings of 16 bytes are a tally, and 16 zeros are a fresh one.
use Rattle.std.specs.Prelude.{◌≡◌, List, [], ◌∷◌, ℕ, ◌<◌, length, eqb}
use Rattle.digest.specs.Pick.{pick}
use Rattle.digest.specs.Bytes.{bytes4, word_at}
use Rattle.connection.specs.Tally.{fresh_tally}
use Rattle.connection.specs.declared.tally.Tally.{Tally}
use Rattle.lent.specs.Fields.{joined}
use Rattle.lent.specs.Saved.{Bytes}

unfoldable pub tally_bytes : Tally → List ℕ
tally_bytes t = joined (bytes4 t.handed ∷ bytes4 t.forged ∷ bytes4 t.old ∷ bytes4 t.repeated ∷ [])

unfoldable pub tally_in : List ℕ → Tally
tally_in b = record { handed = word_at b 0; forged = word_at b 4; old = word_at b 8; repeated = word_at b 12 }

-- the tally of bytes of any size, and a tally laid over such bytes: only 16 of them hold one
unfoldable pub tally_within : List ℕ → Tally
tally_within b = pick (eqb (length b) 16) (tally_in b) fresh_tally

unfoldable pub tally_laid : List ℕ → Tally → List ℕ
tally_laid d t = pick (eqb (length d) 16) (tally_bytes t) d

-- A tally is what its type says: four counts of 32 bits each.
pub record TallyRanged (t : Tally) : Type 0 where
  pub handed : t.handed < 4294967296
  pub forged : t.forged < 4294967296
  pub old : t.old < 4294967296
  pub repeated : t.repeated < 4294967296

-- The tally that is read from lent bytes is the one that was written to them, and the other way round: no two counts
-- can change places between calls.
pub record TallyHeld : Type 0 where
  pub back : (t : Tally) → TallyRanged t → tally_in (tally_bytes t) ≡ t
  pub there : (b : List ℕ) → Bytes b → length b ≡ 16 → tally_bytes (tally_in b) ≡ b
  pub ranged : (b : List ℕ) → Bytes b → TallyRanged (tally_in b)
