-- The tally in its bytes: each count is spelled by four bytes at its own place, and four bytes spell one count.
use mathlib.Core.Path.{◌≡◌, ◌∙◌}
use mathlib.Core.List.{List, [], ◌∷◌}
use Prim.Native.Nat.{ℕ}
use native.Mathlib.Omega.{arith}
use lib.ListN.{length}
use lib.Seq.{take_all}
use Rattle.digest.specs.Bytes.{word_at}
use Rattle.message.proofs.AlertLaws.{word_back}
use Rattle.connection.specs.declared.tally.Tally.{Tally}
use Rattle.lent.specs.Fields.{joined}
use Rattle.lent.specs.Saved.{Bytes}
use Rattle.lent.specs.Counts.{tally_bytes, tally_in, TallyRanged, TallyHeld}
use Rattle.lent.proofs.Numbers.{four_there, word_below}
use Rattle.lent.proofs.Back.{cuts, total, cut_joined}

back : (t : Tally) → TallyRanged t → tally_in (tally_bytes t) ≡ t
unfolding tally_bytes tally_in joined word_at
back t r = λ i. record {
  handed = word_back t.handed r.handed i;
  forged = word_back t.forged r.forged i;
  old = word_back t.old r.old i;
  repeated = word_back t.repeated r.repeated i;
}

there : (b : List ℕ) → Bytes b → length b ≡ 16 → tally_bytes (tally_in b) ≡ b
unfolding tally_bytes tally_in cuts total
there b bytes size =
    (λ i. joined (
    four_there b 0 bytes (omega arith) i
    ∷ four_there b 4 bytes (omega arith) i
    ∷ four_there b 8 bytes (omega arith) i
    ∷ four_there b 12 bytes (omega arith) i
    ∷ []
    ))
    ∙ cut_joined (4 ∷ 4 ∷ 4 ∷ 4 ∷ []) 0 b
    ∙ take_all 16 b (omega arith)

ranged : (b : List ℕ) → Bytes b → TallyRanged (tally_in b)
unfolding tally_in
ranged b bytes = record {
  handed = word_below b 0 bytes;
  forged = word_below b 4 bytes;
  old = word_below b 8 bytes;
  repeated = word_below b 12 bytes;
}

pub tally_held : TallyHeld
tally_held = record { back = back; there = there; ranged = ranged }
