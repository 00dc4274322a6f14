-- A block on its way through its eighty rounds, with sixteen words turned over in place (FIPS 180-1 section 8).
use Rattle.std.specs.Prelude.{◌≡◌, ℕ, ◌+◌, ◌%◌, ◌<◌, ◌≤◌, List, bit_xor, slice_index}
use Rattle.digest.specs.Sha1.{shifted, schedule, rounds}
use Rattle.digest.specs.declared.block.State.{State}
use Rattle.digest.specs.declared.block.Midway.{Midway}

-- step b of section 8, where the places count modulo 16: what takes the place of the word of round t - 16
unfoldable pub turned_over : List ℕ → ℕ → ℕ
turned_over w t =
    shifted 1
    (bit_xor
    (bit_xor
    (bit_xor (slice_index w ((t + 13) % 16)) (slice_index w ((t + 8) % 16)))
    (slice_index w ((t + 2) % 16)))
    (slice_index w (t % 16)))

-- From the state h and the block's words m on, p has made the rounds before round t, and the word of each of the last
-- sixteen of these, as the schedule of eighty words has it, stands at the number of its round modulo 16.
pub record Reached (m : List ℕ) (h : State) (t : ℕ) (p : Midway) : Type 0 where
  pub words_are : (i : ℕ) → i < t → t ≤ i + 16 → slice_index p.words (i % 16) ≡ slice_index (schedule m 64) i
  pub state_is : p.state ≡ rounds (schedule m 64) t h
