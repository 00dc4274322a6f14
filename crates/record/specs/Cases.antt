-- The cases of 01, "Proved cases", that this layer's definitions decide: one list, under one statement.
use Rattle.std.specs.Prelude.{◌≡◌, Bool, true, false, List, [], ◌∷◌, ℕ, length}
use Rattle.record.specs.Checksum.{checksum_of}
use Rattle.record.specs.Window.{window_width, too_old}
use Rattle.record.specs.Keys.{key_number}
use Rattle.record.specs.Reader.{fault_number}
use Rattle.record.specs.Datagram.{Framing, framed, faulty, framing_of}

-- what a framing comes to: how many records, or the refusal number and the offset
pub data Found : Type 0 where
  records : ℕ → Found
  refused : ℕ → ℕ → Found

abbrev pub found_in : Framing → Found
found_in (framed rs) = records (length rs)
found_in (faulty fault at) = refused (fault_number fault) at

pub data Case : Type 0 where
  -- the checksum of bytes
  sums : List ℕ → List ℕ → Case
  -- with n the highest number, whether s is too old
  old : ℕ → ℕ → Bool → Case
  -- under refresh k, the key number of s
  key : ℕ → ℕ → ℕ → Case
  -- what a datagram is
  frames : List ℕ → Found → Case

abbrev pub Holds : Case → Type 0
Holds (sums s four) = checksum_of s ≡ four
Holds (old n s is) = too_old window_width n s ≡ is
Holds (key k s n) = key_number k s ≡ n
Holds (frames d found) = found_in (framing_of d) ≡ found

abbrev pub All : List Case → Type 0
All [] = Unit
All (c ∷ cs) = Holds c × All cs

abbrev pub cases : List Case
cases =
    sums [] (0x00 ∷ 0x00 ∷ 0x00 ∷ 0x00 ∷ [])  -- A
    ∷ sums (0x05 ∷ []) (0x05 ∷ 0x00 ∷ 0x00 ∷ 0x00 ∷ [])  -- B
    ∷ sums (0x43 ∷ 0x00 ∷ 0x00 ∷ 0x01 ∷ 0x02 ∷ []) (0x41 ∷ 0x00 ∷ 0x00 ∷ 0x01 ∷ [])  -- C
    ∷ sums (0x01 ∷ 0x02 ∷ 0x03 ∷ 0x04 ∷ 0x01 ∷ 0x02 ∷ 0x03 ∷ 0x04 ∷ []) (0x00 ∷ 0x00 ∷ 0x00 ∷ 0x00 ∷ [])  -- D
    ∷ old 31 0 false  -- E
    ∷ old 32 0 true  -- F
    ∷ old 40 9 false  -- G
    ∷ old 40 8 true
    ∷ key 3 19 16  -- H
    ∷ key 10 1023 0  -- I
    ∷ key 10 1024 1024
    ∷ key 0 7 7  -- J
    ∷ key 16 65535 0
    ∷ frames (0xc3 ∷ 0x00 ∷ 0x00 ∷ 0x00 ∷ 0x02 ∷ 0xaa ∷ 0xbb ∷ 0x64 ∷ 0x00 ∷ 0x01 ∷ 0x11 ∷ 0x22 ∷ []) (records 2)  -- K
    ∷ frames (0x64 ∷ 0x00 ∷ 0x01 ∷ []) (refused 4 0)  -- L
    ∷ frames (0x64 ∷ 0x00 ∷ []) (refused 2 0)
    ∷ []
