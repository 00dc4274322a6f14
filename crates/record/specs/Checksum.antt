-- The checksum of an alert (002 10.2; 01, "Alerts").
use Rattle.std.specs.Prelude.{List, [], ◌∷◌, ◌++◌, ℕ, ◌-◌, ◌%◌, length, replicate}
use Rattle.std.specs.Int.Bits.{bit_xor}

-- "pad with zeros to a multiple of 4"
unfoldable pub padded : List ℕ → List ℕ
padded s = s ++ replicate ((4 - length s % 4) % 4) 0

-- two blocks, XORed byte by byte
unfoldable pub xor_with : List ℕ → List ℕ → List ℕ
xor_with [] t = []
xor_with (a ∷ s) [] = []
xor_with (a ∷ s) (b ∷ t) = bit_xor a b ∷ xor_with s t

-- "XOR the 4-byte blocks", onto a block b
unfoldable pub xor_with_blocks : List ℕ → List ℕ → List ℕ
xor_with_blocks b [] = b
xor_with_blocks b (p ∷ []) = b
xor_with_blocks b (p ∷ q ∷ []) = b
xor_with_blocks b (p ∷ q ∷ r ∷ []) = b
xor_with_blocks b (p ∷ q ∷ r ∷ s ∷ rest) = xor_with_blocks (xor_with b (p ∷ q ∷ r ∷ s ∷ [])) rest

-- the four bytes; "no record gives 0"
unfoldable pub checksum_of : List ℕ → List ℕ
checksum_of s = xor_with_blocks (0 ∷ 0 ∷ 0 ∷ 0 ∷ []) (padded s)
