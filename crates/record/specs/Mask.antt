-- The initial vector of a record (002 11.2): "record_IV = IV XOR S".
use Rattle.std.specs.Prelude.{List, [], ◌++◌, ℕ, zero, suc, ◌+◌, ◌/◌, length, take}
use Rattle.digest.specs.Bytes.{bytes2}
use Rattle.record.specs.Checksum.{xor_with}

-- bytes, concatenated so many times
unfoldable pub times : ℕ → List ℕ → List ℕ
times zero s = []
times (suc n) s = s ++ times n s

-- "S is obtained by concatenating the 2-byte sequence number of the record needed number of times to obtain as many bytes as
-- in IV": of an odd number of bytes the last is the number's first
unfoldable pub numbers_over : ℕ → ℕ → List ℕ
numbers_over number size = take size (times ((size + 1) / 2) (bytes2 number))

-- "IV XOR S"
unfoldable pub mask_of : List ℕ → ℕ → List ℕ
mask_of iv number = xor_with iv (numbers_over number (length iv))
