-- HMAC with SHA-1 (RFC 2104; 002 section 11.3.1), on lists of bytes.
use Rattle.std.specs.Prelude.{ℕ, ◌-◌, List, ◌++◌, map, length, replicate, bit_xor, nat_lt}
use Rattle.digest.specs.Pick.{pick}
use Rattle.digest.specs.Sha1.{sha1, compress, initial_state}
use Rattle.digest.specs.Hasher.{digest_from}
use Rattle.digest.specs.declared.key.Key.{Key}

-- a key longer than a block is hashed first
unfoldable pub actual_key : List ℕ → List ℕ
actual_key k = pick (nat_lt 64 (length k)) (sha1 k) k

-- step 1: zeros behind the key, up to a block
unfoldable pub key_block : List ℕ → List ℕ
key_block k = actual_key k ++ replicate (64 - length (actual_key k)) 0

-- the byte x repeated, XOR s
unfoldable pub masked : ℕ → List ℕ → List ℕ
masked x s = map (λ b. bit_xor b x) s

abbrev pub ipad : ℕ
ipad = 0x36

abbrev pub opad : ℕ
opad = 0x5c

-- HMAC_hash(K, data) = H(K XOR opad + H(K XOR ipad + data))
unfoldable pub hmac : List ℕ → List ℕ → List ℕ
hmac k m = sha1 (masked opad (key_block k) ++ sha1 (masked ipad (key_block k) ++ m))

-- A key with both pads absorbed (RFC 2104 section 4), and the code that any two states give.
unfoldable pub key_of : List ℕ → Key
key_of k =
    record {
      inner = compress (masked ipad (key_block k)) initial_state;
      outer = compress (masked opad (key_block k)) initial_state;
    }

unfoldable pub code_under : Key → List ℕ → List ℕ
code_under key m = digest_from key.outer 64 (digest_from key.inner 64 m)
