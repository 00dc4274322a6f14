-- The code of a record (002 9.2.3.2 and 11.3.1; 01, "The record on the wire"). `hash` is HMAC_hash under the MAC secret, and
-- `size` the number of bytes that the MAC kind keeps.
use Rattle.std.specs.Prelude.{Bool, true, false, List, ◌∷◌, ◌++◌, ℕ, ◌-◌, length, take, drop, ltb}
use Rattle.digest.specs.Pick.{pick}
use Rattle.digest.specs.Bytes.{bytes2}
use Rattle.digest.specs.Mac.{same_bytes}
use Rattle.record.specs.Written.{byte_for, record_of}
use Rattle.record.specs.declared.header.Content.{Content}

-- "seq_number + WTLSCompressed.record_type + WTLSCompressed.length + WTLSCompressed.fragment"
unfoldable pub coded_of : ℕ → ℕ → List ℕ → List ℕ
coded_of number byte content = (bytes2 number ++ (byte ∷ bytes2 (length content))) ++ content

-- "cut to its first 10 or kept at 20 bytes"
unfoldable pub code_by : (List ℕ → List ℕ) → ℕ → ℕ → ℕ → List ℕ → List ℕ
code_by hash size number byte content = take size (hash (coded_of number byte content))

-- "Protected fragment: content, then the code."
unfoldable pub fragment_by : (List ℕ → List ℕ) → ℕ → ℕ → ℕ → List ℕ → List ℕ
fragment_by hash size number byte content = content ++ code_by hash size number byte content

-- "A fragment shorter than its code counts as forged"; else what stands behind the content is compared with its code
unfoldable pub genuine_by : (List ℕ → List ℕ) → ℕ → ℕ → ℕ → List ℕ → Bool
genuine_by hash size number byte fragment =
    let end : ℕ = length fragment - size in
    pick (ltb (length fragment) size) false
    (same_bytes (drop end fragment) (code_by hash size number byte (take end fragment)))

-- a protected record on the wire
unfoldable pub protected_by : (List ℕ → List ℕ) → ℕ → Bool → Content → ℕ → List ℕ → List ℕ
protected_by hash size long content number body =
    record_of long true content number (fragment_by hash size number (byte_for long true content) body)
