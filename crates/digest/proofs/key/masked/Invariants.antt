-- `key::masked`: the bytes so far are masked, and the others as they were.
use Rattle.std.proofs.Common.{◌≡◌, ℕ, ◌≤◌, length, get_or, take}
use Rattle.digest.specs.Hmac as Hmac
use Rattle.digest.proofs.key.masked.Given as goal

abbrev pub invariant-loop-byte : goal.invariant-loop-byte
invariant-loop-byte l = (length l.byte-items ≡ 64)
    × (take l.byte-index l.byte-items ≡ Hmac.masked l.x (take l.byte-index l.fn.block))
    × ((k : ℕ) → l.byte-index ≤ k → get_or l.byte-items k 0 ≡ get_or l.fn.block k 0)
