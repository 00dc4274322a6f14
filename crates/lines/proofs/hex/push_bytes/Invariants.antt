-- `hex::push_bytes`: the first `i` bytes are appended.
use Rattle.std.proofs.Common.{◌≡◌, ◌+◌, ◌++◌, length, take}
use Rattle.lines.specs.Hex.{bytes_of}
use Rattle.lines.proofs.hex.push_bytes.Given as goal

abbrev pub invariant-loop-i : goal.invariant-loop-i
invariant-loop-i g l =
    (l.to.items ≡ l.initial.to.items ++ take l.i (bytes_of l.word)) × (length l.to.items ≡ length l.initial.to.items + l.i)
