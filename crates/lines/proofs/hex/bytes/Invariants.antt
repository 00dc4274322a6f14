-- `hex::bytes`: the first `i` bytes are spelled.
use Rattle.std.proofs.Common.{◌≡◌, take}
use Rattle.lines.specs.Hex.{bytes_of}
use Rattle.lines.proofs.hex.bytes.Given as goal

abbrev pub invariant-loop-i : goal.invariant-loop-i
invariant-loop-i l = l.bytes.items ≡ take l.i (bytes_of l.word)
