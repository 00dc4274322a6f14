-- `hex::digits`: the first bytes are shown, in two digits each.
use Rattle.std.proofs.Common.{◌≡◌, ◌*◌, length, take}
use Rattle.lines.specs.Shown.{hex_of}
use Rattle.lines.proofs.hex.digits.Given as goal

abbrev pub invariant-loop-b : goal.invariant-loop-b
invariant-loop-b l = (l.digits.items ≡ hex_of (take l.b-index l.piece)) × (length l.digits.items ≡ 2 * l.b-index)
