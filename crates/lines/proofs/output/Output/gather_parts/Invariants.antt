-- `gather_parts` ends, since each turn gathers some bytes, and what is done is in the writer.
use Rattle.std.proofs.Common.{◌≡◌, ◌-◌, ◌≤◌, length, take, false}
use Rattle.std.specs.Io.KnownBytes.{Appends, append_known}
use Rattle.lines.proofs.output.Output.gather_parts.Given as goal

abbrev pub invariant-loop-done : goal.invariant-loop-done
invariant-loop-done g l = (l.done ≤ length l.bytes) × (l.self.has_lost ≡ false → l.initial.self.has_lost ≡ false)
    × (l.self.has_lost ≡ false → Appends (append_known (g.W.Write.contents l.initial.self.to) l.initial.self.text.items) (append_known (g.W.Write.contents l.self.to) l.self.text.items) (take l.done l.bytes))

abbrev pub decreases-loop-done : goal.decreases-loop-done
decreases-loop-done g l = length l.bytes - l.done
