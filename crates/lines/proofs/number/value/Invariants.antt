-- `number::value`: the number spelled so far, with the digits behind, is the number that the word spells.
use Rattle.std.proofs.Common.{◌≡◌, ◌≤◌, drop}
use Rattle.lines.specs.Decimal.{number_from}
use Rattle.lines.proofs.number.value.Given as goal

abbrev pub invariant-loop-b : goal.invariant-loop-b
invariant-loop-b l = (l.n ≤ 999999999) × (number_from l.n (drop l.b-index l.word) ≡ number_from 0 l.word)
