-- `SentRecords::matches`: what is left to search decides. At most eight are kept.
use mathlib.Core.Path.{◌≡◌, refl, sym, ap, ◌∙◌}
use mathlib.Core.List.{List}
use Prim.Native.Nat.{ℕ, min}
use lib.ListN.{length, take}
use Rattle.connection.specs.Sent.{one_of}
use Rattle.connection.proofs.Recorded.{past_end, match_here, no_match_here, kept_front}
use borrow.Author.Rules.{rules}
use Rattle.connection.proofs.sent.SentRecords.matches.Goals as goal

-- the checksums that are searched are those that are kept
searched : (n k x : ℕ) (l : List ℕ) → length l ≡ 8 → k ≡ min n 8 → one_of x (take k l) ≡ one_of x (take n l)
searched n k x l e is = ap (one_of x) (ap (λ m. take m l) is ∙ kept_front n l e)

pub loop-sum-init : goal.loop-sum-init
loop-sum-init c = refl

pub returns-then-sum-checksum : goal.returns-then-sum-checksum
returns-then-sum-checksum c = let a = c.args in
    sym (sym (searched a.self.count _ a.checksum a.self.checksums (search rules) c.min-kept.ensures)
    ∙ c.loop-sum.invariant ∙ match_here a.checksum c.loop-sum.sum-index _ c.loop-sum-test.true c.if-sum-checksum.true)

pub loop-sum-preserved : goal.loop-sum-preserved
loop-sum-preserved c = c.loop-sum.invariant ∙ no_match_here c.args.checksum c.loop-sum.sum-index _ c.loop-sum-test.true c.if-sum-checksum.false

pub returns : goal.returns
returns c = let a = c.args in
    sym (sym (searched a.self.count _ a.checksum a.self.checksums (search rules) c.min-kept.ensures)
    ∙ c.loop-sum.invariant ∙ past_end a.checksum c.loop-sum.sum-index _ c.loop-sum-test.false)
