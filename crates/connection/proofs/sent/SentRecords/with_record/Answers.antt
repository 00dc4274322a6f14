-- `SentRecords::with_record`: the new one in front of the first seven.
use mathlib.Core.Path.{◌≡◌, refl}
use Prim.Native.Nat.{ℕ, ◌+◌}
use lib.ListN.{length}
use lib.Dec.{ltb}
use Rattle.digest.proofs.Picks.{pick_yes, pick_no}
use Rattle.connection.proofs.Recorded.{one_more}
use borrow.Author.Rules.{rules}
use borrow.Author.Tests.{lt-ltb, le-ltb}
use native.Mathlib.Omega.{arith}
use Rattle.connection.proofs.sent.SentRecords.with_record.Goals as goal

pub returns-then-self-lt-KEPT : goal.returns-then-self-lt-KEPT
returns-then-self-lt-KEPT c = let a = c.args in
    let size : length a.self.checksums ≡ 8 = search rules in
    one_more a.self a.checksum (a.self.count + 1) size
    (pick_yes ℕ (a.self.count + 1) (a.self.count + 1) 8 (ltb a.self.count 8) (lt-ltb a.self.count 8 (omega arith)) refl)

pub returns : goal.returns
returns c = let a = c.args in
    let size : length a.self.checksums ≡ 8 = search rules in
    one_more a.self a.checksum 8 size
    (pick_no ℕ 8 (a.self.count + 1) 8 (ltb a.self.count 8) (le-ltb a.self.count 8 (omega arith)) refl)
