-- `Tally::with_refusal`: one count more, or none.
use Rattle.connection.proofs.tally.Tally.with_refusal.Goals as goal

pub returns-in-Forged : goal.returns-in-Forged
returns-in-Forged c = rw c.in-Forged.is (let t = c.args.self in λ i. record { handed = t.handed; forged = c.more.ensures i; old = t.old; repeated = t.repeated })

pub returns-in-TooOld : goal.returns-in-TooOld
returns-in-TooOld c = rw c.in-TooOld.is (let t = c.args.self in λ i. record { handed = t.handed; forged = t.forged; old = c.more-in-TooOld.ensures i; repeated = t.repeated })

pub returns-in-Repeated : goal.returns-in-Repeated
returns-in-Repeated c = rw c.in-Repeated.is (let t = c.args.self in λ i. record { handed = t.handed; forged = t.forged; old = t.old; repeated = c.more-in-Repeated.ensures i })
