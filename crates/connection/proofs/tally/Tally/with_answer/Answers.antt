-- `Tally::with_answer`: one count more, or none.
use Rattle.connection.proofs.tally.Tally.with_answer.Goals as goal

pub returns-in-Data : goal.returns-in-Data
returns-in-Data c = rw c.in-Data.is (let t = c.args.self in λ i. record { handed = c.more.ensures i; forged = t.forged; old = t.old; repeated = t.repeated })

pub returns-in-Refused : goal.returns-in-Refused
returns-in-Refused c = rw c.in-Refused.is c.with_refusal.ensures
