-- `bytes::two_within`: the bytes that are read spell the number, and zeros spell 0.
use Rattle.lent.proofs.Within.{two_read}
use Rattle.lent.proofs.bytes.two_within.Goals as goal

pub returns : goal.returns
returns c = record { exact = two_read c.args.b.now c.args.at _ _ c.bytes_within.ensures.exact c.from_be_bytes.ensures }
