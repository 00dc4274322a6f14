-- A shift and a mask take each part off.
use Rattle.record.proofs.TypeByte.{parted}
use Rattle.record.proofs.header.KindFromU8.from.Goals as goal

pub returns : goal.returns
returns c = parted c.args.byte
