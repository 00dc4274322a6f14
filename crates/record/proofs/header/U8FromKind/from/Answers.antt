-- Each part is moved to its bits, and the bits add up.
use Rattle.record.proofs.TypeByte.{joined}
use Rattle.record.proofs.header.U8FromKind.from.Goals as goal

pub returns : goal.returns
returns c = let k = c.args.kind in
    joined k.long k.numbered k.protected k.reserved k.content
