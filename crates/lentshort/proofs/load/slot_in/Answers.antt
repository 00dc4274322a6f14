-- `load::slot_in`: two bytes and eleven sizes.
use mathlib.Core.Path.{ap}
use Rattle.std.proofs.Common.{rules, tests, ◌+◌}
use lib.ListN.{get_or}
use Rattle.digest.specs.Bytes.{bytes2}
use Rattle.lent.specs.Fields.{two_in}
use Rattle.lentshort.specs.Saved.{slot_in}
use Rattle.lentshort.proofs.Rows.{row_made}
use Rattle.lentshort.proofs.Spelling.{Small}
use Rattle.lentshort.proofs.load.slot_in.Goals as goal

pub returns : goal.returns
unfolding slot_in
returns c =
    let b = c.args.b.now in
    let at = c.args.at in
    ap (λ sizes. record { reference = get_or b at 0; total = get_or b (at + 1) 0; sizes = sizes })
    (row_made 0 two_in bytes2 Small 2 11 b (at + 2) c.from_fn.ensures.items (λ k y q w. search (rules, tests)))
