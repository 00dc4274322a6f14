-- `load::open_window`: the window in the bytes of that handshake.
use mathlib.Core.Path.{◌∙◌, ap}
use native.Mathlib.Omega.{arith}
use Rattle.lent.specs.Fields.{bytes_in}
use Rattle.lent.specs.Saved.{handshake_in, protection_in, window_of}
use Rattle.lent.proofs.PartsOf.{window_parts}
use Rattle.lent.proofs.Reading.{part_length}
use Rattle.lent.proofs.Within.{bytes_stand}
use Rattle.lent.proofs.load.open_window.Goals as goal

pub returns : goal.returns
unfolding handshake_in protection_in
returns c = let s = bytes_in c.args.b.now 40 450 in
    c.window_in.ensures.exact
    ∙ ap window_of (c.bytes_within.ensures.exact ∙ bytes_stand s 431 11 (omega (arith, c.requires, part_length c.args.b.now 40 450 (omega (arith, c.requires)))))
    ∙ window_parts s
