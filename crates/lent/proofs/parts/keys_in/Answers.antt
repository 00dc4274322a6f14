-- `parts::keys_in`: each field at its place.
use mathlib.Core.Path.{◌≡◌, ◌∙◌}
use native.Mathlib.Omega.{arith}
use lib.ListN.{length, get_or}
use Rattle.lent.specs.Saved.{keys_of}
use Rattle.lent.proofs.Within.{bytes_stand}
use borrow.Author.Rules.{rules}
use Rattle.lent.proofs.parts.keys_in.Goals as goal

pub returns : goal.returns
unfolding keys_of
returns c = let k = c.args.part in
    let size : length k ≡ 54 = search (rules, c.well_formed.0) in
    λ i. record {
      secret = (c.bytes_within.ensures.exact ∙ bytes_stand k 0 20 (omega (arith, size))) i;
      server = (c.bytes_within-2.ensures.exact ∙ bytes_stand k 20 16 (omega (arith, size))) i;
      client = (c.bytes_within-3.ensures.exact ∙ bytes_stand k 36 16 (omega (arith, size))) i;
      mac = c.mac_numbered.ensures.exact i;
      refresh = get_or k 53 0;
    }
