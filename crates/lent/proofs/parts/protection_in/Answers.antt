-- `parts::protection_in`: the keys, the window and two numbers.
use mathlib.Core.Path.{◌≡◌, ◌∙◌, ap}
use native.Mathlib.Omega.{arith}
use lib.ListN.{length}
use Rattle.lent.specs.Saved.{window_of, protection_of}
use Rattle.lent.proofs.Within.{bytes_stand, four_stands}
use borrow.Author.Rules.{rules}
use Rattle.lent.proofs.parts.protection_in.Goals as goal

pub returns : goal.returns
unfolding protection_of
returns c = let s = c.args.standing in
    let size : length s ≡ 19 = search (rules, c.well_formed.1.0) in
    record {
      exact = λ i. record {
        keys = c.keys_in.ensures i;
        window = (c.window_in.ensures.exact ∙ ap window_of (c.bytes_within.ensures.exact ∙ bytes_stand s 0 11 (omega (arith, size)))) i;
        protected = (c.four_within.ensures.exact ∙ four_stands s 11 (omega (arith, size))) i;
        clear = (c.four_within-2.ensures.exact ∙ four_stands s 15 (omega (arith, size))) i;
      };
    }
