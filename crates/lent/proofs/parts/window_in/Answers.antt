-- `parts::window_in`: a byte and two numbers.
use mathlib.Core.Path.{◌≡◌, ◌∙◌}
use native.Mathlib.Omega.{arith}
use lib.ListN.{length, get_or}
use Rattle.lent.specs.Saved.{window_of}
use Rattle.lent.proofs.Within.{two_stands, eight_stands}
use borrow.Author.Rules.{rules}
use Rattle.lent.proofs.parts.window_in.Goals as goal

pub returns : goal.returns
unfolding window_of
returns c = let w = c.args.part in
    let size : length w ≡ 11 = search (rules, c.well_formed.0) in
    record {
      exact = λ i. record {
        width = get_or w 0 0;
        highest = (c.two_within.ensures.exact ∙ two_stands w 1 (omega (arith, size))) i;
        marks = (c.eight_within.ensures.exact ∙ eight_stands w 3 (omega (arith, size))) i;
      };
    }
