-- `greet::same_hello`: against the kept bytes, or all of the array.
use mathlib.Core.Path.{◌≡◌, sym, ◌∙◌, ap}
use lib.ListN.{length}
use lib.Seq.{length-take-le, take_all}
use Rattle.digest.specs.Mac.{same_bytes}
use borrow.Author.Rules.{rules}
use native.Mathlib.Omega.{arith}
use Rattle.connection.proofs.clear.same_hello.Goals as goal

pub returns-then-heard-gt256 : goal.returns-then-heard-gt256
returns-then-heard-gt256 c = let l : length c.args.kept.hello ≡ 256 = search rules in
    c.same_code.ensures.exact ∙ ap (same_bytes c.args.m.now) (sym (take_all c.args.kept.heard c.args.kept.hello (omega arith)))

pub slice_bounds-hello-end : goal.slice_bounds-hello-end
slice_bounds-hello-end c = let l : length c.args.kept.hello ≡ 256 = search rules in omega arith

pub slice_bounds-same_code-end-2 : goal.slice_bounds-same_code-end-2
slice_bounds-same_code-end-2 c = let l : length c.args.kept.hello ≡ 256 = search rules in sym (length-take-le _ c.args.kept.hello (omega arith))
