-- `Mac::cut`: the part is as long as the kind says, or the whole.
use Rattle.digest.specs.Mac.{size_of}
use Rattle.std.proofs.Common.{take, sym, ap, arith, length-take-le, take_all}
use Rattle.digest.proofs.mac.Mac.cut.Goals as goal

pub slice_bounds-result-end : goal.slice_bounds-result-end
slice_bounds-result-end c = sym (length-take-le _ _ (omega arith))

pub returns-then-n-code : goal.returns-then-n-code
returns-then-n-code c = record { exact = ap (λ n. take n c.args.code.now) c.size-n.ensures.exact }

pub returns-else-n-code : goal.returns-else-n-code
returns-else-n-code c = record {
  exact = let args = c.args in
      sym (take_all (size_of args.self) args.code.now (omega (arith, c.size-n.ensures.exact)));
}
