-- `pieces::topped`: with nothing waiting no block is topped; else the block is the front of what waits and of s.
use Rattle.std.proofs.Common.{◌≡◌, ◌-◌, length, sym, ◌∙◌, arith, length-take-le}
use Rattle.digest.proofs.Absorb.{absorb_block}
use Rattle.digest.proofs.Hashing.{topped_alone, none_topped}
use Rattle.digest.proofs.pieces.topped.Goals as goal

pub returns-then-fill-eq0 : goal.returns-then-fill-eq0
returns-then-fill-eq0 c = none_topped _ c.args.fill c.args.h c.if-fill-eq0.true

pub slice_bounds-lay-length : goal.slice_bounds-lay-length
slice_bounds-lay-length c = sym (length-take-le _ _ (omega arith))

pub lay-requires : goal.lay-requires
lay-requires c = let front = length-take-le (64 - c.args.fill) c.args.s.now (omega arith) in omega arith

pub returns : goal.returns
returns c = let args = c.args in
    let long : length c.lay.new.d ≡ 64 = omega (arith, c.lay.auto.d) in
    topped_alone args.rest args.s.now c.lay.new.d args.fill args.h c.absorbed.result
    (omega arith) (omega arith) c.if-fill-eq0.false (omega arith) c.lay.ensures long (c.absorbed.ensures ∙ absorb_block c.lay.new.d args.h long)
