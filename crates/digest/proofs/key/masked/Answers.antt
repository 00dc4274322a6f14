-- `key::masked`: the bytes so far are masked, and the others as they were.
use Rattle.std.proofs.Common.{◌≡◌, ◌+◌, set, take, refl, ap, ◌∙◌, arith, length-set, get_or-set_other}
use lib.Bits.{bit_xor}
use Rattle.digest.specs.Hmac as Hmac
use Rattle.digest.proofs.Codes.{masked_more, masked_whole}
use Rattle.digest.proofs.key.masked.Goals as goal

pub loop-byte-init : goal.loop-byte-init
unfolding Hmac.masked
loop-byte-init c = (c.requires, refl, λ k h. refl)

pub loop-byte-preserved : goal.loop-byte-preserved
loop-byte-preserved c = let at = c.loop-byte in
    let d = at.byte-items in
    let i = at.byte-index in
    let x = c.args.x in
    let here = at.invariant.2 i (omega arith) in (
      length-set d i _ ∙ at.invariant.0,
      ap (λ v. take (i + 1) (set d i (bit_xor v x))) here ∙ masked_more x c.args.block d i (omega arith) (omega arith) at.invariant.1,
      λ k h. get_or-set_other d i k _ 0 (λ e. omega arith) ∙ at.invariant.2 k (omega arith),
    )

pub returns : goal.returns
returns c = let at = c.loop-byte in
    let last : at.byte-index ≡ 64 = omega arith in
    masked_whole _ 64 _ at.byte-items c.requires at.invariant.0 (rw last at at.invariant.1)
