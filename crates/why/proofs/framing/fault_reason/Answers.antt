-- `framing::fault_reason`: by the part of the datagram where the record begins.
use mathlib.Core.Path.{sym, ◌∙◌, ap}
use native.Mathlib.Omega.{arith}
use Prim.Native.Nat.{◌-◌}
use lib.ListN.{length, drop, length-drop, drop_of_length-le}
use lib.Seq.{take_all}
use Rattle.why.specs.Framing.{fault_reason, fault_at}
use Rattle.why.proofs.framing.fault_reason.Goals as goal

pub returns-then-d-at : goal.returns-then-d-at
unfolding fault_reason
returns-then-d-at c = let args = c.args in
    let d = args.d.now in
    c.of_part.ensures ∙ ap (λ s. fault_at d args.at s args.fault) (sym (drop_of_length-le d {i = args.at} (omega arith)))

pub returns : goal.returns
unfolding fault_reason
returns c = let args = c.args in
    let d = args.d.now in
    c.of_part-2.ensures ∙ ap (λ s. fault_at d args.at s args.fault) (take_all (length d - args.at) (drop args.at d) (omega (arith, length-drop args.at d)))
