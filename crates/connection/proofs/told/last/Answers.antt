-- `told::last`: what stands behind the first 46 bytes, up to the size.
use mathlib.Core.Path.{◌≡◌, sym, ◌∙◌, ap}
use Prim.Native.Nat.{◌-◌}
use lib.ListN.{take, drop, length-drop}
use lib.Seq.{take_all}
use native.Mathlib.Omega.{arith}
use Rattle.connection.specs.Sent.{sum_of}
use Rattle.connection.proofs.told.last.Goals as goal

pub returns-then-size-lt46 : goal.returns-then-size-lt46
returns-then-size-lt46 c = let none : 46 - 46 ≡ c.args.size - 46 = omega arith in
    c.checksum.ensures ∙ ap (λ n. sum_of (take n (drop 46 c.args.reply))) none

pub returns-then-size-gt84 : goal.returns-then-size-gt84
returns-then-size-gt84 c = let a = c.args in
    let behind = drop 46 a.reply in
    let all : take (84 - 46) behind ≡ behind = take_all (84 - 46) behind (omega (arith, c.requires, length-drop 46 a.reply)) in
    let more : take (a.size - 46) behind ≡ behind = take_all (a.size - 46) behind (omega (arith, c.requires, length-drop 46 a.reply)) in
    c.checksum-then-size-gt84.ensures ∙ ap sum_of (all ∙ sym more)
