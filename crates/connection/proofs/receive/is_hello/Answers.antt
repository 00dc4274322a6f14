-- `receive::is_hello`: by what the record is.
use Prim.Native.Nat.{◌+◌, ◌-◌}
use mathlib.Core.Path.{◌≡◌, ◌∙◌, ap}
use lib.ListN.{take, drop, get_or}
use native.Mathlib.Omega.{arith}
use Rattle.connection.specs.State.{kind_of}
use Rattle.connection.specs.Later.{is_hello}
use Rattle.connection.proofs.receive.is_hello.Goals as goal

pub returns : goal.returns
returns c = let a = c.args in
    let at = a.r.start + a.r.head in
    let back : at + a.r.size - at ≡ a.r.size = omega arith in
    c.hello_kind.ensures ∙ ap is_hello (c.kind_of.ensures ∙ ap (λ n. kind_of a.r.content a.r.protected (get_or (take n (drop at a.d.now)) 0 0)) back)
