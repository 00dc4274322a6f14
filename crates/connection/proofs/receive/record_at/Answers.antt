-- `receive::record_at`: what is read there.
use Prim.Native.Nat.{◌-◌}
use mathlib.Core.Path.{sym, ◌∙◌, ap}
use lib.ListN.{length, drop, length-drop}
use lib.Seq.{take_all}
use native.Mathlib.Omega.{arith}
use Rattle.record.specs.Reader.{read_of}
use Rattle.connection.specs.Later.{record_in}
use Rattle.connection.proofs.receive.record_at.Goals as goal

pub returns-in-Err : goal.returns-in-Err
returns-in-Err c = let a = c.args in
    let all = take_all (length a.d.now - a.at) (drop a.at a.d.now) (omega (arith, length-drop a.at a.d.now)) in
    sym (ap (record_in a.at) (ap read_of (sym all) ∙ sym c.read.ensures ∙ c.in-Err.is))

pub returns-in-Ok : goal.returns-in-Ok
returns-in-Ok c = let a = c.args in
    let all = take_all (length a.d.now - a.at) (drop a.at a.d.now) (omega (arith, length-drop a.at a.d.now)) in
    sym (ap (record_in a.at) (ap read_of (sym all) ∙ sym c.read.ensures ∙ c.in-Ok.is))
