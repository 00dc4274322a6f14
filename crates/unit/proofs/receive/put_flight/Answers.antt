-- `receive::put_flight`: as much of the flight as is asked for.
use mathlib.Core.Path.{sym, ◌∙◌, ap}
use native.Mathlib.Omega.{arith}
use lib.ListN.{length, take}
use lib.Seq.{length-take-le, take_all}
use Rattle.digest.specs.Bytes.{laid_over}
use Rattle.connection.proofs.Filling.{within}
use Rattle.unit.proofs.receive.put_flight.Goals as goal

pub returns-then-size-gt44 : goal.returns-then-size-gt44
returns-then-size-gt44 c = let flight = c.args.flight in
    let all = sym (take_all c.args.size flight (omega arith)) in
    record { value = sym (sym (ap length all) ∙ omega arith); out_after = within c.args.out.now 0 flight c.put.new.d (omega arith) c.put.ensures.exact ∙ ap (laid_over c.args.out.now 0) all }

pub slice_bounds-put-end-2 : goal.slice_bounds-put-end-2
slice_bounds-put-end-2 c = sym (length-take-le _ c.args.flight (omega arith))

pub returns : goal.returns
returns c = let flight = c.args.flight in
    let size = length-take-le c.args.size flight (omega arith) in
    record { value = sym size; out_after = within c.args.out.now 0 (take c.args.size flight) c.put-2.new.d (omega arith) c.put-2.ensures.exact }
