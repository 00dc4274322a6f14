-- `hello::again_flight`: 6, or the flight once more.
use mathlib.Core.Path.{◌≡◌, sym, ◌∙◌, ap}
use native.Mathlib.Omega.{arith}
use Rattle.digest.proofs.Picks.{pick_yes, pick_no}
use Prim.Native.Nat.{◌+◌}
use lib.ListN.{length, take}
use lib.Seq.{length-take-le}
use borrow.Author.Tests.{le-leb, lt-leb}
use Rattle.digest.specs.Mac.{size_of}
use Rattle.digest.specs.Bytes.{laid_over}
use Rattle.record.specs.Written.{written_of}
use Rattle.record.proofs.ProtectedBytes.{size_most}
use Rattle.connection.proofs.Filling.{within}
use Rattle.unit.specs.Unit.{flight_of}
use Rattle.unit.specs.Send.{done_with}
use Rattle.unit.specs.Hello.{said_again}
use Rattle.unit.proofs.Sending.{unwritten}
use borrow.Author.Rules.{rules}
use Rattle.unit.proofs.hello.again_flight.Goals as goal

pub overflow_add-size : goal.overflow_add-size
overflow_add-size c = omega (arith, c.size-size.ensures.exact, size_most c.args.u.protection.keys.mac)

pub returns-then-out-size : goal.returns-then-out-size
unfolding said_again
returns-then-out-size c = let a = c.args in
    let l : length a.u.flight ≡ 44 = search (rules, c.well_formed.0) in
    let size = length-take-le (24 + size_of a.u.protection.keys.mac) a.u.flight (omega (arith, size_most c.args.u.protection.keys.mac)) in
    let none = lt-leb (length (flight_of a.u)) (length a.out.now) (omega (arith, size, c.size-size.ensures.exact)) in
    record { value = pick_no _ _ _ _ _ none c.refused.ensures; out_after = sym (unwritten a.out.now (flight_of a.u) none) }

pub slice_bounds-flight-end : goal.slice_bounds-flight-end
slice_bounds-flight-end c = let l : length c.args.u.flight ≡ 44 = search (rules, c.well_formed.0) in omega (arith, c.size-size.ensures.exact, size_most c.args.u.protection.keys.mac)

pub slice_bounds-put-end : goal.slice_bounds-put-end
slice_bounds-put-end c = let l : length c.args.u.flight ≡ 44 = search (rules, c.well_formed.0) in sym (length-take-le _ c.args.u.flight (omega (arith, c.size-size.ensures.exact, size_most c.args.u.protection.keys.mac)))

pub returns : goal.returns
unfolding said_again written_of
returns c = let a = c.args in
    let l : length a.u.flight ≡ 44 = search (rules, c.well_formed.0) in
    let n = 24 + c.size-size.result in
    let size = length-take-le n a.u.flight (omega (arith, c.size-size.ensures.exact, size_most c.args.u.protection.keys.mac)) in
    let same = ap (λ k. take (24 + k) a.u.flight) c.size-size.ensures.exact in
    let fits = le-leb (length (flight_of a.u)) (length a.out.now) (omega (arith, size, ap length same)) in record { value = pick_yes _ _ _ _ _ fits (c.done.ensures ∙ ap (λ k. done_with k a.u) (sym size ∙ ap length same)); out_after = pick_yes _ _ _ _ _ fits (within a.out.now 0 (take n a.u.flight) c.put.new.d (omega (arith, size)) c.put.ensures.exact ∙ ap (laid_over a.out.now 0) same) }
