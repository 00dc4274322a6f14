-- `hello::greet`: 6, or the hello and its checksum.
use mathlib.Core.Path.{refl, sym, ◌∙◌, ap, ap₂}
use native.Mathlib.Omega.{arith}
use Rattle.digest.proofs.Picks.{pick_yes, pick_no}
use lib.ListN.{length}
use borrow.Author.Tests.{le-leb}
use Rattle.digest.proofs.Lay.{length_laid}
use Rattle.connection.specs.Sent.{sum_of}
use Rattle.unit.specs.Unit.{greeted}
use Rattle.unit.specs.Send.{done_with}
use Rattle.unit.specs.Hello.{hello_datagram, greeted_with}
use Rattle.unit.proofs.Sending.{none_written, some_written}
use Rattle.unit.proofs.Greeting.{datagram_some}
use Rattle.connection.proofs.Sending.{wrote}
use Rattle.unit.proofs.hello.greet.Goals as goal

pub returns-then-size-eq0 : goal.returns-then-size-eq0
unfolding greeted_with
returns-then-size-eq0 c = let a = c.args in
    let d = (hello_datagram c.args.u.id c.args.random c.args.offer) in
    let none = none_written a.out.now d _ (datagram_some a.u.id a.random a.offer) c.say-size.ensures.value (omega arith) in
    record { value = pick_no _ _ _ _ _ none c.refused.ensures; out_after = c.say-size.ensures.out_after }

pub slice_bounds-checksum-end : goal.slice_bounds-checksum-end
slice_bounds-checksum-end c = let d = (hello_datagram c.args.u.id c.args.random c.args.offer) in
    let fits = some_written c.args.out.now d _ c.say-size.ensures.value (λ z. omega arith) in
    let w = wrote c.args.out.now (hello_datagram c.args.u.id c.args.random c.args.offer) (hello_datagram c.args.u.id c.args.random c.args.offer) _ _ refl (some_written c.args.out.now (hello_datagram c.args.u.id c.args.random c.args.offer) _ c.say-size.ensures.value (λ z. omega arith)) c.say-size.ensures.value c.say-size.ensures.out_after in
    omega (arith, w.count, ap length w.bytes_are ∙ length_laid c.args.out.now 0 d (omega (arith, fits)), fits)

pub slice_bounds-checksum-end-2 : goal.slice_bounds-checksum-end-2
slice_bounds-checksum-end-2 c = let w = wrote c.args.out.now (hello_datagram c.args.u.id c.args.random c.args.offer) (hello_datagram c.args.u.id c.args.random c.args.offer) _ _ refl (some_written c.args.out.now (hello_datagram c.args.u.id c.args.random c.args.offer) _ c.say-size.ensures.value (λ z. omega arith)) c.say-size.ensures.value c.say-size.ensures.out_after in
    w.count ∙ sym (ap length w.front)

pub returns : goal.returns
unfolding greeted_with
returns c = let a = c.args in
    let d = (hello_datagram c.args.u.id c.args.random c.args.offer) in
    let fits = some_written a.out.now d _ c.say-size.ensures.value (λ z. omega arith) in
    let w = wrote c.args.out.now (hello_datagram c.args.u.id c.args.random c.args.offer) (hello_datagram c.args.u.id c.args.random c.args.offer) _ _ refl (some_written c.args.out.now (hello_datagram c.args.u.id c.args.random c.args.offer) _ c.say-size.ensures.value (λ z. omega arith)) c.say-size.ensures.value c.say-size.ensures.out_after in
    let sum = c.checksum-last.ensures ∙ ap sum_of w.front in
    record { value = pick_yes _ _ _ _ _ (le-leb (length d) (length a.out.now) fits) (c.done.ensures ∙ ap₂ done_with w.count (c.greeted.ensures ∙ ap (greeted a.u a.random a.offer) sum)); out_after = c.say-size.ensures.out_after }
