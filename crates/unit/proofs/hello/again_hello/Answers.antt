-- `hello::again_hello`: 6, or the hello once more.
use mathlib.Core.Path.{refl, ◌∙◌, ap}
use native.Mathlib.Omega.{arith}
use Rattle.digest.proofs.Picks.{pick_yes, pick_no}
use lib.ListN.{length}
use borrow.Author.Tests.{le-leb}
use Rattle.unit.specs.Send.{done_with}
use Rattle.unit.specs.Hello.{hello_datagram, said_again}
use Rattle.unit.proofs.Sending.{none_written, some_written}
use Rattle.unit.proofs.Greeting.{datagram_some}
use Rattle.connection.proofs.Sending.{wrote}
use Rattle.unit.proofs.hello.again_hello.Goals as goal

pub returns-then-size-eq0 : goal.returns-then-size-eq0
unfolding said_again
returns-then-size-eq0 c = let a = c.args in
    let none = none_written a.out.now (hello_datagram c.args.u.id c.args.u.protection.keys.client c.args.u.offer) _ (datagram_some a.u.id a.u.protection.keys.client a.u.offer) c.say-size.ensures.value (omega arith) in
    record { value = pick_no _ _ _ _ _ none c.refused.ensures; out_after = c.say-size.ensures.out_after }

pub returns : goal.returns
unfolding said_again
returns c = let a = c.args in
    let d = (hello_datagram c.args.u.id c.args.u.protection.keys.client c.args.u.offer) in
    let fits = some_written a.out.now d _ c.say-size.ensures.value (λ z. omega arith) in
    let w = wrote a.out.now d d _ _ refl fits c.say-size.ensures.value c.say-size.ensures.out_after in
    record { value = pick_yes _ _ _ _ _ (le-leb (length d) (length a.out.now) fits) (c.done.ensures ∙ ap (λ n. done_with n a.u) w.count); out_after = c.say-size.ensures.out_after }
