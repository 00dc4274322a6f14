-- `agree::message_in`: the hello in a room that is large enough.
use native.Mathlib.Omega.{arith}
use Rattle.unit.proofs.Greeting.{message_is, hello_most}
use Rattle.unit.proofs.agree.message_in.Goals as goal

pub returns : goal.returns
returns c = let a = c.args in
    let m = message_is a.random a.id a.offer _ _ (omega arith) (omega arith) c.write-size.ensures.value c.write-size.ensures.out_after in
    record { value = (λ i. record { bytes = m.0 i; size = m.1 i }); size_bound = omega (arith, m.1, hello_most a.random a.id a.offer (omega arith) (omega arith)) }
