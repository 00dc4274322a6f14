-- `hello::say`: the hello in a clear record without a length.
use mathlib.Core.Path.{◌≡◌, sym, ◌∙◌, ap}
use native.Mathlib.Omega.{arith}
use lib.ListN.{length}
use lib.Seq.{length-take-le}
use Rattle.record.specs.Written.{record_of, count_of, written_of}
use Rattle.record.specs.declared.header.Content.TheVariants as C
use mathlib.Core.Bool.{false}
use Rattle.unit.specs.declared.agree.Message.{Message}
use Rattle.unit.specs.Hello.{hello_datagram}
use Rattle.unit.proofs.Greeting.{front_of}
use borrow.Author.Rules.{rules}
use Rattle.unit.proofs.hello.say.Goals as goal

pub slice_bounds-bytes-end : goal.slice_bounds-bytes-end
slice_bounds-bytes-end c = let l : length c.message_in-said.result.bytes ≡ 42 = search (rules, c.message_in-said.type_inv) in omega (arith, c.message_in-said.ensures.size_bound)

pub slice_bounds-write_clear-end : goal.slice_bounds-write_clear-end
slice_bounds-write_clear-end c = let l : length c.message_in-said.result.bytes ≡ 42 = search (rules, c.message_in-said.type_inv) in sym (length-take-le _ c.message_in-said.result.bytes (omega (arith, c.message_in-said.ensures.size_bound)))

pub returns : goal.returns
unfolding hello_datagram
returns c = let said = ap (record_of false false C.Handshake 0) (front_of 42 _ c.message_in-said.result.bytes c.message_in-said.result.size (ap (λ (x : Message). x.bytes) c.message_in-said.ensures.value) (ap (λ (x : Message). x.size) c.message_in-said.ensures.value)) in
    record { value = c.write_clear.ensures.count ∙ ap (count_of c.args.out.now) said; out_after = c.write_clear.ensures.bytes ∙ ap (written_of c.args.out.now) said }
