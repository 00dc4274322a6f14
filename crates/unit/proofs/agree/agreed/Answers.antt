-- `agree::agreed`: the parts, put together.
use mathlib.Core.Path.{◌≡◌, sym, ap}
use native.Mathlib.Omega.{arith}
use lib.ListN.{length}
use lib.Seq.{length-take-le}
use Rattle.unit.specs.declared.agree.Message.{Message}
use Rattle.unit.proofs.Greeting.{front_of}
use Rattle.unit.proofs.Agreeing.{agreed_by}
use borrow.Author.Rules.{rules}
use Rattle.unit.proofs.agree.agreed.Goals as goal

pub message_in-said-requires : goal.message_in-said-requires
message_in-said-requires c = (search (rules, c.well_formed.0), search (rules, c.well_formed.0.1.1.1.1.1.1.1.1.0))

pub slice_bounds-server_verify-end : goal.slice_bounds-server_verify-end
slice_bounds-server_verify-end c = search (rules, c.well_formed.0.1.1.1.1.1.1.1.1.0)

pub slice_bounds-bytes-end : goal.slice_bounds-bytes-end
slice_bounds-bytes-end c = let l : length c.message_in-said.result.bytes ≡ 42 = search (rules, c.message_in-said.type_inv) in omega (arith, c.message_in-said.ensures.size_bound)

pub slice_bounds-server_verify-end-2 : goal.slice_bounds-server_verify-end-2
slice_bounds-server_verify-end-2 c = let l : length c.message_in-said.result.bytes ≡ 42 = search (rules, c.message_in-said.type_inv) in sym (length-take-le _ c.message_in-said.result.bytes (omega (arith, c.message_in-said.ensures.size_bound)))

pub slice_bounds-client_verify-end : goal.slice_bounds-client_verify-end
slice_bounds-client_verify-end c = search (rules, c.well_formed.0.1.1.1.1.1.1.1.1.0)

pub slice_bounds-bytes-end-2 : goal.slice_bounds-bytes-end-2
slice_bounds-bytes-end-2 c = let l : length c.message_in-said.result.bytes ≡ 42 = search (rules, c.message_in-said.type_inv) in omega (arith, c.message_in-said.ensures.size_bound)

pub slice_bounds-client_verify-end-2 : goal.slice_bounds-client_verify-end-2
slice_bounds-client_verify-end-2 c = let l : length c.message_in-said.result.bytes ≡ 42 = search (rules, c.message_in-said.type_inv) in sym (length-take-le _ c.message_in-said.result.bytes (omega (arith, c.message_in-said.ensures.size_bound)))

pub returns : goal.returns
returns c = let a = c.args in
    let said = front_of 42 _ c.message_in-said.result.bytes c.message_in-said.result.size (ap (λ (x : Message). x.bytes) c.message_in-said.ensures.value) (ap (λ (x : Message). x.size) c.message_in-said.ensures.value) in
    agreed_by a.u a.m.now a.plan _ _ _ _ _ _ _ said
    c.server_verify-expected.ensures c.message-theirs.ensures c.client_verify.ensures c.message-ours.ensures c.server_random.ensures c.flown.ensures
