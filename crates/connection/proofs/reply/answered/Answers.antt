-- `reply::answered`: the parts, put together.
use Prim.Native.Nat.{◌+◌}
use mathlib.Core.Path.{◌≡◌, sym, ◌∙◌, ap}
use lib.ListN.{length}
use Rattle.record.proofs.ProtectedBytes.{size_most}
use Rattle.connection.proofs.Replying.{answered_by, reply_size_lem}
use Rattle.connection.specs.Handshake.{planted}
use borrow.Author.Rules.{rules}
use native.Mathlib.Omega.{arith}
use Rattle.connection.proofs.reply.answered.Goals as goal

pub slice_bounds-server_verify-end : goal.slice_bounds-server_verify-end
slice_bounds-server_verify-end c = search (rules, c.well_formed.0.1.1.1.1.1.1.0)

pub slice_bounds-client_verify-end : goal.slice_bounds-client_verify-end
slice_bounds-client_verify-end c = search (rules, c.well_formed.0.1.1.1.1.1.1.0)

pub kept_hello-requires : goal.kept_hello-requires
kept_hello-requires c = c.requires.1.1

pub overflow_add-result : goal.overflow_add-result
overflow_add-result c = omega (arith, c.size.ensures.exact, size_most c.args.plan.mac)

pub returns : goal.returns
returns c = let args = c.args in
    let id_size : length args.h.id ≡ 8 = search (rules, c.well_formed.0) in
    answered_by args.h args.random args.m.now args.plan _ _ _ _ _ _ _ _
    c.client_random-client.ensures c.server_hello-hello.ensures c.server_verify.ensures c.message-ours.ensures c.client_verify-expected.ensures
    c.flown-reply.ensures c.kept_hello.ensures
    (ap (λ n. 64 + n) c.size.ensures.exact ∙ sym (reply_size_lem (planted args.h) args.random args.m.now args.plan c.requires.0 id_size))
