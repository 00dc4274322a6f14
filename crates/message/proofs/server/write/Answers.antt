-- `message::server::write` meets its contract: the pieces are put one after the other where the sizes are right and there
-- is room, and else nothing is. Assumes nothing.
use native.Mathlib.Omega.{arith}
use mathlib.Core.Path.{sym, ap}
use mathlib.Core.List.{[], ◌∷◌}
use lib.ListN.{length}
use Rattle.message.specs.Server.{server_hello_of, reply_of}
use Rattle.message.proofs.Buffers.{wrote_none, wrote_no_room, wrote_all, puts_as}
use Rattle.message.proofs.Replies.{reply_random, reply_session, reply_hello, length_server, put_server}
use Rattle.message.proofs.server.write.Goals as goal

pub returns-then-random-ne16 : goal.returns-then-random-ne16
returns-then-random-ne16 c = let both = let a = c.args in
    wrote_none a.out.now (reply_of a.random.now a.session.now a.plan) (ap length (reply_random a.random.now a.session.now a.plan c.if-random-ne16.true)) in record { value = both.0; out_after = both.1 }

pub returns-then-session-gt8 : goal.returns-then-session-gt8
returns-then-session-gt8 c = let both = let a = c.args in
    wrote_none a.out.now (reply_of a.random.now a.session.now a.plan)
    (ap length (reply_session a.random.now a.session.now a.plan c.if-random-ne16.false c.if-session-gt8.true)) in record { value = both.0; out_after = both.1 }

pub returns-then-out-session : goal.returns-then-out-session
returns-then-out-session c = let both = let a = c.args in
    let e = reply_hello a.random.now a.session.now a.plan c.if-random-ne16.false c.if-session-gt8.false in
    wrote_no_room a.out.now (reply_of a.random.now a.session.now a.plan)
    (omega (arith, ap length e, length_server a.random.now a.session.now a.plan)) in record { value = both.0; out_after = both.1 }

pub returns : goal.returns
returns c = let both = let a = c.args in
    let h = c.if-random-ne16.false in
    let k = c.if-session-gt8.false in
    let e = reply_hello a.random.now a.session.now a.plan h k in
    let l = length_server a.random.now a.session.now a.plan in
    wrote_all a.out.now (reply_of a.random.now a.session.now a.plan) _ _
    (omega (arith, ap length e, l, h, c.if-out-session.false))
    (puts_as (server_hello_of a.random.now a.session.now a.plan) _ _ _ _ _ (sym e)
    (put_server a.random.now a.session.now a.plan h k _ _ _ _ _ _ _ _ _
    c.put-at.ensures
    c.put-at-2.ensures
    (c.put_short-at.ensures (omega (arith, k)))
    (puts_as _ _ _ _ _ _
    (λ i. a.plan.key ∷ 0 ∷ c.number.ensures.exact i ∷ 0 ∷ 2 ∷ a.plan.refresh ∷ [])
    c.put.ensures))) in record { value = both.0; out_after = both.1 }
