-- `calls::fresh`: the two lengths and the width, in the definition's order.
use mathlib.Core.Path.{◌∙◌, ap}
use native.Mathlib.Omega.{arith}
use Rattle.digest.proofs.Picks.{if_eq, if_ne, if_lt, if_ge}
use lib.ListN.{length}
use Rattle.unit.specs.Calls.{leaving, fresh_of}
use Rattle.connection.specs.declared.refusal.Refusal.TheVariants.{Argument}
use Rattle.unit.proofs.calls.fresh.Goals as goal
use Rattle.std.specs.Prelude.{Err, Ok}

pub returns-then-id-ne8 : goal.returns-then-id-ne8
unfolding fresh_of
returns-then-id-ne8 c = if_ne _ (length c.args.id.now) 8 (λ z. omega arith) (c.leave.ensures ∙ ap (leaving (Err Argument)) c.blank.ensures)

pub returns-then-secret-ne20 : goal.returns-then-secret-ne20
unfolding fresh_of
returns-then-secret-ne20 c = if_eq _ (length c.args.id.now) 8 (omega arith) (if_ne _ (length c.args.secret.now) 20 (λ z. omega arith) (c.leave-then-secret-ne20.ensures ∙ ap (leaving (Err Argument)) c.blank-then-secret-ne20.ensures))

pub returns-then-width-lt32 : goal.returns-then-width-lt32
unfolding fresh_of
returns-then-width-lt32 c = if_eq _ (length c.args.id.now) 8 (omega arith) (if_eq _ (length c.args.secret.now) 20 (omega arith) (if_lt _ c.args.width 32 (omega arith) (c.leave-then-width-lt32.ensures ∙ ap (leaving (Err Argument)) c.blank-then-width-lt32.ensures)))

pub returns-then-width-gt64 : goal.returns-then-width-gt64
unfolding fresh_of
returns-then-width-gt64 c = if_eq _ (length c.args.id.now) 8 (omega arith) (if_eq _ (length c.args.secret.now) 20 (omega arith) (if_ge _ c.args.width 32 (omega arith) (if_lt _ 64 c.args.width (omega arith) (c.leave-then-width-gt64.ensures ∙ ap (leaving (Err Argument)) c.blank-then-width-gt64.ensures))))

pub returns : goal.returns
unfolding fresh_of
returns c = if_eq _ (length c.args.id.now) 8 (omega arith) (if_eq _ (length c.args.secret.now) 20 (omega arith) (if_ge _ c.args.width 32 (omega arith) (if_ge _ 64 c.args.width (omega arith) (c.leave-2.ensures ∙ ap (leaving (Ok tt)) c.planted.ensures))))
