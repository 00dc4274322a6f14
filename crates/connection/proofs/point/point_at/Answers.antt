-- `point::point_at`: 16 for the random, the framing, then the record.
use mathlib.Core.Path.{sym, ◌∙◌, ap}
use lib.ListN.{length, take}
use native.Mathlib.Omega.{arith}
use Rattle.digest.proofs.Picks.{if_eq, if_ne}
use Rattle.connection.specs.Point.{point_of, point_among}
use Rattle.connection.proofs.Filling.{filled_whole}
use Rattle.connection.proofs.Running.{walk_sound, walk_refused}
use Rattle.connection.proofs.Pointing.{nowhere_inside}
use Rattle.connection.proofs.point.point_at.Goals as goal

pub returns-then-random-ne16 : goal.returns-then-random-ne16
unfolding point_of
returns-then-random-ne16 c = let args = c.args in
    let random = args.random.now in
    record { exact = if_ne _ (length random) 16 (λ z. omega arith) c.nowhere.ensures; inside = nowhere_inside args.c _ _ args.datagram.now c.nowhere.ensures }

pub among-requires : goal.among-requires
among-requires c = let args = c.args in
    let w = c.in-Ok.walk in
    let ours = filled_whole 16 args.random.now c.put.new.d c.if-random-ne16.false c.put.ensures.exact in
    (ap length ours ∙ c.if-random-ne16.false, sym c.walked.ensures ∙ c.in-Ok.is)

pub returns-in-Err : goal.returns-in-Err
unfolding point_of
returns-in-Err c = let args = c.args in
    let random = args.random.now in
    let faulty = walk_refused args.datagram.now _ (sym c.walked.ensures ∙ c.in-Err.is) in
    record { exact = rw faulty (if_eq _ (length random) 16 (omega arith) c.nowhere-in-Err.ensures); inside = nowhere_inside args.c _ _ args.datagram.now c.nowhere-in-Err.ensures }

pub returns-in-Ok : goal.returns-in-Ok
unfolding point_of
returns-in-Ok c = let args = c.args in
    let random = args.random.now in
    let d = args.datagram.now in
    let w = c.in-Ok.walk in
    let rs = take w.count w.records in
    let ours = filled_whole 16 args.random.now c.put.new.d c.if-random-ne16.false c.put.ensures.exact in
    let is = c.among.ensures.value ∙ ap (λ x. point_among args.c x d rs args.index) ours in
    record { exact = rw (walk_sound d w (sym c.walked.ensures ∙ c.in-Ok.is)) (if_eq _ (length random) 16 (omega arith) is); inside = c.among.ensures.size_in_bounds }
