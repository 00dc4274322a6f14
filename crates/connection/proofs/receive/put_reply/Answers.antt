-- `receive::put_reply`: as much of the kept reply as the answer sends.
use mathlib.Core.Path.{◌≡◌, sym, ◌∙◌, ap}
use lib.ListN.{length, take}
use lib.Seq.{length-take-le, take_all}
use Rattle.digest.specs.Bytes.{laid_over}
use Rattle.connection.proofs.Filling.{within}
use borrow.Author.Rules.{rules}
use native.Mathlib.Omega.{arith}
use Rattle.connection.proofs.receive.put_reply.Goals as goal

pub returns-then-size-gt84 : goal.returns-then-size-gt84
returns-then-size-gt84 c = let reply = c.args.kept.reply in
    let l : length reply ≡ 84 = search (rules, c.well_formed.0) in
    let all = sym (take_all c.reply_size-size.result reply (omega arith)) ∙ ap (λ n. take n reply) c.reply_size-size.ensures in
    record { value = sym (sym (ap length all) ∙ l); out_after = within c.args.out.now 0 reply c.put.new.d (omega arith) c.put.ensures.exact ∙ ap (laid_over c.args.out.now 0) all }

pub slice_bounds-reply-end : goal.slice_bounds-reply-end
slice_bounds-reply-end c = let l : length c.args.kept.reply ≡ 84 = search (rules, c.well_formed.0) in omega arith

pub slice_bounds-put-end-2 : goal.slice_bounds-put-end-2
slice_bounds-put-end-2 c = let l : length c.args.kept.reply ≡ 84 = search (rules, c.well_formed.0) in sym (length-take-le _ c.args.kept.reply (omega arith))

pub returns : goal.returns
returns c = let reply = c.args.kept.reply in
    let l : length reply ≡ 84 = search (rules, c.well_formed.0) in
    let part = ap (λ n. take n reply) c.reply_size-size.ensures in
    let size = length-take-le c.reply_size-size.result reply (omega arith) in
    record { value = sym size ∙ ap length part; out_after = within c.args.out.now 0 (take c.reply_size-size.result reply) c.put-2.new.d (omega arith) c.put-2.ensures.exact ∙ ap (laid_over c.args.out.now 0) part }
