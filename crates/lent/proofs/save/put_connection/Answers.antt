-- `save::put_connection`: the records sent, then two handshakes, over all the bytes.
use mathlib.Core.Path.{◌≡◌, refl, sym, ◌∙◌, ap}
use mathlib.Core.List.{[], ◌∷◌}
use native.Mathlib.Omega.{arith}
use lib.ListN.{length}
use borrow.Rule.Slice.PartMut.{put_mid}
use Rattle.digest.specs.Bytes.{laid_over}
use Rattle.lent.specs.Saved.{head_fields, sum_fields, saved_handshake, saved_of, loaded, Ranged}
use Rattle.lent.proofs.Laying.{laid_none, laid_block, laid_part, laid_whole, joined_one, part_laid}
use Rattle.lent.proofs.Back.{saved_loads}
use Rattle.lent.proofs.save.put_connection.Goals as goal

pub returns : goal.returns
unfolding saved_of
returns c = let d = c.args.d.now in
    let n = c.args.c in
    let room = c.requires in
    let one = laid_block 0 8 (head_fields n.sent.count) c.put_head.new.d (laid_none d 0 (omega arith)) refl c.put_head.ensures.count_len (omega (arith, room)) c.put_head.ensures.d_after in
    let two = laid_part 8 32 (sum_fields n.sent.checksums) c.words.result c.put.new.d one refl c.words.ensures.exact c.words.ensures.part_len (omega (arith, room)) c.put.ensures.exact in
    let main = saved_handshake n.handshake in
    let main-size : length main ≡ 450 = c.put_handshake.ensures.h_len in
    let main-laid = part_laid c.put.new.d c.put_handshake.new.d 40 450 (ap length c.put_handshake.ensures.d_after ∙ main-size)
    ∙ ap (laid_over c.put.new.d 40) (c.put_handshake.ensures.d_after ∙ sym (joined_one main)) in
    let three = laid_block 40 450 (main ∷ []) (put_mid 40 450 c.put.new.d c.put_handshake.new.d) two refl (ap length (joined_one main) ∙ main-size) (omega (arith, room)) main-laid in
    let beside = saved_handshake n.started in
    let beside-size : length beside ≡ 450 = c.put_handshake-2.ensures.h_len in
    let beside-laid = part_laid (put_mid 40 450 c.put.new.d c.put_handshake.new.d) c.put_handshake-2.new.d 490 450 (ap length c.put_handshake-2.ensures.d_after ∙ beside-size)
    ∙ ap (laid_over (put_mid 40 450 c.put.new.d c.put_handshake.new.d) 490) (c.put_handshake-2.ensures.d_after ∙ sym (joined_one beside)) in
    let four = laid_block 490 450 (beside ∷ []) (put_mid 490 450 (put_mid 40 450 c.put.new.d c.put_handshake.new.d) c.put_handshake-2.new.d) three refl (ap length (joined_one beside) ∙ beside-size) (omega (arith, room)) beside-laid in
    let all = laid_whole four room in
    let ranged : Ranged n
    = record {
      handshake = c.put_handshake.ensures.ranged_handshake;
      started = c.put_handshake-2.ensures.ranged_handshake;
      count = c.put_head.ensures.count_bound;
      sums = c.words.ensures.ranged.0;
      sum = c.words.ensures.ranged.1;
    } in
    record { d_after = all; d_after_2 = ap loaded all ∙ saved_loads n ranged }
