-- `save::put_handshake`: group behind group, over all the bytes.
use mathlib.Core.Path.{refl, sym, ◌∙◌, ap}
use mathlib.Core.List.{[], ◌∷◌, ◌++◌}
use native.Mathlib.Omega.{arith}
use lib.ListN.{length}
use Rattle.lent.specs.Fields.{joined}
use Rattle.lent.specs.Saved.{session_fields, agreed_fields, kept_fields, window_fields, sending_fields, saved_handshake, RangedHandshake}
use Rattle.connection.specs.Handshake.{planted}
use Rattle.lent.proofs.Laying.{laid_none, laid_block, laid_part, laid_whole}
use Rattle.lent.proofs.save.put_handshake.Goals as goal

pub returns : goal.returns
unfolding saved_handshake
returns c = let d = c.args.d.now in
    let h = c.args.h in
    let room = c.requires in
    let keys = h.protection.keys in
    let number = ap (λ n. joined ((n ∷ []) ∷ h.id ∷ keys.secret ∷ [])) c.state_number.ensures.exact in
    let one = laid_part 0 29 (session_fields h.state (planted h)) c.session_bytes.result c.put.new.d (laid_none d 0 (omega arith)) refl (c.session_bytes.ensures.exact ∙ number) (sym (ap length number) ∙ c.session_bytes.ensures.part_len) (omega (arith, room)) c.put.ensures.exact in
    let two = laid_part 29 46 (agreed_fields keys h.expected) c.agreed_bytes.result c.put-2.new.d one refl c.agreed_bytes.ensures.exact c.agreed_bytes.ensures.part_len (omega (arith, room)) c.put-2.ensures.exact in
    let three = laid_block 75 356 (kept_fields h.kept) c.put_kept.new.d two refl c.put_kept.ensures.kept_len (omega (arith, room)) c.put_kept.ensures.d_after in
    let four = laid_part 431 19 (window_fields h.protection.window ++ sending_fields h.protection) c.standing_bytes.result c.put-3.new.d three refl c.standing_bytes.ensures.exact c.standing_bytes.ensures.part_len (omega (arith, room)) c.put-3.ensures.exact in
    let all = laid_whole four room in
    let ranged : RangedHandshake h
    = record {
      id = c.session_bytes.ensures.sized.0;
      secret = c.session_bytes.ensures.sized.1;
      server = c.agreed_bytes.ensures.sized.0;
      client = c.agreed_bytes.ensures.sized.1.0;
      expected = c.agreed_bytes.ensures.sized.1.1;
      hello = c.put_kept.ensures.hello_len.0;
      heard = c.put_kept.ensures.hello_len.1.0;
      reply = c.put_kept.ensures.hello_len.1.1.0;
      size = c.put_kept.ensures.hello_len.1.1.1;
      highest = c.standing_bytes.ensures.ranged.0.0;
      marks = c.standing_bytes.ensures.ranged.0.1;
      protected = c.standing_bytes.ensures.ranged.1.0;
      clear = c.standing_bytes.ensures.ranged.1.1;
    } in
    record { d_after = all; h_len = four.count; ranged_handshake = ranged }
