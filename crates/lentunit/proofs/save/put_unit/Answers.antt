-- `save::put_unit`: group behind group, over all the bytes.
use mathlib.Core.Path.{refl, sym, ◌∙◌, ap}
use mathlib.Core.List.{[], ◌∷◌}
use native.Mathlib.Omega.{arith}
use lib.ListN.{length}
use Rattle.digest.specs.Bytes.{bytes4}
use Rattle.lent.specs.Fields.{joined}
use Rattle.lent.specs.Saved.{sent_fields}
use Rattle.lent.proofs.Laying.{laid_none, laid_more, laid_block, laid_part, laid_whole}
use Rattle.lent.proofs.Within.{sent_lies}
use Rattle.lentunit.specs.Saved.{mark, session_fields, agreed_fields, offer_fields, standing_fields, saved_of, loaded, Ranged}
use Rattle.lentunit.proofs.Back.{sent_size, saved_loads}
use Rattle.lentunit.proofs.save.put_unit.Goals as goal

pub returns : goal.returns
unfolding saved_of
returns c = let d = c.args.d.now in
    let u = c.args.u in
    let room = c.requires in
    let keys = u.protection.keys in
    let one = laid_more 0 4 c.four-mark.result (bytes4 mark) c.put.new.d (laid_none d 0 (omega arith)) refl c.four-mark.ensures.exact refl (omega (arith, room)) c.put.ensures.exact in
    let records = c.lay_sent.ensures.exact ∙ sent_lies c.put.new.d u.sent (omega (arith, room, one.same)) in
    let two = laid_block 4 36 (sent_fields u.sent) c.lay_sent.new.d one refl (sent_size u.sent) (omega (arith, room)) records in
    let number = ap (λ n. joined ((n ∷ []) ∷ u.id ∷ keys.secret ∷ [])) c.state_number.ensures in
    let three = laid_part 40 29 (session_fields u.state u.id keys) c.session_bytes.result c.put-2.new.d two refl (c.session_bytes.ensures.exact ∙ number) (sym (ap length number) ∙ c.session_bytes.ensures.part_len) (omega (arith, room)) c.put-2.ensures.exact in
    let four = laid_part 69 46 (agreed_fields keys u.expected) c.agreed_bytes.result c.put-3.new.d three refl c.agreed_bytes.ensures.exact c.agreed_bytes.ensures.part_len (omega (arith, room)) c.put-3.ensures.exact in
    let five = laid_block 115 46 (offer_fields u.offer u.flight) c.put_offer.new.d four refl c.put_offer.ensures.flight_len (omega (arith, room)) c.put_offer.ensures.d_after in
    let six = laid_part 161 19 (standing_fields u.protection) c.standing_bytes.result c.put-4.new.d five refl c.standing_bytes.ensures.exact c.standing_bytes.ensures.part_len (omega (arith, room)) c.put-4.ensures.exact in
    let all = laid_whole six room in
    let ranged : Ranged u
    = record {
      sent = c.lay_sent.ensures.ranged;
      id = c.session_bytes.ensures.sized.0;
      secret = c.session_bytes.ensures.sized.1;
      server = c.agreed_bytes.ensures.sized.0;
      client = c.agreed_bytes.ensures.sized.1.0;
      expected = c.agreed_bytes.ensures.sized.1.1;
      flight = c.put_offer.ensures.flight_len_2;
      highest = c.standing_bytes.ensures.ranged.0.0;
      marks = c.standing_bytes.ensures.ranged.0.1;
      protected = c.standing_bytes.ensures.ranged.1.0;
      clear = c.standing_bytes.ensures.ranged.1.1;
    } in
    record { d_after = all; d_after_2 = ap loaded all ∙ saved_loads u ranged }
