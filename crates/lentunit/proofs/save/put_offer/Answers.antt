-- `save::put_offer`: two bytes and the flight.
use mathlib.Core.Path.{◌≡◌, refl, ap}
use mathlib.Core.List.{[], ◌∷◌}
use native.Mathlib.Omega.{arith}
use lib.ListN.{length}
use Rattle.lentunit.specs.Saved.{kinds_number}
use Rattle.lent.proofs.Laying.{laid_none, laid_more}
use borrow.Author.Rules.{rules}
use Rattle.lentunit.proofs.save.put_offer.Goals as goal

pub returns : goal.returns
returns c = let d = c.args.d.now in
    let offer = c.args.offer in
    let flight = c.args.flight in
    let l-flight : length flight ≡ 44 = search (rules, c.well_formed.1.1.0) in
    let one = laid_more 115 1 (c.kinds_number.result ∷ []) (kinds_number offer.kinds ∷ []) c.put.new.d (laid_none d 115 (omega (arith, c.requires))) refl (ap (λ x. x ∷ []) c.kinds_number.ensures) refl (omega (arith, c.requires)) c.put.ensures.exact in
    let two = laid_more 116 1 (offer.refresh ∷ []) (offer.refresh ∷ []) c.put-2.new.d one refl refl refl (omega (arith, c.requires)) c.put-2.ensures.exact in
    let three = laid_more 117 44 flight flight c.put-3.new.d two refl refl l-flight (omega (arith, c.requires)) c.put-3.ensures.exact in
    record { d_after = three.bytes; flight_len = three.count; flight_len_2 = l-flight }
