-- `message::set_writer::write` meets its contract: each arm writes what is written of the values of its kind. Assumes nothing.
use Rattle.std.specs.Prelude.{Some}
use mathlib.Core.Path.{refl, ◌∙◌, ap}
use mathlib.Core.List.{[]}
use Rattle.message.proofs.Buffers.{wrote_none}
use Rattle.message.proofs.SetsPut.{wrote_as, dh_same, ec_same, set_as}
use Rattle.message.proofs.set_writer.write.Goals as goal

pub returns-in-Skipped : goal.returns-in-Skipped
returns-in-Skipped c = let both = let a = c.args in
    wrote_as a.out.now _ [] _ _ (set_as a.s.now a.set _ (c.in-Some.is ∙ ap Some c.in-Skipped.is)) (wrote_none a.out.now [] refl) in record { value = both.0; out_after = both.1 }

pub returns-in_default : goal.returns-in_default
returns-in_default c = let both = let a = c.args in
    wrote_as a.out.now _ [] _ _ (set_as a.s.now a.set _ c.in_default.is) (wrote_none a.out.now [] refl) in record { value = both.0; out_after = both.1 }

pub returns-in-DiffieHellman : goal.returns-in-DiffieHellman
returns-in-DiffieHellman c = let both = let a = c.args in
    wrote_as a.out.now _ _ _ _
    (dh_same _ _ _ _ _ c.part.ensures c.part-in-DiffieHellman.ensures ∙ set_as a.s.now a.set _ (c.in-Some.is ∙ ap Some c.in-DiffieHellman.is))
    (c.write_dh.ensures.value, c.write_dh.ensures.out_after) in record { value = both.0; out_after = both.1 }

pub returns-in-EllipticCurve : goal.returns-in-EllipticCurve
returns-in-EllipticCurve c = let both = let a = c.args in
    wrote_as a.out.now _ _ _ _
    (ec_same _ _ _ _ _ _ _ _ _ _ _ _ _ c.part-in-EllipticCurve.ensures c.part-in-EllipticCurve-2.ensures c.part-in-EllipticCurve-3.ensures c.part-in-EllipticCurve-4.ensures c.part-in-EllipticCurve-5.ensures c.part-in-EllipticCurve-6.ensures
    ∙ set_as a.s.now a.set _ (c.in-Some.is ∙ ap Some c.in-EllipticCurve.is))
    (c.write_ec.ensures.value, c.write_ec.ensures.out_after) in record { value = both.0; out_after = both.1 }
