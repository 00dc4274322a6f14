-- `message::set_writer::write_dh` meets its contract: the pieces are put one after the other where the values are allowed and there is room, and else nothing is. Assumes nothing.
use mathlib.Core.Path.{sym, ◌∙◌, ap}
use native.Mathlib.Omega.{arith}
use lib.ListN.{length}
use Rattle.message.specs.Set.{dh, set_bytes, dh_written}
use Rattle.message.proofs.Buffers.{wrote_none, wrote_no_room, wrote_all, puts_as}
use Rattle.message.proofs.SetsWritten.{vector_ceiling}
use Rattle.message.proofs.SetsPut.{dh_no_p, dh_no_g, dh_written_lem, length_dh, put_dh}
use Rattle.message.proofs.set_writer.write_dh.Goals as goal

pub returns-then-not-vector_allowed : goal.returns-then-not-vector_allowed
returns-then-not-vector_allowed c = let both = let a = c.args in
    let e = a.e in
    let p = a.p.now in
    let g = a.g.now in
    wrote_none a.out.now (dh_written e p g) (dh_no_p e p g (sym c.vector_allowed.ensures ∙ c.if-not-vector_allowed.true)) in record { value = both.0; out_after = both.1 }

pub returns-then-not-vector_allowed-2 : goal.returns-then-not-vector_allowed-2
returns-then-not-vector_allowed-2 c = let both = let a = c.args in
    let e = a.e in
    let p = a.p.now in
    let g = a.g.now in
    wrote_none a.out.now (dh_written e p g) (dh_no_g e p g (sym c.vector_allowed.ensures ∙ c.if-not-vector_allowed.false) (sym c.vector_allowed-2.ensures ∙ c.if-not-vector_allowed-2.true)) in record { value = both.0; out_after = both.1 }

pub overflow_add-p-2 : goal.overflow_add-p-2
overflow_add-p-2 c = let a = c.args in
    let e = a.e in
    let p = a.p.now in
    let g = a.g.now in
    let hp = vector_ceiling 1 65535 p (sym c.vector_allowed.ensures ∙ c.if-not-vector_allowed.false) in
    let hg = vector_ceiling 1 65535 g (sym c.vector_allowed-2.ensures ∙ c.if-not-vector_allowed-2.false) in
    omega (arith, hp, hg)

pub returns-then-out-p : goal.returns-then-out-p
returns-then-out-p c = let both = let a = c.args in
    let e = a.e in
    let p = a.p.now in
    let g = a.g.now in
    let w = dh_written_lem e p g (sym c.vector_allowed.ensures ∙ c.if-not-vector_allowed.false) (sym c.vector_allowed-2.ensures ∙ c.if-not-vector_allowed-2.false) in
    wrote_no_room a.out.now (dh_written e p g) (omega (arith, ap length w, length_dh e p g, c.if-out-p.true)) in record { value = both.0; out_after = both.1 }

pub returns : goal.returns
returns c = let both = let a = c.args in
    let e = a.e in
    let p = a.p.now in
    let g = a.g.now in
    let tp = sym c.vector_allowed.ensures ∙ c.if-not-vector_allowed.false in
    let tg = sym c.vector_allowed-2.ensures ∙ c.if-not-vector_allowed-2.false in
    let w = dh_written_lem e p g tp tg in
    let room = c.if-out-p.false in
    wrote_all a.out.now (dh_written e p g) _ _ (omega (arith, ap length w, length_dh e p g, room))
    (puts_as (set_bytes (dh e p g)) (dh_written e p g) _ _ _ _ (sym w)
    (put_dh e p g _ _ _ _ _ _ _ c.put-at.ensures (c.put_long-at.ensures (vector_ceiling 1 65535 p tp))
    (c.put_long.ensures (vector_ceiling 1 65535 g tg)))) in record { value = both.0; out_after = both.1 }
