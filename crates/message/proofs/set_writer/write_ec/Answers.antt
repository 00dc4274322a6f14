-- `message::set_writer::write_ec` meets its contract: the pieces are put one after the other where the values are allowed and there is room, and else nothing is. Assumes nothing.
use mathlib.Core.Path.{sym, ◌∙◌, ap}
use native.Mathlib.Omega.{arith}
use lib.ListN.{length}
use Rattle.message.specs.Set.{ec, set_bytes, ec_written, field_at}
use Rattle.message.proofs.Buffers.{wrote_none, wrote_no_room, wrote_all, puts_as}
use Rattle.message.proofs.SetsPut.{field_written_lem, field_can, written_small, vectors_parts, ec_no_field, ec_no_vectors, ec_written_lem, length_ec, put_ec}
use Rattle.message.proofs.set_writer.write_ec.Goals as goal

pub returns-then-front-eq0 : goal.returns-then-front-eq0
returns-then-front-eq0 c = let both = let x = c.args in
    let f = field_at x.s.now x.field in
    let a = x.a.now in
    let b = x.b.now in
    let s = x.seed.now in
    let p = x.base.now in
    let n = x.order.now in
    let h = x.cofactor.now in
    wrote_none x.out.now (ec_written f a b s p n h) (ec_no_field f a b s p n h (sym c.field_size-front.ensures ∙ c.if-front-eq0.true)) in record { value = both.0; out_after = both.1 }

pub returns-then-not-vectors_allowed : goal.returns-then-not-vectors_allowed
returns-then-not-vectors_allowed c = let both = let x = c.args in
    let f = field_at x.s.now x.field in
    let a = x.a.now in
    let b = x.b.now in
    let s = x.seed.now in
    let p = x.base.now in
    let n = x.order.now in
    let h = x.cofactor.now in
    let size = c.field_size-front.ensures in
    let can = field_can f (λ z. c.if-front-eq0.false (size ∙ z)) in
    wrote_none x.out.now (ec_written f a b s p n h)
    (ec_no_vectors f a b s p n h can (sym c.vectors_allowed.ensures ∙ c.if-not-vectors_allowed.true)) in record { value = both.0; out_after = both.1 }

pub overflow_add-size : goal.overflow_add-size
overflow_add-size c = let x = c.args in
    let f = field_at x.s.now x.field in
    let a = x.a.now in
    let b = x.b.now in
    let s = x.seed.now in
    let p = x.base.now in
    let n = x.order.now in
    let h = x.cofactor.now in
    let size = c.field_size-front.ensures in
    let all = sym c.vectors_allowed.ensures ∙ c.if-not-vectors_allowed.false in
    let v = vectors_parts a b s p n h all in
    omega (arith, size, written_small f, v.a_size, v.b_size, v.seed_size, v.base_size, v.order_size, v.cofactor_size)

pub overflow_add-size-2 : goal.overflow_add-size-2
overflow_add-size-2 c = let x = c.args in
    let f = field_at x.s.now x.field in
    let a = x.a.now in
    let b = x.b.now in
    let s = x.seed.now in
    let p = x.base.now in
    let n = x.order.now in
    let h = x.cofactor.now in
    let size = c.field_size-front.ensures in
    let all = sym c.vectors_allowed.ensures ∙ c.if-not-vectors_allowed.false in
    let v = vectors_parts a b s p n h all in
    omega (arith, size, written_small f, v.a_size, v.b_size, v.seed_size, v.base_size, v.order_size, v.cofactor_size)

pub overflow_add-size-3 : goal.overflow_add-size-3
overflow_add-size-3 c = let x = c.args in
    let f = field_at x.s.now x.field in
    let a = x.a.now in
    let b = x.b.now in
    let s = x.seed.now in
    let p = x.base.now in
    let n = x.order.now in
    let h = x.cofactor.now in
    let size = c.field_size-front.ensures in
    let all = sym c.vectors_allowed.ensures ∙ c.if-not-vectors_allowed.false in
    let v = vectors_parts a b s p n h all in
    omega (arith, size, written_small f, v.a_size, v.b_size, v.seed_size, v.base_size, v.order_size, v.cofactor_size)

pub overflow_add-size-4 : goal.overflow_add-size-4
overflow_add-size-4 c = let x = c.args in
    let f = field_at x.s.now x.field in
    let a = x.a.now in
    let b = x.b.now in
    let s = x.seed.now in
    let p = x.base.now in
    let n = x.order.now in
    let h = x.cofactor.now in
    let size = c.field_size-front.ensures in
    let all = sym c.vectors_allowed.ensures ∙ c.if-not-vectors_allowed.false in
    let v = vectors_parts a b s p n h all in
    omega (arith, size, written_small f, v.a_size, v.b_size, v.seed_size, v.base_size, v.order_size, v.cofactor_size)

pub overflow_add-size-5 : goal.overflow_add-size-5
overflow_add-size-5 c = let x = c.args in
    let f = field_at x.s.now x.field in
    let a = x.a.now in
    let b = x.b.now in
    let s = x.seed.now in
    let p = x.base.now in
    let n = x.order.now in
    let h = x.cofactor.now in
    let size = c.field_size-front.ensures in
    let all = sym c.vectors_allowed.ensures ∙ c.if-not-vectors_allowed.false in
    let v = vectors_parts a b s p n h all in
    omega (arith, size, written_small f, v.a_size, v.b_size, v.seed_size, v.base_size, v.order_size, v.cofactor_size)

pub overflow_add-size-6 : goal.overflow_add-size-6
overflow_add-size-6 c = let x = c.args in
    let f = field_at x.s.now x.field in
    let a = x.a.now in
    let b = x.b.now in
    let s = x.seed.now in
    let p = x.base.now in
    let n = x.order.now in
    let h = x.cofactor.now in
    let size = c.field_size-front.ensures in
    let all = sym c.vectors_allowed.ensures ∙ c.if-not-vectors_allowed.false in
    let v = vectors_parts a b s p n h all in
    omega (arith, size, written_small f, v.a_size, v.b_size, v.seed_size, v.base_size, v.order_size, v.cofactor_size)

pub overflow_add-size-7 : goal.overflow_add-size-7
overflow_add-size-7 c = let x = c.args in
    let f = field_at x.s.now x.field in
    let a = x.a.now in
    let b = x.b.now in
    let s = x.seed.now in
    let p = x.base.now in
    let n = x.order.now in
    let h = x.cofactor.now in
    let size = c.field_size-front.ensures in
    let all = sym c.vectors_allowed.ensures ∙ c.if-not-vectors_allowed.false in
    let v = vectors_parts a b s p n h all in
    omega (arith, size, written_small f, v.a_size, v.b_size, v.seed_size, v.base_size, v.order_size, v.cofactor_size)

pub returns-then-out-size : goal.returns-then-out-size
returns-then-out-size c = let both = let x = c.args in
    let f = field_at x.s.now x.field in
    let a = x.a.now in
    let b = x.b.now in
    let s = x.seed.now in
    let p = x.base.now in
    let n = x.order.now in
    let h = x.cofactor.now in
    let size = c.field_size-front.ensures in
    let can = field_can f (λ z. c.if-front-eq0.false (size ∙ z)) in
    let all = sym c.vectors_allowed.ensures ∙ c.if-not-vectors_allowed.false in
    let v = vectors_parts a b s p n h all in
    let w = ec_written_lem f a b s p n h can all in
    wrote_no_room x.out.now (ec_written f a b s p n h)
    (omega (arith, ap length w, length_ec f a b s p n h, size, ap length (field_written_lem f can), c.if-out-size.true)) in record { value = both.0; out_after = both.1 }

pub returns : goal.returns
returns c = let both = let x = c.args in
    let f = field_at x.s.now x.field in
    let a = x.a.now in
    let b = x.b.now in
    let s = x.seed.now in
    let p = x.base.now in
    let n = x.order.now in
    let h = x.cofactor.now in
    let size = c.field_size-front.ensures in
    let can = field_can f (λ z. c.if-front-eq0.false (size ∙ z)) in
    let all = sym c.vectors_allowed.ensures ∙ c.if-not-vectors_allowed.false in
    let v = vectors_parts a b s p n h all in
    let w = ec_written_lem f a b s p n h can all in
    let room = c.if-out-size.false in
    wrote_all x.out.now (ec_written f a b s p n h) _ _
    (omega (arith, ap length w, length_ec f a b s p n h, size, ap length (field_written_lem f can), room))
    (puts_as (set_bytes (ec f a b s p n h)) (ec_written f a b s p n h) _ _ _ _ (sym w)
    (put_ec f a b s p n h _ _ _ _ _ _ _ _ _ _ _ _ _ _ _ (c.put_field-at.ensures can)
    (c.put_short-at.ensures v.a_size)
    (c.put_short-at-2.ensures v.b_size)
    (c.put_short-at-3.ensures v.seed_size)
    (c.put_short-at-4.ensures v.base_size)
    (c.put_short-at-5.ensures v.order_size)
    (c.put_short.ensures v.cofactor_size))) in record { value = both.0; out_after = both.1 }
