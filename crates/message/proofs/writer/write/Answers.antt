-- `message::writer::write` meets its contract: the pieces are put one after the other where the values are allowed and
-- there is room, and else nothing is. Assumes nothing.
use Rattle.message.proofs.Buffers.{wrote_none, wrote_no_room, wrote_all, puts_as}
use native.Mathlib.Omega.{arith}
use mathlib.Core.Path.{◌≡◌, sym, ◌∙◌, ap}
use lib.ListN.{length, get_or}
use Rattle.std.proofs.Common.{◌-◌, ◌/◌, ◌∷◌, []}
use Rattle.message.proofs.Fields.{end_none, end_some}
use Rattle.message.proofs.SetsPut.{high_byte, low_byte}
use Rattle.message.specs.Given.{given_of, hello_from, sent_of}
use Rattle.message.specs.Buffer.{Puts}
use Rattle.message.proofs.Givens.{sent_allowed, allowed_parts, sent_hello, put_hello, length_hello}
use Rattle.message.proofs.writer.write.Goals as goal

pub returns-in_default : goal.returns-in_default
returns-in_default c = let both = let a = c.args in
    let v = given_of a.version a.random.now a.session.now a.client.now a.trusted.now a.suites.now a.methods.now a.numbering a.refresh in
    wrote_none a.out.now (sent_of v) (end_none _ (sym c.in_default.is ∙ c.size_of.ensures a.version a.numbering a.refresh)) in record { value = both.0; out_after = both.1 }

pub returns-then-out-size : goal.returns-then-out-size
returns-then-out-size c = let both = let a = c.args in
    let v = given_of a.version a.random.now a.session.now a.client.now a.trusted.now a.suites.now a.methods.now a.numbering a.refresh in
    let q = end_some c.in-Some.size (length (sent_of v)) (sym c.in-Some.is ∙ c.size_of.ensures a.version a.numbering a.refresh) in
    let e : c.in-Some.size ≡ length (sent_of v) = q.0 in
    wrote_no_room a.out.now (sent_of v) (omega arith) in record { value = both.0; out_after = both.1 }

pub overflow_sub-body : goal.overflow_sub-body
overflow_sub-body c = let a = c.args in
    let v = given_of a.version a.random.now a.session.now a.client.now a.trusted.now a.suites.now a.methods.now a.numbering a.refresh in
    let q = end_some c.in-Some.size (length (sent_of v)) (sym c.in-Some.is ∙ c.size_of.ensures a.version a.numbering a.refresh) in
    let e : c.in-Some.size ≡ length (sent_of v) = q.0 in
    let t = sent_allowed v q.1 in
    omega (arith, ap length (sent_hello v t))

pub overflow_cast-body : goal.overflow_cast-body
overflow_cast-body c = let a = c.args in
    let v = given_of a.version a.random.now a.session.now a.client.now a.trusted.now a.suites.now a.methods.now a.numbering a.refresh in
    let q = end_some c.in-Some.size (length (sent_of v)) (sym c.in-Some.is ∙ c.size_of.ensures a.version a.numbering a.refresh) in
    let e : c.in-Some.size ≡ length (sent_of v) = q.0 in
    let t = sent_allowed v q.1 in
    omega (arith, ap length (sent_hello v t), (allowed_parts v t).size)

pub returns : goal.returns
returns c = let both = let a = c.args in
    let v = given_of a.version a.random.now a.session.now a.client.now a.trusted.now a.suites.now a.methods.now a.numbering a.refresh in
    let q = end_some c.in-Some.size (length (sent_of v)) (sym c.in-Some.is ∙ c.size_of.ensures a.version a.numbering a.refresh) in
    let e : c.in-Some.size ≡ length (sent_of v) = q.0 in
    let t = sent_allowed v q.1 in
    let w = allowed_parts v t in
    let g = sent_hello v t in
    let spelled = c.to_be_bytes.ensures in
    let high : get_or c.to_be_bytes.result 0 0 ≡ (c.in-Some.size - 3) / 256 =
    high_byte _ _ _ spelled ∙ omega (arith, ap length g, w.size) in
    let low = low_byte _ _ _ spelled in
    let p : Puts (hello_from v) a.out.now 0 _ _ =
    put_hello v c.in-Some.size (e ∙ ap length g) (omega (arith, ap length g, w.size)) _ _ _ _ _ _ _ _ _ _ _ _ _ _ _ _ _
    (puts_as _ _ _ _ _ _ (λ i. 1 ∷ high i ∷ low i ∷ a.version ∷ []) c.put-at.ensures)
    c.put-at-2.ensures
    (c.put_short-at.ensures (omega (arith, w.session_size)))
    (c.put_long-at.ensures (omega (arith, w.size, length_hello v)))
    (c.put_long-at-2.ensures (omega (arith, w.size, length_hello v)))
    (c.put_short-at-2.ensures w.suites_ceiling)
    (c.put_short-at-3.ensures w.methods_ceiling)
    c.put.ensures in
    wrote_all a.out.now (sent_of v) _ _ (omega (arith, e, c.if-out-size.false))
    (puts_as (hello_from v) (sent_of v) _ _ _ _ (sym g) p) in record { value = both.0; out_after = both.1 }
