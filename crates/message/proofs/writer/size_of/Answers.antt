-- `message::writer::size_of` meets its contract: by the tests of the values, and the length of a hello as the sum of
-- its parts. Assumes nothing.
use native.Mathlib.Omega.{arith}
use mathlib.Core.Path.{◌≡◌, sym, ◌∙◌}
use lib.ListN.{length}
use Prim.Native.Nat.{◌+◌}
use Rattle.message.specs.Given.{given_of, hello_from}
use Rattle.message.proofs.Fields.{told_none, told_some}
use Rattle.message.proofs.Givens.{fields_parts, offers_parts, length_hello, size_none, not_fields, not_offers, too_long, short_enough}
use Rattle.message.proofs.writer.size_of.Goals as goal

pub returns-then-not-fields_allowed : goal.returns-then-not-fields_allowed
returns-then-not-fields_allowed c = λ version numbering refresh.
    let a = c.args in
    let v = given_of version a.random.now a.session.now a.client.now a.trusted.now a.suites.now a.methods.now numbering refresh in
    told_none _ (size_none v (not_fields v (sym c.fields_allowed.ensures ∙ c.if-not-fields_allowed.true)))

pub returns-then-not-offers_allowed : goal.returns-then-not-offers_allowed
returns-then-not-offers_allowed c = λ version numbering refresh.
    let a = c.args in
    let v = given_of version a.random.now a.session.now a.client.now a.trusted.now a.suites.now a.methods.now numbering refresh in
    told_none _ (size_none v (not_offers v (sym c.fields_allowed.ensures ∙ c.if-not-fields_allowed.false) (sym c.offers_allowed.ensures ∙ c.if-not-offers_allowed.true)))

pub returns-then-client-gt256 : goal.returns-then-client-gt256
returns-then-client-gt256 c = λ version numbering refresh.
    let a = c.args in
    let v = given_of version a.random.now a.session.now a.client.now a.trusted.now a.suites.now a.methods.now numbering refresh in
    let g = sym c.fields_allowed.ensures ∙ c.if-not-fields_allowed.false in
    let h = sym c.offers_allowed.ensures ∙ c.if-not-offers_allowed.false in
    let f = fields_parts a.random.now a.session.now a.client.now a.trusted.now g in
    told_none _ (too_long v g h (omega (arith, length_hello v, f.random_size)))

pub returns-then-trusted-gt256 : goal.returns-then-trusted-gt256
returns-then-trusted-gt256 c = λ version numbering refresh.
    let a = c.args in
    let v = given_of version a.random.now a.session.now a.client.now a.trusted.now a.suites.now a.methods.now numbering refresh in
    let g = sym c.fields_allowed.ensures ∙ c.if-not-fields_allowed.false in
    let h = sym c.offers_allowed.ensures ∙ c.if-not-offers_allowed.false in
    let f = fields_parts a.random.now a.session.now a.client.now a.trusted.now g in
    told_none _ (too_long v g h (omega (arith, length_hello v, f.random_size)))

pub overflow_add-size-4 : goal.overflow_add-size-4
overflow_add-size-4 c = let a = c.args in
    let g = sym c.fields_allowed.ensures ∙ c.if-not-fields_allowed.false in
    let h = sym c.offers_allowed.ensures ∙ c.if-not-offers_allowed.false in
    let f = fields_parts a.random.now a.session.now a.client.now a.trusted.now g in
    let o = offers_parts a.suites.now a.methods.now h in
    omega (arith, f.session_size, o.suites_ceiling, o.methods_ceiling)

pub overflow_add-size-5 : goal.overflow_add-size-5
overflow_add-size-5 c = let a = c.args in
    let g = sym c.fields_allowed.ensures ∙ c.if-not-fields_allowed.false in
    let h = sym c.offers_allowed.ensures ∙ c.if-not-offers_allowed.false in
    let f = fields_parts a.random.now a.session.now a.client.now a.trusted.now g in
    let o = offers_parts a.suites.now a.methods.now h in
    omega (arith, f.session_size, o.suites_ceiling, o.methods_ceiling)

pub returns-then-size-gt256 : goal.returns-then-size-gt256
returns-then-size-gt256 c = λ version numbering refresh.
    let a = c.args in
    let v = given_of version a.random.now a.session.now a.client.now a.trusted.now a.suites.now a.methods.now numbering refresh in
    let g = sym c.fields_allowed.ensures ∙ c.if-not-fields_allowed.false in
    let h = sym c.offers_allowed.ensures ∙ c.if-not-offers_allowed.false in
    let f = fields_parts a.random.now a.session.now a.client.now a.trusted.now g in
    told_none _ (too_long v g h (omega (arith, length_hello v, f.random_size)))

pub returns : goal.returns
returns c = λ version numbering refresh.
    let a = c.args in
    let v = given_of version a.random.now a.session.now a.client.now a.trusted.now a.suites.now a.methods.now numbering refresh in
    let g = sym c.fields_allowed.ensures ∙ c.if-not-fields_allowed.false in
    let h = sym c.offers_allowed.ensures ∙ c.if-not-offers_allowed.false in
    let f = fields_parts a.random.now a.session.now a.client.now a.trusted.now g in
    let e = length_hello v in
    let k : 29 + length a.session.now + length a.client.now + length a.trusted.now + length a.suites.now + length a.methods.now ≡ length (hello_from v) =
    omega (arith, e, f.random_size) in
    told_some _ _ (omega arith) (k ∙ short_enough v g h (omega (arith, e, f.random_size)))
