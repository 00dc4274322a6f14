-- `message::set_writer::put_field` meets its contract: each arm puts the pieces of its field. Assumes nothing.
use Rattle.message.proofs.SetsPut.{high_byte, low_byte, field_as, prime_as, polynomial_as, put_prime, put_onb, put_trinomial, put_pentanomial, put_polynomial}
use Rattle.message.proofs.set_writer.put_field.Goals as goal

pub returns-in-Prime : goal.returns-in-Prime
returns-in-Prime c = field_as _ _ _ _ _ _ c.in-Prime.is
    (prime_as _ _ _ _ _ c.part.ensures (put_prime _ _ _ _ _ _ c.put-at.ensures c.put_short.ensures))

pub returns-in-Onb : goal.returns-in-Onb
returns-in-Onb c = field_as _ _ _ _ _ _ c.in-Onb.is
    (put_onb _ _ _ (high_byte _ _ _ c.to_be_bytes.ensures) (low_byte _ _ _ c.to_be_bytes.ensures) _ _ _ c.put.ensures)

pub returns-in-Trinomial : goal.returns-in-Trinomial
returns-in-Trinomial c = field_as _ _ _ _ _ _ c.in-Trinomial.is
    (put_trinomial _ _ _ (high_byte _ _ _ c.to_be_bytes-in-Trinomial.ensures) (low_byte _ _ _ c.to_be_bytes-in-Trinomial.ensures) _ _ _ _ _ _ (high_byte _ _ _ c.to_be_bytes-in-Trinomial-2.ensures) (low_byte _ _ _ c.to_be_bytes-in-Trinomial-2.ensures) c.put-in-Trinomial.ensures)

pub returns-in-Pentanomial : goal.returns-in-Pentanomial
returns-in-Pentanomial c = field_as _ _ _ _ _ _ c.in-Pentanomial.is
    (put_pentanomial _ _ _ (high_byte _ _ _ c.to_be_bytes-in-Pentanomial.ensures) (low_byte _ _ _ c.to_be_bytes-in-Pentanomial.ensures) _ _ _ _ _ _ _ _ _ _ _ _
    (high_byte _ _ _ c.to_be_bytes-in-Pentanomial-2.ensures) (low_byte _ _ _ c.to_be_bytes-in-Pentanomial-2.ensures) (high_byte _ _ _ c.to_be_bytes-in-Pentanomial-3.ensures) (low_byte _ _ _ c.to_be_bytes-in-Pentanomial-3.ensures) (high_byte _ _ _ c.to_be_bytes-in-Pentanomial-4.ensures) (low_byte _ _ _ c.to_be_bytes-in-Pentanomial-4.ensures)
    c.put-in-Pentanomial.ensures)

pub returns-in-Polynomial : goal.returns-in-Polynomial
returns-in-Polynomial c = field_as _ _ _ _ _ _ c.in-Polynomial.is
    (polynomial_as _ _ _ _ _ _ c.part-in-Polynomial.ensures
    (put_polynomial _ _ _ (high_byte _ _ _ c.to_be_bytes-in-Polynomial.ensures) (low_byte _ _ _ c.to_be_bytes-in-Polynomial.ensures) _ _ _ _ _ _ c.put-at-in-Polynomial.ensures c.put_short-in-Polynomial.ensures))
