-- `element`: by its number, and its length.
use native.Mathlib.Omega.{arith}
use Rattle.gather.proofs.Headings.{ports_noted, ports_wrong, place_noted, place_wrong, skipped}
use Rattle.gather.proofs.header.element.Goals as goal

pub returns-in_default-body : goal.returns-in_default-body
returns-in_default-body c = ports_wrong _ _ _ c.in-5.is (λ e. omega arith)

pub returns-in_default-body-3 : goal.returns-in_default-body-3
returns-in_default-body-3 c = ports_wrong _ _ _ c.in-5.is (λ e. omega arith)

pub returns-in_default-body-2 : goal.returns-in_default-body-2
returns-in_default-body-2 c = place_wrong _ _ _ c.in-0.is (λ e. omega arith)

pub returns-in_default-body-2-2 : goal.returns-in_default-body-2-2
returns-in_default-body-2-2 c = place_wrong _ _ _ c.in-0.is (λ e. omega arith)

pub returns-in-len4 : goal.returns-in-len4
returns-in-len4 c = ports_noted _ _ _ _ _ c.in-5.is (omega arith) c.from_be_bytes.ensures c.from_be_bytes-in-5.ensures

pub returns-in-len3 : goal.returns-in-len3
returns-in-len3 c = place_noted _ _ _ c.in-0.is (omega arith)

pub returns-in_default : goal.returns-in_default
returns-in_default c = skipped _ _ _ (λ e. omega arith) (λ e. omega arith)
