-- `message::acceptance::accept` meets its contract: each return is a case of `accepted_of`. Assumes nothing.
use native.Mathlib.Omega.{arith}
use Rattle.digest.proofs.Picks.{if_eq, if_ne}
use mathlib.Core.Path.{refl, sym}
use Rattle.message.specs.Acceptance.{accepted_of}
use Rattle.message.proofs.Accepting.{null_any}
use Rattle.message.proofs.acceptance.accept.Goals as goal

pub returns-then-not-contains : goal.returns-then-not-contains
unfolding accepted_of
returns-then-not-contains c = rw (
  sym c.same_code.ensures.exact,
  c.if-not-same_code.false,
  sym c.first_fit.ensures,
  sym c.listed.ensures.exact,
  c.in-Some.is,
  sym (null_any c.args.methods.now),
  sym c.contains.ensures.value,
  c.if-not-contains.true,
)
    (if_eq _ c.args.version 1 (omega arith) refl)

pub returns-then-numbering-ne2 : goal.returns-then-numbering-ne2
unfolding accepted_of
returns-then-numbering-ne2 c = rw (
  sym c.same_code.ensures.exact,
  c.if-not-same_code.false,
  sym c.first_fit.ensures,
  sym c.listed.ensures.exact,
  c.in-Some.is,
  sym (null_any c.args.methods.now),
  sym c.contains.ensures.value,
  c.if-not-contains.false,
)
    (if_eq _ c.args.version 1 (omega arith) (if_ne _ c.args.numbering 2 (λ z. omega arith) refl))

pub returns : goal.returns
unfolding accepted_of
returns c = rw (
  sym c.same_code.ensures.exact,
  c.if-not-same_code.false,
  sym c.first_fit.ensures,
  sym c.listed.ensures.exact,
  c.in-Some.is,
  sym (null_any c.args.methods.now),
  sym c.contains.ensures.value,
  c.if-not-contains.false,
)
    (if_eq _ c.args.version 1 (omega arith) (if_eq _ c.args.numbering 2 (omega arith) refl))
