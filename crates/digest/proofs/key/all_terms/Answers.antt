-- `key::all_terms`: after i turns the first i terms stand in the output, and `a` is A(i + 1); the last term is cut.
use Rattle.std.proofs.Common.{◌≡◌, ◌+◌, ◌-◌, ◌*◌, ◌/◌, ◌++◌, length, take, sym, refl, ap, ◌∙◌, arith}
use borrow.Author.Tests.{eqb-true, eqb-false}
use Rattle.digest.specs.Hmac.{code_under}
use Rattle.digest.specs.Expansion.{chain, terms, expansion}
use Rattle.digest.proofs.Codes.{length_code}
use Rattle.digest.proofs.Terms.{terms_more, chain_first, chain_more, expansion_by, expansion_none}
use Rattle.digest.proofs.key.all_terms.Goals as goal

pub returns-then-is_empty : goal.returns-then-is_empty
returns-then-is_empty c = expansion_none _ _ c.args.out.now (eqb-true (length c.args.out.now) 0 (sym c.is_empty.ensures ∙ c.if-is_empty.true))

pub loop-i-init : goal.loop-i-init
unfolding terms
loop-i-init c = let key = c.args.key in
    let first_is = c.code-a.ensures in
    (ap length first_is ∙ length_code key c.args.seed.now, chain_first (code_under key) (length_code key) c.args.seed.now _ first_is, refl)

pub loop-i-preserved : goal.loop-i-preserved
loop-i-preserved c = let at = c.loop-i in
    let mac = code_under c.args.key in
    let size = length_code c.args.key in
    let seed = c.args.seed.now in
    let whole = c.code-whole.ensures in
    let long : length c.code-whole.result ≡ 20 = ap length whole ∙ size (at.a ++ seed) in
    let laid = c.lay.ensures in (
      ap length c.next-after.ensures ∙ size at.a,
      chain_more mac size seed at.a _ at.i c.next-after.ensures at.invariant.1,
      ap (take (20 * (at.i + 1))) laid ∙ terms_more mac size seed at.out at.a _ at.i (omega arith) at.invariant.1 whole at.invariant.2,
    )

pub returns : goal.returns
returns c = let at = c.loop-i in
    let out = c.args.out.now in
    let mac = code_under c.args.key in
    let size = length_code c.args.key in
    let seed = c.args.seed.now in
    let last = (length out - 1) / 20 in
    let some : length out ≡ 0 → ⊥ = eqb-false (length out) 0 (sym c.is_empty.ensures ∙ c.if-is_empty.false) in
    let same : length at.out ≡ length out = omega arith in
    let done : at.i ≡ last = omega arith in
    expansion_by mac size seed at.out c.lay-2.new.d at.a c.code-cut.result last
    (omega arith) (ap (λ n. (n - 1) / 20) (sym same)) (at.invariant.1 ∙ ap (λ n. chain mac seed (n + 1)) done) c.code-cut.ensures
    (ap (λ n. take (20 * n) at.out) (sym done) ∙ at.invariant.2 ∙ ap (terms mac seed) done) c.lay-2.ensures
    ∙ ap (expansion mac seed) same
