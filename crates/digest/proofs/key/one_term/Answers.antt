-- `key::one_term`: the seed at the front of one block or two for A(1), and behind A(1) in another for the term.
use Rattle.std.proofs.Common.{◌≡◌, ◌+◌, ◌++◌, length, ap, ◌∙◌, arith, length-append}
use Rattle.digest.specs.Hmac.{code_under}
use Rattle.digest.proofs.Codes.{length_code}
use Rattle.digest.proofs.Lay.{laid_second}
use Rattle.digest.proofs.Terms.{expansion_once}
use Rattle.digest.proofs.key.one_term.Goals as goal

pub returns : goal.returns
returns c = let args = c.args in
    let pre = c.requires in
    let mac = code_under args.key in
    let size = length_code args.key in
    let seed = args.seed.now in
    let long = pre.2 in
    let first_is = c.short_code-a.ensures seed long c.lay.ensures in
    let first-long = ap length first_is ∙ size seed in
    let both : length (c.short_code-a.result ++ seed) ≡ 20 + args.n = omega (arith, length-append c.short_code-a.result seed, first-long, long) in
    let behind = laid_second seed c.lay.new.d c.lay-2.new.d c.lay-3.new.d c.short_code-a.result args.n long (omega (arith, pre.3)) first-long c.lay.ensures c.lay-2.ensures c.lay-3.ensures in
    expansion_once mac size seed args.out.now c.lay-4.new.d c.short_code-a.result c.short_code-cut.result
    pre.0 pre.1 first_is (c.short_code-cut.ensures (c.short_code-a.result ++ seed) both behind) c.lay-4.ensures
