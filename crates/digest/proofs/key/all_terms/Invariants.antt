-- `key::all_terms`: after i turns the first i terms stand in the output, and `a` is A(i + 1); the last term is cut.
use Rattle.std.proofs.Common.{◌≡◌, ◌+◌, ◌*◌, length, take}
use Rattle.digest.specs.Hmac.{code_under}
use Rattle.digest.specs.Expansion.{chain, terms}
use Rattle.digest.proofs.key.all_terms.Given as goal

abbrev pub invariant-loop-i : goal.invariant-loop-i
invariant-loop-i l = (length l.a ≡ 20)
    × (l.a ≡ chain (code_under l.key) l.seed (l.i + 1))
    × (take (20 * l.i) l.out ≡ terms (code_under l.key) l.seed l.i)
