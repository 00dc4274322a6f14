-- `key::short_code`: the digest of the bytes behind the inner pad, and of that behind the outer.
use Rattle.std.proofs.Common.{ap, ◌∙◌}
use Rattle.digest.specs.Sha1.{spelled}
use Rattle.digest.specs.Hasher.{digest_from}
use Rattle.digest.specs.Hmac.{code_under}
use Rattle.digest.proofs.Codes.{behind_blocks}
use Rattle.digest.proofs.key.short_code.Goals as goal

pub returns : goal.returns
unfolding code_under
returns c = λ m l e.
    let args = c.args in
    c.hashed.ensures
    ∙ ap (digest_from args.key.outer 64) (c.spelled.ensures ∙ ap spelled (c.closed-last.ensures m l e) ∙ behind_blocks args.key.inner m args.n l)
