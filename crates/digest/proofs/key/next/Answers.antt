-- `key::next`: the digest of A(i) behind the inner pad, and of that behind the outer.
use Rattle.std.proofs.Common.{ap, ◌∙◌}
use Rattle.digest.specs.Hasher.{digest_from}
use Rattle.digest.specs.Hmac.{code_under}
use Rattle.digest.proofs.key.next.Goals as goal

pub returns : goal.returns
unfolding code_under
returns c = c.hashed-2.ensures ∙ ap (digest_from _ 64) c.hashed.ensures
