-- `Key::end`: the digest of the message, and the digest of that behind the outer pad.
use Rattle.std.proofs.Common.{ap, ◌∙◌}
use Rattle.digest.specs.Hasher.{finished, updated, begun}
use Rattle.digest.proofs.Codes.{ended_as, ended_means}
use Rattle.digest.proofs.key.Key.end.Goals as goal

pub returns : goal.returns
returns c = let args = c.args in
    let digest = c.finish-digest in
    let exact = c.hashed.ensures ∙ ended_as args.self.outer digest.result ∙ ap (λ d. finished (updated (begun args.self.outer) d)) digest.ensures.exact in
    record { exact = exact; meaning = λ m a. exact ∙ ended_means args.self args.h m a }
