-- `message::finished::client_verify` meets its contract: the hasher has taken in the messages one after the other, and the seed
-- is their hash. Assumes nothing.
use mathlib.Core.Path.{◌≡◌, ◌∙◌, ap}
use mathlib.Core.List.{List, [], ◌++◌, append-nil}
use Prim.Native.Nat.{ℕ}
use Rattle.digest.proofs.Hashing.{fresh_absorbed}
use Rattle.digest.specs.Sha1.{sha1}
use Rattle.digest.specs.Expansion.{prf}
use Rattle.message.specs.Finished.{client_verify, client_label}
use Rattle.message.proofs.finished.client_verify.Goals as goal

pub returns : goal.returns
unfolding client_verify
returns c = let a = c.args in
    let h : c.finish-hash.result ≡ sha1 (a.client.now ++ a.server.now ++ a.finished.now) = c.finish-hash.ensures.meaning (a.client.now ++ a.server.now ++ a.finished.now) (c.update-3.ensures.meaning (a.client.now ++ a.server.now) (c.update-2.ensures.meaning a.client.now (c.update.ensures.meaning ([]) (fresh_absorbed _ c.new.ensures.exact)))) in
    c.prf.ensures.exact
    ∙ ap (λ (l : List ℕ). prf a.secret.now client_label l 12)
    (append-nil _ ∙ append-nil _ ∙ h)
