-- `record_key`: derived for the number of its run.
use mathlib.Core.Path.{ap, ◌∙◌}
use Prim.Native.Nat.{ℕ}
use Rattle.digest.specs.Hmac.{key_of}
use Rattle.record.specs.Keys.{mac_secret}
use Rattle.record.proofs.keys.record_key.Goals as goal

pub returns : goal.returns
returns c = let a = c.args in
    c.derived.ensures
    ∙ ap (λ (n : ℕ). key_of (mac_secret a.secret.now a.label.now n a.server.now a.client.now)) c.key_number.ensures
