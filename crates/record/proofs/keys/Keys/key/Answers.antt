-- `key`: derived for the record's own number, under the label of its sense.
use mathlib.Core.Path.{ap, ◌∙◌}
use mathlib.Core.List.{List}
use Prim.Native.Nat.{ℕ}
use Rattle.digest.specs.Hmac.{key_of}
use Rattle.record.specs.Keys.{key_number, mac_secret}
use Rattle.record.proofs.keys.Keys.key.Goals as goal

pub returns : goal.returns
returns c = let k = c.args.self in
    let number = c.args.number in
    c.record_key.ensures
    ∙ ap (λ (l : List ℕ). key_of (mac_secret k.secret l (key_number k.refresh number) k.server k.client)) c.label.ensures
