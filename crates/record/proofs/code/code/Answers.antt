-- `code`: the five bytes before the content are those of the definition.
use mathlib.Core.Path.{ap, ◌∙◌}
use Rattle.digest.specs.Hmac.{code_under, hmac}
use Rattle.record.proofs.ProtectedBytes.{coded_bytes}
use Rattle.record.proofs.code.code.Goals as goal

pub returns : goal.returns
returns c = let a = c.args in
    let head = coded_bytes a.number a.byte a.content.now _ _ c.to_be_bytes.ensures c.to_be_bytes-2.ensures in
    record { exact = c.code.ensures.exact ∙ ap (code_under a.key) head; meaning = λ k e. c.code.ensures.meaning k e ∙ ap (hmac k) head }
