-- `write_coded`: the record of the content with its code behind it.
use mathlib.Core.Path.{ap, ◌∙◌}
use mathlib.Core.Bool.{true}
use mathlib.Core.List.{List, ◌++◌}
use Prim.Native.Nat.{ℕ}
use Rattle.digest.specs.Hmac.{code_under}
use Rattle.digest.specs.Mac.{size_of}
use Rattle.record.specs.Written.{record_of, size_within, written_of}
use Rattle.record.proofs.ProtectedBytes.{protected}
use Rattle.record.proofs.code.write_coded.Goals as goal

pub returns : goal.returns
returns c = let a = c.args in
    let h = a.head in
    let body : List ℕ = a.body.now in
    let whole =
    ap (λ b. record_of h.long b h.content h.number (body ++ c.cut.result.now)) c.requires
    ∙ ap (λ (x : List ℕ). record_of h.long true h.content h.number (body ++ x)) c.cut.ensures.exact
    ∙ protected (code_under a.key) (size_of a.mac) h.long h.content h.number _ body _ c.type_byte-byte.ensures c.code-whole.ensures.exact in
    record { size = c.write.ensures.size ∙ ap (size_within a.out.now) whole; bytes = c.write.ensures.bytes ∙ ap (written_of a.out.now) whole }
