-- `genuine`: shorter than its code it is forged; else the code of what stands before it is compared.
use mathlib.Core.Path.{sym, ap, ap₂, ◌∙◌}
use mathlib.Core.List.{List}
use Prim.Native.Nat.{ℕ, ◌<◌}
use native.Mathlib.Omega.{arith}
use lib.ListN.{length, take}
use Rattle.digest.specs.Hmac.{code_under, hmac}
use Rattle.digest.specs.Mac.{size_of, same_bytes}
use Rattle.record.specs.Code.{coded_of, genuine_by}
use Rattle.record.proofs.ProtectedBytes.{genuine_short, genuine_key, judged}
use Rattle.record.proofs.code.genuine.Goals as goal

pub returns-then-fragment-size : goal.returns-then-fragment-size
returns-then-fragment-size c = let a = c.args in
    let h : length a.fragment.now < size_of a.mac = omega (arith, c.size-size.ensures.exact) in
    record { exact = sym (genuine_short (code_under a.key) (size_of a.mac) a.number a.byte a.fragment.now h); meaning = λ k e. sym (genuine_short (hmac k) (size_of a.mac) a.number a.byte a.fragment.now h) }

pub returns : goal.returns
returns c = let a = c.args in
    let f : List ℕ = a.fragment.now in
    let size : ℕ = c.size-size.result in
    let w : List ℕ = c.code-whole.result in
    let e = c.size-size.ensures.exact in
    let exact =
    judged (code_under a.key) size a.number a.byte f w _ (omega (arith, c.if-fragment-size.false))
    (c.code-whole.ensures.exact ∙ ap (λ (x : List ℕ). code_under a.key (coded_of a.number a.byte x)) c.split_at.ensures.front)
    (c.same_code.ensures.exact ∙ ap₂ same_bytes c.split_at.ensures.back (c.cut.ensures.exact ∙ ap (λ (z : ℕ). take z w) (sym e)))
    ∙ ap (λ (z : ℕ). genuine_by (code_under a.key) z a.number a.byte f) e in
    record { exact = exact; meaning = λ k q. exact ∙ genuine_key a.key k q (size_of a.mac) a.number a.byte f }
