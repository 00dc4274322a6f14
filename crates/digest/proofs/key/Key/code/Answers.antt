-- `Key::code`: a short message is gathered in one place; a longer one goes in two pieces behind the inner pad.
use Rattle.std.proofs.Common.{◌≡◌, ◌+◌, [], ◌++◌, length, replicate, sym, refl, ap, ◌∙◌, arith, length-append}
use Rattle.digest.specs.Bytes.{laid_over}
use Rattle.digest.proofs.Lay.{laid_behind}
use Rattle.digest.proofs.Codes.{begun_absorbed, piece, code_is}
use Rattle.digest.proofs.key.Key.code.Goals as goal

pub short_code-requires : goal.short_code-requires
short_code-requires c = (c.lay-in-Some.auto.d ∙ c.lay.auto.d, omega arith)

pub returns-in-Some : goal.returns-in-Some
returns-in-Some c = let args = c.args in
    let head = args.head.now in
    let body = args.body.now in
    let sum : c.in-Some.n ≡ length head + length body = omega (arith, c.in-Some.ensures) in
    let exact = c.short_code.ensures (head ++ body) (length-append head body ∙ sym sum)
    (c.lay-in-Some.ensures ∙ ap (λ x. laid_over x (length head) body) c.lay.ensures ∙ laid_behind (replicate 128 0) head body (length head) refl) in
    record { exact = exact; meaning = λ k e. exact ∙ code_is args.self k _ e }

pub returns-in_default : goal.returns-in_default
returns-in_default c = let args = c.args in
    let g = args.self.inner in
    let none = begun_absorbed g c.begin.result c.begin.ensures.exact in
    let one = piece g _ _ [] _ c.update.ensures.exact none in
    let two = piece g _ _ _ _ c.update-in_default.ensures.exact one in
    let exact = c.end.ensures.meaning _ two in
    record { exact = exact; meaning = λ k e. exact ∙ code_is args.self k _ e }
