-- `Seed::code`: five pieces behind the inner pad, and the end.
use Rattle.std.proofs.Common.{◌≡◌, ℕ, List, [], ◌++◌, ap, ◌∙◌, append_assoc}
use Rattle.digest.specs.Hmac.{code_under}
use Rattle.digest.proofs.Codes.{begun_absorbed, piece}
use Rattle.digest.proofs.seed.Seed.code.Goals as goal

in_order : (f l s t u : List ℕ) → (((([] ++ f) ++ l) ++ s) ++ t) ++ u ≡ f ++ (l ++ (s ++ t ++ u))
in_order f l s t u = simp append_assoc

pub returns : goal.returns
returns c = let args = c.args in
    let s = c.self.inside in
    let g = args.key.inner in
    let none = begun_absorbed g c.begin-g.result c.begin-g.ensures.exact in
    let one = piece g _ _ [] _ c.update-g.ensures.exact none in
    let two = piece g _ _ _ _ c.update-g-2.ensures.exact one in
    let three = piece g _ _ _ _ c.update-g-3.ensures.exact two in
    let four = piece g _ _ _ _ c.update-g-4.ensures.exact three in
    let five = piece g _ _ _ _ c.update-g-5.ensures.exact four in
    c.end.ensures.meaning _ five
    ∙ ap (code_under args.key) (in_order args.front.now s.label.now s.first.now s.second.now s.third.now)
    ∙ ap (λ l. code_under args.key (args.front.now ++ l)) c.self.view_is
