-- `asked::greeting`: the started one's hello, the open one's, or another.
use mathlib.Core.Path.{◌≡◌, sym, ◌∙◌}
use mathlib.Core.Bool.{true, false}
use Rattle.digest.proofs.Picks.{picks}
use Rattle.connection.specs.Asked.{under_way}
use Rattle.connection.proofs.Asking.{own_hello, other_hello}
use Rattle.connection.proofs.asked.greeting.Goals as goal

pub returns-then-not-under_way : goal.returns-then-not-under_way
returns-then-not-under_way c = let held = c.args.c in
    let beside : under_way held.started.state ≡ false = sym c.under_way.ensures ∙ c.if-not-under_way.true in
    search picks depth 2

pub returns-then-same_hello : goal.returns-then-same_hello
returns-then-same_hello c = let held = c.args.c in
    let beside : under_way held.started.state ≡ true = sym c.under_way.ensures ∙ c.if-not-under_way.false in
    own_hello held c.args.m.now beside (sym c.same_hello.ensures ∙ c.if-same_hello.true)

pub returns : goal.returns
returns c = let held = c.args.c in
    let beside : under_way held.started.state ≡ true = sym c.under_way.ensures ∙ c.if-not-under_way.false in
    other_hello held c.args.m.now _ beside (sym c.same_hello.ensures ∙ c.if-same_hello.false) c.hello-2.ensures
