-- `greet::greet_again`: the kept hello again, or another.
use mathlib.Core.Path.{◌≡◌}
use mathlib.Core.Bool.{true}
use Rattle.digest.proofs.Picks.{picks, pick_yes}
use Rattle.connection.specs.Clear.{greeted_again, greeted_by, is_kept, kept_size}
use Rattle.connection.specs.Answer.{judged}
use Rattle.connection.specs.declared.answer.Answer.TheVariants.{Resent}
use Rattle.connection.specs.declared.answer.Judged.{Judged}
use Rattle.connection.proofs.clear.greet_again.Goals as goal

pub returns-then-same_hello : goal.returns-then-same_hello
unfolding greeted_again
returns-then-same_hello c = let a = c.args in
    let h = a.h in
    let e : ◌≡◌ {A = Judged} (record { answer = Resent c.kept_size.result; handshake = h }) (judged (Resent (kept_size h.kept)) h) = λ i. record { answer = Resent (c.kept_size.ensures i); handshake = h } in
    let same : is_kept h.kept a.m.now ≡ true = search picks depth 2 in
    pick_yes Judged (record { answer = Resent c.kept_size.result; handshake = h }) (judged (Resent (kept_size h.kept)) h) (greeted_by h a.random a.m.now) (is_kept h.kept a.m.now) same e

pub returns : goal.returns
unfolding greeted_again
returns c = search picks depth 2
