-- `clear::resend`: the kept hello again, or another.
use mathlib.Core.Path.{◌≡◌}
use mathlib.Core.Bool.{true}
use Rattle.digest.proofs.Picks.{picks, pick_yes}
use Rattle.connection.specs.Clear.{resent_by, is_kept, kept_size}
use Rattle.connection.specs.Answer.{judged, refusing}
use Rattle.connection.specs.declared.answer.Answer.TheVariants.{Resent}
use Rattle.connection.specs.declared.refusal.Refusal.TheVariants.{NotAllowed}
use Rattle.connection.specs.declared.answer.Judged.{Judged}
use Rattle.connection.proofs.clear.resend.Goals as goal

pub returns-then-same_hello : goal.returns-then-same_hello
unfolding resent_by
returns-then-same_hello c = let a = c.args in
    let h = a.h in
    let e : ◌≡◌ {A = Judged} (record { answer = Resent c.kept_size.result; handshake = h }) (judged (Resent (kept_size h.kept)) h) = λ i. record { answer = Resent (c.kept_size.ensures i); handshake = h } in
    let same : is_kept h.kept a.m.now ≡ true = search picks depth 2 in
    pick_yes Judged (record { answer = Resent c.kept_size.result; handshake = h }) (judged (Resent (kept_size h.kept)) h) (refusing NotAllowed h) (is_kept h.kept a.m.now) same e

pub returns : goal.returns
unfolding resent_by
returns c = search picks depth 2
