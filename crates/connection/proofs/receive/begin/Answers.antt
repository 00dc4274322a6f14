-- `receive::begin`: a ClientHello is answered; nothing else is yet.
use mathlib.Core.Path.{◌≡◌, refl, sym, ◌∙◌, ap}
use mathlib.Core.List.{List}
use Prim.Native.Nat.{ℕ}
use lib.ListN.{length}
use Rattle.digest.proofs.Picks.{pick_yes, pick_no}
use Rattle.digest.specs.Bytes.{laid_over}
use Rattle.connection.specs.Receive.{sent_of_kept, sent_by}
use Rattle.connection.specs.Later.{begun_by, begun_of, begun_sent}
use Rattle.connection.specs.declared.receive.Begun.{Begun}
use Rattle.connection.proofs.Running.{laid_nothing}
use Rattle.connection.proofs.receive.begin.Goals as goal

pub returns-then-not-is_hello : goal.returns-then-not-is_hello
unfolding begun_of begun_sent
returns-then-not-is_hello c = let a = c.args in
    let other = sym c.is_hello.ensures ∙ c.if-not-is_hello.true in
    record { value = pick_no Begun _ _ _ _ other refl; out_after = laid_nothing a.out.now ∙ ap (laid_over a.out.now 0) (pick_no (List ℕ) _ _ _ _ other refl) }

pub returns : goal.returns
unfolding begun_of begun_sent
returns c = let a = c.args in
    let hello = sym c.is_hello.ensures ∙ c.if-not-is_hello.false in
    let t = c.tell-first.result in
    let kept = c.kept_by.ensures in
    let written = c.put_reply-written.ensures.value ∙ ap (λ k. length (sent_of_kept k t.answer)) kept in
    let made : ◌≡◌ {A = Begun} (record { answer = t.answer; written = c.put_reply-written.result; connection = t.connection; done = 1; at = a.r.used }) (begun_by t a.r.used)
    = λ i. record { answer = t.answer; written = written i; connection = t.connection; done = 1; at = a.r.used } in record { value = pick_yes Begun _ _ _ _ hello (made ∙ ap (λ x. begun_by x a.r.used) c.tell-first.ensures); out_after = c.put_reply-written.ensures.out_after ∙ ap (λ k. laid_over a.out.now 0 (sent_of_kept k t.answer)) kept ∙ ap (laid_over a.out.now 0) (pick_yes (List ℕ) _ _ _ _ hello (ap sent_by c.tell-first.ensures)) }
