-- A run of calls is a run of events.
use mathlib.Core.Path.{◌≡◌, refl, sym, ◌∙◌, ap, ap₂}
use mathlib.Core.Bool.{Bool, true, false}
use mathlib.Core.List.{List, [], ◌∷◌, ◌++◌, map, append_assoc, append-nil}
use Prim.Native.Nat.{ℕ, suc, ◌-◌}
use lib.ListN.{length, get_or, replicate}
use lib.Dec.{eqb, ltb}
use borrow.Author.Tests.{eq-eqb, ne_eqb, lt-ltb, le-ltb, eqb-true}
use Rattle.digest.specs.Pick.{pick}
use Rattle.record.specs.Datagram.{Framing, framed, faulty, framing_of}
use Rattle.record.specs.declared.reader.Record.{Record}
use Rattle.connection.specs.Told.{told_record}
use Rattle.connection.specs.Receive.{slot, slots_of, end_of, answers_of}
use Rattle.connection.specs.declared.answer.Answer.{Answer}
use Rattle.connection.specs.declared.answer.Answer.TheVariants as W
use Rattle.connection.specs.declared.answer.Slot.{Slot}
use Rattle.connection.specs.declared.connection.Connection.{Connection}
use Rattle.demands.specs.Runs.{Call, receive, send_data, send_alert, close, start, Step, step_of, final_of}
use Rattle.demands.specs.Genuine.{RecordOf}
use Rattle.demands.specs.Calls.{CallRow, receive_16, receive_6, receive_framing, receive_records}
use Rattle.demands.specs.Acts as Q
use Rattle.demands.specs.Acts.{Act, comes, SoundActs, records_in, acts_in, acts_of, leaves}
use Rattle.demands.specs.LeftOut.{answers_in}
use Rattle.demands.specs.Places.{RunsAreActs, AnswersInPlace}
use Rattle.demands.proofs.Calls.{by_chain, call_of, call_is, chain_of, chain_is}

pub behind_more : (c : Connection) (xs ys : List Act) → Q.behind c (xs ++ ys) ≡ Q.behind (Q.behind c xs) ys
unfolding Q.behind
behind_more c [] ys = refl
behind_more c (x ∷ xs) ys = behind_more (leaves c x) xs ys

pub sound_more : (es fs : List Act) → SoundActs es → SoundActs fs → SoundActs (es ++ fs)
sound_more [] fs a b = b
sound_more (e ∷ es) fs a b = (a.0, sound_more es fs a.1 b)

-- the records of a datagram as acts
pub behind_records : (c : Connection) (random d : List ℕ) (rs : List Record) → Q.behind c (map (comes random d) rs) ≡ end_of c random d rs
unfolding Q.behind end_of
behind_records c random d [] = refl
behind_records c random d (r ∷ rs) = behind_records (told_record c random d r).connection random d rs

pub records_sound : (random d : List ℕ) → length random ≡ 16 → (before rs behind : List Record) → framing_of d ≡ framed (before ++ (rs ++ behind)) → SoundActs (map (comes random d) rs)
records_sound random d e before [] behind f = tt
records_sound random d e before (r ∷ rs) behind f =
    let at : RecordOf d r = record { before = before; behind = rs ++ behind; framing = f } in
    ((e, at), records_sound random d e (before ++ (r ∷ [])) rs behind (f ∙ ap framed (sym (append_assoc before (r ∷ []) (rs ++ behind)))))

module _ (d random out : List ℕ) where
  -- the acts of a receive, by the tests
  abbrev acts_by : Bool → Bool → Framing → List Act
  acts_by b s f = pick b (pick s [] (records_in random d f)) []

  acts_are : (b s : Bool) (f : Framing) → eqb (length random) 16 ≡ b → ltb (length out) 128 ≡ s → framing_of d ≡ f → acts_in (receive d random out) ≡ acts_by b s f
  acts_are b s f eb es ef = λ i. acts_by (eb i) (es i) (ef i)

  receive_behind : (c : Connection) {s : Step} → CallRow c (receive d random out) s → s.connection ≡ Q.behind c (acts_in (receive d random out))
  unfolding Q.behind
  receive_behind c (receive_16 n) = sym (ap (Q.behind c) (acts_are false (ltb (length out) 128) (framing_of d) (ne_eqb (length random) 16 n) refl refl))
  receive_behind c (receive_6 e l) = sym (ap (Q.behind c) (acts_are true true (framing_of d) (eq-eqb (length random) 16 e) (lt-ltb (length out) 128 l) refl))
  receive_behind c (receive_framing {fault = fault} {at = at} e l f) =
      sym (ap (Q.behind c) (acts_are true false (faulty fault at) (eq-eqb (length random) 16 e) (le-ltb (length out) 128 l) f))
  receive_behind c (receive_records {rs = rs} reply e l f more sends) =
      sym (chain_is random d more).1 ∙ sym (behind_records c random d rs)
      ∙ sym (ap (Q.behind c) (acts_are true false (framed rs) (eq-eqb (length random) 16 e) (le-ltb (length out) 128 l) f))

  sound_by : (b s : Bool) (f : Framing) → eqb (length random) 16 ≡ b → framing_of d ≡ f → SoundActs (acts_by b s f)
  sound_by false s f eb ef = tt
  sound_by true true f eb ef = tt
  sound_by true false (faulty fault at) eb ef = tt
  sound_by true false (framed rs) eb ef =
      records_sound random d (eqb-true (length random) 16 eb) [] rs [] (ef ∙ ap framed (sym (append-nil rs)))

pub call_behind : (c : Connection) (call : Call) → (step_of c call).connection ≡ Q.behind c (acts_in call)
unfolding Q.behind step_of
call_behind c (receive d random out) = receive_behind d random out c (call_of c (receive d random out))
call_behind c (send_data bytes out) = refl
call_behind c (send_alert protected level description answered out) = refl
call_behind c close = refl
call_behind c start = refl

call_sound : (call : Call) → SoundActs (acts_in call)
call_sound (receive d random out) = sound_by d random out (eqb (length random) 16) (ltb (length out) 128) (framing_of d) refl refl
call_sound (send_data bytes out) = (tt, tt)
call_sound (send_alert protected level description answered out) = (tt, tt)
call_sound close = (tt, tt)
call_sound start = (tt, tt)

pub run_behind : (c : Connection) (calls : List Call) → final_of step_of c calls ≡ Q.behind c (acts_of calls)
unfolding final_of acts_of Q.behind
run_behind c [] = refl
run_behind c (call ∷ calls) =
    run_behind (step_of c call).connection calls
    ∙ ap (λ x. Q.behind x (acts_of calls)) (call_behind c call)
    ∙ sym (behind_more c (acts_in call) (acts_of calls))

pub run_sound : (calls : List Call) → SoundActs (acts_of calls)
unfolding acts_of
run_sound [] = tt
run_sound (call ∷ calls) = sound_more (acts_in call) (acts_of calls) (call_sound call) (run_sound calls)

pub runs_are_acts : RunsAreActs
unfolding RunsAreActs
runs_are_acts c calls = (run_behind c calls, run_sound calls)

-- ---- an answer in its place

slot_at : (l : List Answer) (a : Answer) (more : List Answer) (rest : List Slot) → get_or (map slot (l ++ (a ∷ more)) ++ rest) (length l) (slot W.Nothing) ≡ slot a
slot_at [] a more rest = refl
slot_at (b ∷ l) a more rest = slot_at l a more rest

slots_at : (l : List Answer) (a : Answer) (more : List Answer) → get_or (slots_of (l ++ (a ∷ more))) (length l) (slot W.Nothing) ≡ slot a
unfolding slots_of
slots_at l a more = slot_at l a more (replicate (8 - length (l ++ (a ∷ more))) (slot W.Nothing))

answers_more : (c : Connection) (random d : List ℕ) (rs qs : List Record) → answers_of c random d (rs ++ qs) ≡ answers_of c random d rs ++ answers_of (end_of c random d rs) random d qs
unfolding answers_of end_of
answers_more c random d [] qs = refl
answers_more c random d (r ∷ rs) qs =
    ap (λ l. (told_record c random d r).answer ∷ l) (answers_more (told_record c random d r).connection random d rs qs)

length_answers : (c : Connection) (random d : List ℕ) (rs : List Record) → length (answers_of c random d rs) ≡ length rs
unfolding answers_of
length_answers c random d [] = refl
length_answers c random d (r ∷ rs) = ap suc (length_answers (told_record c random d r).connection random d rs)

pub answers_in_place : AnswersInPlace
unfolding AnswersInPlace answers_of
answers_in_place c d random out before r behind e l f =
    let left : Connection = end_of c random d before in
    let all = answers_of c random d before in
    let more = answers_of (told_record left random d r).connection random d behind in
    ap (λ s. (get_or (answers_in s.result) (length before) (slot W.Nothing)).answer) (call_is c (by_chain c {out = out} e l f (chain_of random d c (before ++ (r ∷ behind)))))
    ∙ ap₂ (λ x n. (get_or (slots_of x) n (slot W.Nothing)).answer) (answers_more c random d before (r ∷ behind)) (sym (length_answers c random d before))
    ∙ ap (λ s. s.answer) (slots_at all (told_record left random d r).answer more)
    ∙ sym (ap (λ x. (told_record x random d r).answer) (behind_records c random d before))
