-- A run of calls is a run of events.
use mathlib.Core.Path.{◌≡◌, refl, sym, ◌∙◌, ap, ap₂}
use mathlib.Core.Bool.{Bool, true, false}
use mathlib.Core.List.{List, [], ◌∷◌, ◌++◌, map, append_assoc, append-nil}
use Prim.Native.Nat.{ℕ, ◌<◌}
use native.Mathlib.Omega.{arith}
use lib.ListN.{length, get_or}
use lib.Seq.{take_at}
use lib.Dec.{ltb}
use Rattle.digest.specs.Pick.{pick}
use Rattle.record.specs.Datagram.{Framing, framed, faulty, framing_of, blank}
use Rattle.record.specs.declared.reader.Record.{Record}
use Rattle.unit.specs.Judge.{judged_record}
use Rattle.unit.specs.Receive.{end_of, run_of, whole_of, framed_to, received_of}
use Rattle.unit.specs.declared.unit.Unit.{Unit as Ship}
use Rattle.demands.specs.Genuine.{RecordOf}
use Rattle.demands.specs.Ship.Runs.{Call, hello, again, receive, send_data, send_alert, close, start, step_of, final_of}
use Rattle.demands.specs.Ship.Events.{Event, took, AllSound, records_in, events_in, events_of, next, after}
use Rattle.demands.specs.Ship.InCalls.{RunsAreEvents, AnswersInPlace}
use Rattle.demands.proofs.Exactly.Reasons.{decide}
use Rattle.demands.proofs.Ship.ExactlyReceive.{answered}

pub after_more : (u : Ship) (es fs : List Event) → after u (es ++ fs) ≡ after (after u es) fs
unfolding after
after_more u [] fs = refl
after_more u (e ∷ es) fs = after_more (next u e) es fs

sound_more : (es fs : List Event) → AllSound es → AllSound fs → AllSound (es ++ fs)
sound_more [] fs a b = b
sound_more (e ∷ es) fs a b = (a.0, sound_more es fs a.1 b)

-- the records of a datagram as events
pub after-records : (u : Ship) (d : List ℕ) (rs : List Record) → after u (map (took d) rs) ≡ end_of u d rs
unfolding after end_of
after-records u d [] = refl
after-records u d (r ∷ rs) = after-records (judged_record u d r).unit d rs

records_sound : (d : List ℕ) (before rs behind : List Record) → framing_of d ≡ framed (before ++ (rs ++ behind)) → AllSound (map (took d) rs)
records_sound d before [] behind f = tt
records_sound d before (r ∷ rs) behind f =
    let at : RecordOf d r = record { before = before; behind = rs ++ behind; framing = f } in
    (at, records_sound d (before ++ (r ∷ [])) rs behind (f ∙ ap framed (sym (append_assoc before (r ∷ []) (rs ++ behind)))))

framed-after : (u : Ship) (d : List ℕ) (y : Framing) → (framed_to u d y).unit ≡ after u (records_in d y)
unfolding after run_of whole_of
framed-after u d (framed rs) = sym (after-records u d rs)
framed-after u d (faulty fault at) = refl

receive-after : (u : Ship) (d out : List ℕ) → (step_of u (receive d out)).unit ≡ after u (events_in (receive d out))
unfolding step_of received_of whole_of after
receive-after u d out = decide (ltb (length out) 128) (λ e. rw e refl) (λ e. rw e (framed-after u d (framing_of d)))

sound_by : (d : List ℕ) (b : Bool) (y : Framing) → framing_of d ≡ y → AllSound (pick b [] (records_in d y))
sound_by d true y e = tt
sound_by d false (framed rs) e = records_sound d [] rs [] (e ∙ ap framed (sym (append-nil rs)))
sound_by d false (faulty fault at) e = tt

call-after : (u : Ship) (call : Call) → (step_of u call).unit ≡ after u (events_in call)
unfolding step_of after
call-after u (hello random macs refresh out) = refl
call-after u (again out) = refl
call-after u (receive d out) = receive-after u d out
call-after u (send_data bytes out) = refl
call-after u (send_alert protected level description answered out) = refl
call-after u close = refl
call-after u start = refl

call_sound : (call : Call) → AllSound (events_in call)
call_sound (hello random macs refresh out) = (tt, tt)
call_sound (again out) = (tt, tt)
call_sound (receive d out) = sound_by d (ltb (length out) 128) (framing_of d) refl
call_sound (send_data bytes out) = (tt, tt)
call_sound (send_alert protected level description answered out) = (tt, tt)
call_sound close = (tt, tt)
call_sound start = (tt, tt)

pub run-after : (u : Ship) (calls : List Call) → final_of step_of u calls ≡ after u (events_of calls)
unfolding final_of events_of after
run-after u [] = refl
run-after u (call ∷ calls) =
    run-after (step_of u call).unit calls
    ∙ ap (λ x. after x (events_of calls)) (call-after u call)
    ∙ sym (after_more u (events_in call) (events_of calls))

run_sound : (calls : List Call) → AllSound (events_of calls)
unfolding events_of
run_sound [] = tt
run_sound (call ∷ calls) = sound_more (events_in call) (events_of calls) (call_sound call) (run_sound calls)

pub runs_are_events : RunsAreEvents
unfolding RunsAreEvents
runs_are_events u calls = (run-after u calls, run_sound calls)

-- ---- an answer in its place

module _ (r : Record) (behind : List Record) where
  in_range : (before : List Record) → length before < length (before ++ (r ∷ behind))
  in_range [] = omega arith
  in_range (b ∷ before) = omega (arith, in_range before)

  stands_at : (before : List Record) → get_or (before ++ (r ∷ behind)) (length before) blank ≡ r
  stands_at [] = refl
  stands_at (b ∷ before) = stands_at before

pub answers_in_place : AnswersInPlace
unfolding AnswersInPlace
answers_in_place u calls d out before r behind room f =
    let v : Ship = final_of step_of u calls in
    let left : after u (events_of calls ++ map (took d) before) ≡ end_of v d before
    = after_more u (events_of calls) (map (took d) before)
    ∙ ap (λ x. after x (map (took d) before)) (sym (run-after u calls)) ∙ after-records v d before in
    answered v d out (before ++ (r ∷ behind)) room f (length before) (in_range r behind before)
    ∙ ap₂ (λ rs q. (judged_record (end_of v d rs) d q).answer) (take_at before (r ∷ behind) (length before) refl) (stands_at r behind before)
    ∙ sym (ap (λ x. (judged_record x d r).answer) left)
