-- An exported call on bytes that hold c: the tests that come before layer 4's call are decided both ways; where it is made, its definition
-- is that of the contract on c. A run is its calls, one after the other.
use mathlib.Core.Path.{◌≡◌, refl, sym, ◌∙◌, ap, subst}
use mathlib.Core.Bool.{Bool, true, false}
use mathlib.Core.List.{List, [], ◌∷◌, ◌++◌}
use Prim.Native.Nat.{ℕ, zero, suc, ◌+◌, ◌<◌}
use native.Mathlib.Omega.{arith}
use lib.ListN.{length, get_or}
use lib.Dec.{eqb}
use borrow.Author.Tests.{eq-eqb, eqb-false}
use Rattle.digest.specs.Pick.{pick}
use Rattle.connection.specs.Calls.{fresh_of, leaving, closed_of, started_of}
use Rattle.connection.specs.Receive.{received_of, output_of, slot, slots_of}
use Rattle.connection.specs.Send.{data_sent, data_output, alert_sent, alert_output}
use Rattle.connection.specs.Tally.{bumped, counted_refusal, counted_answer, counted_first, counted_of}
use Rattle.connection.specs.declared.answer.Answer.{Answer}
use Rattle.connection.specs.declared.answer.Answer.TheVariants as W
use Rattle.connection.specs.declared.answer.Slot.{Slot}
use Rattle.connection.specs.declared.connection.Connection.{Connection}
use Rattle.connection.specs.declared.calls.Called.{Called}
use Rattle.connection.specs.declared.receive.Untaken.TheVariants as T
use Rattle.connection.specs.declared.receive.Received.{Received}
use Rattle.connection.specs.declared.refusal.Refusal.{Refusal}
use Rattle.connection.specs.declared.refusal.Refusal.TheVariants as X
use Rattle.connection.specs.declared.send.Sent.{Sent}
use Rattle.connection.specs.declared.tally.Tally.{Tally}
use Rattle.lent.specs.Saved.{state_size, is_saved, saved_of, connection_in, Is, No, loaded}
use Rattle.lent.specs.Counts.{tally_in, tally_bytes, TallyRanged}
use Rattle.lent.specs.Report.{report_of}
use Rattle.lent.specs.Calls.{result_of, not_taken, refusal_in, left_in, left_loaded, lent_for, taken_result, where_taken, got}
use Rattle.lent.specs.Calls.{fresh_loads, close_result, close_state, close_loads, start_result, start_state, start_loads}
use Rattle.lent.specs.Calls.{data_result, data_state, data_loads, data_out, alert_result, alert_state, alert_loads, alert_out}
use Rattle.lent.specs.Calls.{receive_result, receive_state, receive_loads, receive_tally, receive_answers, receive_out}
use Rattle.lent.proofs.TallyHolds.{tally_held}
use Rattle.demands.specs.Runs as R
use Rattle.demands.specs.Runs.{Call, Returned, Step, step_of, steps_of, final_of, fresh_one}
use Rattle.demands.specs.Calls.{CallRow, receive_16, receive_6, receive_framing, receive_records, fresh_done, FreshHolds}
use Rattle.demands.specs.Refusals.{NotDone, IsRefused, RefusedCallChangesNothing}
use Rattle.demands.specs.LeftOut.{tallied_in, tallied_by}
use Rattle.demands.proofs.Calls.{call_of, fresh_holds}
use Rattle.demands.proofs.Refusals.{refused_call}
use Rattle.exported.specs.Runs.{Exported, receive, send_data, send_alert, close, start, state_after, loads_after, tally_after, calls_in, number_of, answers_of, number_in, out_in, answers_in, IsLayer4, EachIsLayer4, final_state, final_tally, calls_of, RunsAreLayer4, FreshIsLayer4, Refused16, SixteenFirst, ExportedHolds}
use Rattle.std.specs.Prelude.{Err, Ok, ⊤, Result}
use Rattle.connection.specs.declared.receive.Untaken.{Untaken}

-- ---- bytes that hold c

loaded_saved : (state : List ℕ) (c : Connection) → loaded state ≡ Is c → (is_saved state ≡ true) × (connection_in state ≡ c)
unfolding loaded
loaded_saved state c e = by (is_saved state) refl e
  where
    by : (b : Bool) → is_saved state ≡ b → loaded state ≡ Is c → (is_saved state ≡ true) × (connection_in state ≡ c)
    by true t e = (t, (let z : Is (connection_in state) ≡ Is c = sym (ap (λ (x : Bool). pick x (Is (connection_in state)) No) t) ∙ e in cc))
    by false t e = let z : No ≡ Is c = sym (ap (λ (x : Bool). pick x (Is (connection_in state)) No) t) ∙ e in let n : ◌≡◌ {A = ℕ} 0 1 = cc in absurd (omega arith)

-- ---- ranges of the tally

bumped_below : (n : ℕ) → n < 4294967296 → bumped n < 4294967296
unfolding bumped
bumped_below n h = by (eqb n 4294967295) refl
  where
    by : (b : Bool) → eqb n 4294967295 ≡ b → bumped n < 4294967296
    by true t = subst (λ x. x < 4294967296) (sym (ap (λ (b : Bool). pick b n (n + 1)) t)) h
    by false t = subst (λ x. x < 4294967296) (sym (ap (λ (b : Bool). pick b n (n + 1)) t)) (let d = eqb-false n 4294967295 t in omega (arith, h, d))

refusal_ranged : (t : Tally) (x : Refusal) → TallyRanged t → TallyRanged (counted_refusal t x)
refusal_ranged t (X.Framing fault) r = r
refusal_ranged t X.Room r = r
refusal_ranged t X.Ended r = r
refusal_ranged t X.NotAllowed r = r
refusal_ranged t X.Forged r = record { handed = r.handed; forged = bumped_below t.forged r.forged; old = r.old; repeated = r.repeated }
refusal_ranged t X.TooOld r = record { handed = r.handed; forged = r.forged; old = bumped_below t.old r.old; repeated = r.repeated }
refusal_ranged t X.Repeated r = record { handed = r.handed; forged = r.forged; old = r.old; repeated = bumped_below t.repeated r.repeated }
refusal_ranged t X.Malformed r = r
refusal_ranged t X.Unacceptable r = r
refusal_ranged t X.Checksum r = r
refusal_ranged t X.Spent r = r
refusal_ranged t X.Argument r = r
refusal_ranged t X.WrongFinished r = r

answer_ranged : (t : Tally) (a : Answer) → TallyRanged t → TallyRanged (counted_answer t a)
answer_ranged t W.Nothing r = r
answer_ranged t (W.Reply size) r = r
answer_ranged t (W.Resent size) r = r
answer_ranged t W.Spec r = r
answer_ranged t W.Open r = r
answer_ranged t W.Again r = r
answer_ranged t (W.Data number place size) r = record { handed = bumped_below t.handed r.handed; forged = r.forged; old = r.old; repeated = r.repeated }
answer_ranged t (W.Warning description) r = r
answer_ranged t (W.Critical description) r = r
answer_ranged t (W.Fatal description) r = r
answer_ranged t (W.Barred description) r = r
answer_ranged t (W.Refused x) r = refusal_ranged t x r

first_ranged : (t : Tally) (answers : List Slot) (n : ℕ) → TallyRanged t → TallyRanged (counted_first t answers n)
unfolding counted_first
first_ranged t answers zero r = r
first_ranged t answers (suc n) r = answer_ranged (counted_first t answers n) (get_or answers n (slot W.Nothing)).answer (first_ranged t answers n r)

back : (t : Tally) → TallyRanged t → tally_in (tally_bytes t) ≡ t
back t r = tally_held.back t r

-- ---- what is left by a call of layer 4 that is refused

-- eight places without an answer count nothing
count_none : (t : Tally) → counted_of t (slots_of []) ≡ t
unfolding counted_first slots_of
count_none t = refl

abbrev taken_in : Returned → Result ℕ Untaken
taken_in (R.received taken answers written) = taken
taken_in (R.sent outcome written) = Ok 0
taken_in (R.called outcome) = Ok 0

module _ (c : Connection) (d random out : List ℕ) (t : Tally) where
  abbrev Left : Step → Type 0
  Left s =
      (where_taken (taken_in s.result) (Is s.connection) (Is c) ≡ Is s.connection)
      × (where_taken (taken_in s.result) (tallied_in t s.result) t ≡ tallied_in t s.result)

  left_by : {s : Step} → CallRow c (R.receive d random out) s → Left s
  left_by (receive_16 n) = (refl, sym (count_none t))
  left_by (receive_6 e l) = (refl, sym (count_none t))
  left_by (receive_framing e l f) = (refl, sym (count_none t))
  left_by (receive_records reply e l f more sends) = (refl, refl)

  left_received : Left (step_of c (R.receive d random out))
  left_received = left_by (call_of c (R.receive d random out))

not_done : (c : Connection) (call : Call) → IsRefused (step_of c call).result → (step_of c call).connection ≡ c
unfolding RefusedCallChangesNothing
not_done c call x = (refused_call c call x).0

left_loaded_lem : (state : List ℕ) (c a : Connection) (o : Result ⊤ Refusal) → loaded state ≡ Is c → (NotDone o → a ≡ c) → left_loaded state a o ≡ Is a
left_loaded_lem state c a (Ok tt) e n = refl
left_loaded_lem state c a (Err x) e n = e ∙ ap Is (sym (n tt))

-- ---- a call on bytes that hold the connection that is read from them

module _ (state tally : List ℕ) (e : loaded state ≡ Is (connection_in state)) where
  abbrev c : Connection
  c = connection_in state

  module _ (d random out answers : List ℕ) (ranged : TallyRanged (tally_in tally)) where
    abbrev call : Call
    call = R.receive d random out

    abbrev r : Received
    r = received_of c d random (length out)

    abbrev made : Bool → List Call
    made b = pick b (R.receive d random out ∷ []) []

    received_loads : (b : Bool) → pick b (where_taken r.taken (Is r.connection) (loaded state)) (loaded state) ≡ Is (final_of step_of c (made b))
    unfolding final_of step_of
    received_loads true =
        ap (λ x. where_taken r.taken (Is r.connection) x) e ∙ (left_received c d random out (tally_in tally)).0
    received_loads false = e

    received_result : (b : Bool) → pick b (taken_result r.written r.taken) not_taken ≡ number_in (steps_of step_of c (made b))
    unfolding steps_of step_of
    received_result true = refl
    received_result false = refl

    received_out : (b : Bool) → pick b (output_of c d random out) out ≡ out_in out (steps_of step_of c (made b))
    unfolding steps_of step_of
    received_out true = refl
    received_out false = refl

    received_answers : (b : Bool) → pick b (where_taken r.taken (report_of r.answers) answers) answers ≡ answers_in answers (steps_of step_of c (made b))
    unfolding steps_of step_of
    received_answers true = refl
    received_answers false = refl

    read_where : (taken : Result ℕ Untaken) (x : Tally) → tally_in (where_taken taken (tally_bytes x) tally) ≡ where_taken taken (tally_in (tally_bytes x)) (tally_in tally)
    read_where (Ok count) x = refl
    read_where (Err (T.Refused refusal)) x = refl
    read_where (Err (T.Misframed refusal at)) x = refl

    received_tally : (b : Bool) → tally_in (pick b (where_taken r.taken (tally_bytes (counted_of (tally_in tally) r.answers)) tally) tally)
        ≡ tallied_by step_of (tally_in tally) c (made b)
    unfolding tallied_by step_of
    received_tally true =
        let x : Tally = counted_of (tally_in tally) r.answers in
        read_where r.taken x
        ∙ ap (λ y. where_taken r.taken y (tally_in tally)) (back x (first_ranged (tally_in tally) r.answers 8 ranged))
        ∙ (left_received c d random out (tally_in tally)).1
    received_tally false = refl

    receive_is : loaded (receive_state state tally answers d random (length out)) ≡ receive_loads state tally answers d random (length out)
        → IsLayer4 c state tally (receive d random out answers)
    unfolding receive_result receive_state receive_loads receive_tally receive_answers receive_out
    receive_is kept =
        let b : Bool = lent_for state (length tally) (length answers) in
        record {
          connection = kept ∙ received_loads b;
          result = received_result b;
          output = received_out b;
          answers = received_answers b;
          counted = received_tally b;
        }

  module _ (bytes out : List ℕ) where
    abbrev s : Sent
    s = data_sent c bytes (length out)

    data_loads_lem : (b : Bool) → pick b (left_loaded state s.connection s.outcome) (loaded state) ≡ Is (final_of step_of c (pick b (R.send_data bytes out ∷ []) []))
    unfolding final_of step_of
    data_loads_lem true = left_loaded_lem state c s.connection s.outcome e (not_done c (R.send_data bytes out))
    data_loads_lem false = e

    data_result_lem : (b : Bool) → pick b (result_of (refusal_in s.outcome) s.written 0) not_taken ≡ number_in (steps_of step_of c (pick b (R.send_data bytes out ∷ []) []))
    unfolding steps_of step_of
    data_result_lem true = refl
    data_result_lem false = refl

    data_out_lem : (b : Bool) → pick b (data_output c bytes out) out ≡ out_in out (steps_of step_of c (pick b (R.send_data bytes out ∷ []) []))
    unfolding steps_of step_of
    data_out_lem true = refl
    data_out_lem false = refl

    data_answers : (b : Bool) → [] ≡ answers_in [] (steps_of step_of c (pick b (R.send_data bytes out ∷ []) []))
    unfolding steps_of step_of
    data_answers true = refl
    data_answers false = refl

    data_tally : (b : Bool) → tally_in tally ≡ tallied_by step_of (tally_in tally) c (pick b (R.send_data bytes out ∷ []) [])
    unfolding tallied_by step_of
    data_tally true = refl
    data_tally false = refl

    data_is : loaded (data_state state bytes (length out)) ≡ data_loads state bytes (length out) → IsLayer4 c state tally (send_data bytes out)
    unfolding data_result data_state data_loads data_out
    data_is kept =
        record {
          connection = kept ∙ data_loads_lem (is_saved state);
          result = data_result_lem (is_saved state);
          output = data_out_lem (is_saved state);
          answers = data_answers (is_saved state);
          counted = data_tally (is_saved state);
        }

  module _ (protected level description : ℕ) (answered out : List ℕ) where
    abbrev a : Bool → Sent
    a protected = alert_sent c protected level description answered (length out)

    abbrev alerts : Bool → Bool → Bool → List Call
    alerts b z o =
        pick b (pick z (R.send_alert false level description answered out ∷ []) (pick o (R.send_alert true level description answered out ∷ []) [])) []

    alert_loads_lem : (b z o : Bool)
        → pick b (pick z (left_loaded state (a false).connection (a false).outcome) (pick o (left_loaded state (a true).connection (a true).outcome) (loaded state))) (loaded state)
        ≡ Is (final_of step_of c (alerts b z o))
    unfolding final_of step_of
    alert_loads_lem true true o =
        left_loaded_lem state c (a false).connection (a false).outcome e (not_done c (R.send_alert false level description answered out))
    alert_loads_lem true false true =
        left_loaded_lem state c (a true).connection (a true).outcome e (not_done c (R.send_alert true level description answered out))
    alert_loads_lem true false false = e
    alert_loads_lem false z o = e

    alert_result_lem : (b z o : Bool)
        → pick b (pick z (result_of (refusal_in (a false).outcome) (a false).written 0) (pick o (result_of (refusal_in (a true).outcome) (a true).written 0) not_taken)) not_taken
        ≡ number_in (steps_of step_of c (alerts b z o))
    unfolding steps_of step_of
    alert_result_lem true true o = refl
    alert_result_lem true false true = refl
    alert_result_lem true false false = refl
    alert_result_lem false z o = refl

    alert_out_lem : (b z o : Bool)
        → pick b (pick z (alert_output c false level description answered out) (pick o (alert_output c true level description answered out) out)) out
        ≡ out_in out (steps_of step_of c (alerts b z o))
    unfolding steps_of step_of
    alert_out_lem true true o = refl
    alert_out_lem true false true = refl
    alert_out_lem true false false = refl
    alert_out_lem false z o = refl

    alert_answers : (b z o : Bool) → [] ≡ answers_in [] (steps_of step_of c (alerts b z o))
    unfolding steps_of step_of
    alert_answers true true o = refl
    alert_answers true false true = refl
    alert_answers true false false = refl
    alert_answers false z o = refl

    alert_tally : (b z o : Bool) → tally_in tally ≡ tallied_by step_of (tally_in tally) c (alerts b z o)
    unfolding tallied_by step_of
    alert_tally true true o = refl
    alert_tally true false true = refl
    alert_tally true false false = refl
    alert_tally false z o = refl

    alert_is : loaded (alert_state state protected level description answered (length out)) ≡ alert_loads state protected level description answered (length out)
        → IsLayer4 c state tally (send_alert protected level description answered out)
    unfolding alert_result alert_state alert_loads alert_out
    alert_is kept =
        record {
          connection = kept ∙ alert_loads_lem (is_saved state) (eqb protected 0) (eqb protected 1);
          result = alert_result_lem (is_saved state) (eqb protected 0) (eqb protected 1);
          output = alert_out_lem (is_saved state) (eqb protected 0) (eqb protected 1);
          answers = alert_answers (is_saved state) (eqb protected 0) (eqb protected 1);
          counted = alert_tally (is_saved state) (eqb protected 0) (eqb protected 1);
        }

  -- close and start again
  module _ (of : Connection → Called) (call : Call) (is : step_of c call ≡ R.called_as (of c)) where
    abbrev alone : Bool → List Call
    alone b = pick b (call ∷ []) []

    called_loads_lem : (b : Bool) → pick b (left_loaded state (of c).connection (of c).outcome) (loaded state) ≡ Is (final_of step_of c (alone b))
    unfolding final_of
    called_loads_lem true =
        left_loaded_lem state c (of c).connection (of c).outcome e (λ n. sym (ap (λ x. x.connection) is) ∙ not_done c call (subst (λ x. IsRefused x.result) (sym is) n))
        ∙ sym (ap (λ x. Is x.connection) is)
    called_loads_lem false = e

    called_result_lem : (b : Bool) → pick b (result_of (refusal_in (of c).outcome) 0 0) not_taken ≡ number_in (steps_of step_of c (alone b))
    unfolding steps_of
    called_result_lem true = sym (ap (λ x. number_of x.result) is)
    called_result_lem false = refl

    called_out : (b : Bool) → [] ≡ out_in [] (steps_of step_of c (alone b))
    unfolding steps_of
    called_out true = sym (ap (λ x. x.output) is)
    called_out false = refl

    called_answers : (b : Bool) → [] ≡ answers_in [] (steps_of step_of c (alone b))
    unfolding steps_of
    called_answers true = sym (ap (λ x. answers_of [] x.result) is)
    called_answers false = refl

    called_tally : (b : Bool) → tally_in tally ≡ tallied_by step_of (tally_in tally) c (alone b)
    unfolding tallied_by
    called_tally true = sym (ap (λ x. tallied_in (tally_in tally) x.result) is)
    called_tally false = refl

  step_close : step_of c R.close ≡ R.called_as (closed_of c)
  unfolding step_of
  step_close = refl

  step_start : step_of c R.start ≡ R.called_as (started_of c)
  unfolding step_of
  step_start = refl

  close_is : loaded (close_state state) ≡ close_loads state → IsLayer4 c state tally close
  unfolding close_result close_state close_loads
  close_is kept =
      record {
        connection = kept ∙ called_loads_lem closed_of R.close step_close (is_saved state);
        result = called_result_lem closed_of R.close step_close (is_saved state);
        output = called_out closed_of R.close step_close (is_saved state);
        answers = called_answers closed_of R.close step_close (is_saved state);
        counted = called_tally closed_of R.close step_close (is_saved state);
      }

  start_is : loaded (start_state state) ≡ start_loads state → IsLayer4 c state tally start
  unfolding start_result start_state start_loads
  start_is kept =
      record {
        connection = kept ∙ called_loads_lem started_of R.start step_start (is_saved state);
        result = called_result_lem started_of R.start step_start (is_saved state);
        output = called_out started_of R.start step_start (is_saved state);
        answers = called_answers started_of R.start step_start (is_saved state);
        counted = called_tally started_of R.start step_start (is_saved state);
      }

  one_is : (call : Exported) → TallyRanged (tally_in tally) → loaded (state_after state tally call) ≡ loads_after state tally call → IsLayer4 c state tally call
  one_is (receive d random out answers) ranged kept = receive_is d random out answers ranged kept
  one_is (send_data bytes out) ranged kept = data_is bytes out kept
  one_is (send_alert protected level description answered out) ranged kept = alert_is protected level description answered out kept
  one_is close ranged kept = close_is kept
  one_is start ranged kept = start_is kept

pub each_is_layer_4 : EachIsLayer4
unfolding EachIsLayer4
each_is_layer_4 state tally c call e ranged kept =
    let q = loaded_saved state c e in
    subst (λ x. IsLayer4 x state tally call) q.1 (one_is state tally (e ∙ ap Is (sym q.1)) call ranged kept)

-- ---- runs

-- a tally that is read back stays within its range
picked_stays : (tally : List ℕ) (x : Tally) → TallyRanged (tally_in tally) → TallyRanged x → (b : Bool) (taken : Result ℕ Untaken)
    → TallyRanged (tally_in (pick b (where_taken taken (tally_bytes x) tally) tally))
picked_stays tally x ranged more true (Ok count) = subst TallyRanged (sym (back x more)) more
picked_stays tally x ranged more true (Err (T.Refused refusal)) = ranged
picked_stays tally x ranged more true (Err (T.Misframed refusal at)) = ranged
picked_stays tally x ranged more false taken = ranged

tally_stays : (state tally : List ℕ) (call : Exported) → TallyRanged (tally_in tally) → TallyRanged (tally_in (tally_after state tally call))
unfolding receive_tally
tally_stays state tally (receive d random out answers) ranged =
    let g = got state d random (length out) in
    picked_stays tally (counted_of (tally_in tally) g.answers) ranged (first_ranged (tally_in tally) g.answers 8 ranged)
    (lent_for state (length tally) (length answers)) g.taken
tally_stays state tally (send_data bytes out) ranged = ranged
tally_stays state tally (send_alert protected level description answered out) ranged = ranged
tally_stays state tally close ranged = ranged
tally_stays state tally start ranged = ranged

final_more : (c : Connection) (a b : List Call) → final_of step_of c (a ++ b) ≡ final_of step_of (final_of step_of c a) b
unfolding final_of
final_more c [] b = refl
final_more c (call ∷ a) b = final_more (step_of c call).connection a b

tallied_more : (t : Tally) (c : Connection) (a b : List Call) → tallied_by step_of t c (a ++ b) ≡ tallied_by step_of (tallied_by step_of t c a) (final_of step_of c a) b
unfolding final_of tallied_by
tallied_more t c [] b = refl
tallied_more t c (call ∷ a) b = tallied_more (tallied_in t (step_of c call).result) (step_of c call).connection a b

pub runs_are_layer_4 : RunsAreLayer4
unfolding RunsAreLayer4 EachIsLayer4 final_state final_tally calls_of final_of tallied_by
runs_are_layer_4 [] state tally c e ranged kept = (e, refl, tt)
runs_are_layer_4 (call ∷ calls) state tally c e ranged kept =
    let one = each_is_layer_4 state tally c call e ranged kept.0 in
    let after : List ℕ = state_after state tally call in
    let counted : List ℕ = tally_after state tally call in
    let here : List Call = calls_in state tally call in
    let later : List Call = calls_of after counted calls in
    let q = runs_are_layer_4 calls after counted (final_of step_of c here) one.connection (tally_stays state tally call ranged) kept.1 in (
      q.0 ∙ ap Is (sym (final_more c here later)),
      q.1 ∙ ap (λ t. tallied_by step_of t (final_of step_of c here) later) one.counted ∙ sym (tallied_more (tally_in tally) c here later),
      (one, q.2),
    )

-- ---- fresh

fresh_picked : (b : Bool) (state : List ℕ) (c : Connection) (o : Result ⊤ Refusal) → b ≡ true → o ≡ Ok tt → pick b (left_loaded state c o) (loaded state) ≡ Is c
fresh_picked true state c (Ok tt) t d = refl
fresh_picked true state c (Err x) t d = let z : ◌≡◌ {A = ℕ} 0 1 = cc in absurd (omega arith)
fresh_picked false state c o t d = let z : ◌≡◌ {A = ℕ} 0 1 = cc in absurd (omega arith)

pub fresh_is_layer_4 : FreshIsLayer4
unfolding FreshIsLayer4 fresh_loads FreshHolds
fresh_is_layer_4 id secret width state size eight twenty held kept =
    let made = (fresh_holds id secret width (leaving (Ok tt) (fresh_one id secret width))).1 (fresh_done eight twenty held) in
    kept
    ∙ fresh_picked (eqb (length state) state_size) state (fresh_of id secret width).connection (fresh_of id secret width).outcome (eq-eqb (length state) state_size size)
    (ap (λ x. x.outcome) made)
    ∙ ap (λ x. Is x.connection) made

-- ---- 16 comes first

some_call : {P : Type 0} (call : Call) → call ∷ [] ≡ [] → P
some_call call e = let z : ◌≡◌ {A = ℕ} 1 0 = ap length e in absurd (omega arith)

module _ (state tally : List ℕ) where
  -- a call whose definitions are picked by one test
  record Picked (result : ℕ) (left counted out answers : List ℕ) (lent_out_lem lent-answers : List ℕ) : Type 0 where
    result_is : result ≡ not_taken
    state_is : left ≡ state
    tally_is : counted ≡ tally
    out_is : out ≡ lent_out_lem
    answers_is : answers ≡ lent-answers

  picked : (b : Bool) (call : Call) (n : ℕ) (left counted out answers lent_out_lem lent-answers : List ℕ) → pick b (call ∷ []) [] ≡ []
      → Picked (pick b n not_taken) (pick b left state) (pick b counted tally) (pick b out lent_out_lem) (pick b answers lent-answers) lent_out_lem lent-answers
  picked true call n left counted out answers lent_out_lem lent-answers none = some_call call none
  picked false call n left counted out answers lent_out_lem lent-answers none =
      record { result_is = refl; state_is = refl; tally_is = refl; out_is = refl; answers_is = refl }

  receive_16_first : (d random out answers : List ℕ) → calls_in state tally (receive d random out answers) ≡ [] → Refused16 state tally (receive d random out answers)
  unfolding receive_result receive_state receive_tally receive_answers receive_out
  receive_16_first d random out answers none =
      let r = got state d random (length out) in
      let p = picked (lent_for state (length tally) (length answers)) (R.receive d random out) (taken_result r.written r.taken)
      (where_taken r.taken (saved_of r.connection) state) (where_taken r.taken (tally_bytes (counted_of (tally_in tally) r.answers)) tally)
      (output_of (connection_in state) d random out) (where_taken r.taken (report_of r.answers) answers) out answers none in
      record { result = p.result_is; state_same = p.state_is; tally_same = p.tally_is; out_same = p.out_is; answers_same = p.answers_is }

  data_16_first : (bytes out : List ℕ) → calls_in state tally (send_data bytes out) ≡ [] → Refused16 state tally (send_data bytes out)
  unfolding data_result data_state data_out
  data_16_first bytes out none =
      let s = data_sent (connection_in state) bytes (length out) in
      let p = picked (is_saved state) (R.send_data bytes out) (result_of (refusal_in s.outcome) s.written 0) (left_in state s.connection s.outcome) tally
      (data_output (connection_in state) bytes out) [] out [] none in
      record { result = p.result_is; state_same = p.state_is; tally_same = refl; out_same = p.out_is; answers_same = refl }

  called_16_first : (of : Connection → Called) (call : Call) → pick (is_saved state) (call ∷ []) [] ≡ []
      → (pick (is_saved state) (result_of (refusal_in (of (connection_in state)).outcome) 0 0) not_taken ≡ not_taken)
      × (pick (is_saved state) (left_in state (of (connection_in state)).connection (of (connection_in state)).outcome) state ≡ state)
  called_16_first of call none =
      let p = picked (is_saved state) call (result_of (refusal_in (of (connection_in state)).outcome) 0 0)
      (left_in state (of (connection_in state)).connection (of (connection_in state)).outcome) tally [] [] [] [] none in
      (p.result_is, p.state_is)

  close_16_first : calls_in state tally close ≡ [] → Refused16 state tally close
  unfolding close_result close_state
  close_16_first none =
      let q = called_16_first closed_of R.close none in
      record { result = q.0; state_same = q.1; tally_same = refl; out_same = refl; answers_same = refl }

  start_16_first : calls_in state tally start ≡ [] → Refused16 state tally start
  unfolding start_result start_state
  start_16_first none =
      let q = called_16_first started_of R.start none in
      record { result = q.0; state_same = q.1; tally_same = refl; out_same = refl; answers_same = refl }

  -- an alert, by three tests
  alerted : (b z o : Bool) (clear protected : Call) (n m : ℕ) (left kept out-clear out-protected out : List ℕ)
      → pick b (pick z (clear ∷ []) (pick o (protected ∷ []) [])) [] ≡ []
      → (pick b (pick z n (pick o m not_taken)) not_taken ≡ not_taken)
      × (pick b (pick z left (pick o kept state)) state ≡ state) × (pick b (pick z out-clear (pick o out-protected out)) out ≡ out)
  alerted true true o clear protected n m left kept out-clear out-protected out none = some_call clear none
  alerted true false true clear protected n m left kept out-clear out-protected out none = some_call protected none
  alerted true false false clear protected n m left kept out-clear out-protected out none = (refl, refl, refl)
  alerted false z o clear protected n m left kept out-clear out-protected out none = (refl, refl, refl)

  alert_16_first : (protected level description : ℕ) (answered out : List ℕ) → calls_in state tally (send_alert protected level description answered out) ≡ []
      → Refused16 state tally (send_alert protected level description answered out)
  unfolding alert_result alert_state alert_out
  alert_16_first protected level description answered out none =
      let k : Connection = connection_in state in
      let f : Sent = alert_sent k false level description answered (length out) in
      let t : Sent = alert_sent k true level description answered (length out) in
      let q = alerted (is_saved state) (eqb protected 0) (eqb protected 1) (R.send_alert false level description answered out) (R.send_alert true level description answered out)
      (result_of (refusal_in f.outcome) f.written 0) (result_of (refusal_in t.outcome) t.written 0)
      (left_in state f.connection f.outcome) (left_in state t.connection t.outcome)
      (alert_output k false level description answered out) (alert_output k true level description answered out) out none in
      record { result = q.0; state_same = q.1; tally_same = refl; out_same = q.2; answers_same = refl }

pub sixteen_first : SixteenFirst
unfolding SixteenFirst
sixteen_first state tally (receive d random out answers) none = receive_16_first state tally d random out answers none
sixteen_first state tally (send_data bytes out) none = data_16_first state tally bytes out none
sixteen_first state tally (send_alert protected level description answered out) none = alert_16_first state tally protected level description answered out none
sixteen_first state tally close none = close_16_first state tally none
sixteen_first state tally start none = start_16_first state tally none

pub exported_holds : ExportedHolds
exported_holds = record { sixteen = sixteen_first; fresh = fresh_is_layer_4; each = each_is_layer_4; runs = runs_are_layer_4 }
