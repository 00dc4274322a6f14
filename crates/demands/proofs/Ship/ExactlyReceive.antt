-- A datagram and its records, exactly when. The idea: past 6 the call is its framing, whose reasons are proved ashore; answer i is that of
-- record i in the unit that those before it left.
use mathlib.Core.Path.{◌≡◌, refl, sym, ◌∙◌, ap, subst}
use mathlib.Core.List.{List, [], ◌∷◌, map}
use Prim.Native.Nat.{ℕ, zero, suc, ◌-◌, ◌≤◌, ◌<◌}
use native.Mathlib.Omega.{arith}
use lib.ListN.{length, get_or, take, replicate, length-map, get_or-append}
use lib.Dec.{ltb}
use borrow.Author.Tests.{lt-ltb, le-ltb, ltb-true, ltb-false}
use Rattle.record.specs.Datagram.{Framing, framed, faulty, framing_of, blank}
use Rattle.record.specs.declared.reader.Fault.{Fault}
use Rattle.record.specs.declared.reader.Record.{Record}
use Rattle.connection.specs.declared.receive.Untaken.TheVariants as T
use Rattle.connection.specs.declared.refusal.Refusal.{Refusal}
use Rattle.connection.specs.declared.refusal.Refusal.TheVariants as X
use Rattle.unit.specs.Answer.{slot}
use Rattle.unit.specs.Judge.{judged_record}
use Rattle.unit.specs.Receive.{end_of, answers_of, slots_of, run_of, whole_of, framed_to, received_of}
use Rattle.unit.specs.declared.answer.Answer.{Answer}
use Rattle.unit.specs.declared.answer.Answer.TheVariants.{Nothing}
use Rattle.unit.specs.declared.answer.Slot.{Slot}
use Rattle.unit.specs.declared.receive.Received.{Received}
use Rattle.unit.specs.declared.unit.Unit.{Unit as Ship}
use Rattle.unit.proofs.Running.{length_answers}
use Rattle.demands.specs.Exactly.Whole.{WhyMisframed, SoundlyFramed, start_of}
use Rattle.demands.specs.Exactly.Record.{seen_at}
use Rattle.demands.specs.Ship.Runs.{receive, Returned, received, sent, called, step_of}
use Rattle.demands.specs.Ship.ExactlyRecord.{WhyRecord, ExactlyRecord}
use Rattle.demands.specs.Ship.ExactlyReceive.{WhyWhole, receive_6, ExactlyReceive, answer_given, ExactlyAnswers, GivenExactlyWhen}
use Rattle.demands.proofs.Exactly.Reasons.{numbered, decide}
use Rattle.demands.proofs.Exactly.Whole.{Says, framing-says, faulty-because, framed-because}
use Rattle.demands.proofs.Exactly.Answers.{starts, in_place}
use Rattle.demands.proofs.Ship.ExactlyRecord.{exactly-record}
use Rattle.demands.proofs.Ship.ExactlyCalls.{exactly-fresh, exactly-hello, exactly-again, exactly-data, exactly-alert, exactly-close, exactly-start}
use Rattle.std.specs.Prelude.{Err, Ok}

abbrev ResultHolds : List ℕ → ℕ → Returned → Type 0
ResultHolds d room (received (Ok n) answers written) = (128 ≤ room) × SoundlyFramed d n
ResultHolds d room (received (Err (T.Refused x)) answers written) = WhyWhole room x
ResultHolds d room (received (Err (T.Misframed x at)) answers written) = (128 ≤ room) × WhyMisframed d x at
ResultHolds d room (sent outcome written) = Unit
ResultHolds d room (called outcome) = Unit

module _ (u : Ship) (d out : List ℕ) where
  abbrev result : Returned
  result = (step_of u (receive d out)).result

  abbrev H : Returned → Type 0
  H = ResultHolds d (length out)

  is-room : length out < 128 → result ≡ received (Err (T.Refused X.Room)) (slots_of []) 0
  unfolding step_of received_of whole_of
  is-room o = rw (lt-ltb (length out) 128 o) refl

  -- past 6, by the framing
  abbrev result_by : Framing → Returned
  result_by y = received (framed_to u d y).taken (framed_to u d y).answers (framed_to u d y).written

  is_framed : 128 ≤ length out → result ≡ result_by (framing_of d)
  unfolding step_of received_of
  is_framed o = rw (le-ltb (length out) 128 o) refl

  by-holds : 128 ≤ length out → (y : Framing) → Says d y → H (result_by y)
  unfolding run_of whole_of
  by-holds fits (framed rs) s = (fits, s)
  by-holds fits (faulty f at) w = (fits, w)

  result-holds : H result
  result-holds =
      decide (ltb (length out) 128)
      (λ o. let b = ltb-true (length out) 128 o in subst H (sym (is-room b)) (receive_6 b))
      (λ o. let b = ltb-false (length out) 128 o in subst H (sym (is_framed b)) (by-holds b (framing_of d) (framing-says d)))

  whole-because : (x : Refusal) → WhyWhole (length out) x → result ≡ received (Err (T.Refused x)) (slots_of []) 0
  whole-because (X.Framing _) x3 = elim x3 [ ]
  whole-because X.Ended x3 = elim x3 [ ]
  whole-because X.NotAllowed x4 = elim x4 [ ]
  whole-because X.Forged x5 = elim x5 [ ]
  whole-because X.TooOld x6 = elim x6 [ ]
  whole-because X.Repeated x7 = elim x7 [ ]
  whole-because X.Malformed x8 = elim x8 [ ]
  whole-because X.Unacceptable x9 = elim x9 [ ]
  whole-because X.Checksum x10 = elim x10 [ ]
  whole-because X.Spent x11 = elim x11 [ ]
  whole-because X.Argument x12 = elim x12 [ ]
  whole-because X.WrongFinished x13 = elim x13 [ ]
  whole-because X.Room (receive_6 o) = is-room o

  by-fault : (f : Fault) (at : ℕ) → result_by (faulty f at) ≡ received (Err (T.Misframed (X.Framing f) at)) (slots_of []) 0
  unfolding whole_of
  by-fault f at = refl

  misframed-because : (x : Refusal) (at : ℕ) → 128 ≤ length out → WhyMisframed d x at → result ≡ received (Err (T.Misframed x at)) (slots_of []) 0
  misframed-because (X.Framing f) at fits w = is_framed fits ∙ ap result_by (faulty-because d f at w) ∙ by-fault f at
  misframed-because X.Room at fits w = absurd w
  misframed-because X.Ended at fits w = absurd w
  misframed-because X.NotAllowed at fits w = absurd w
  misframed-because X.Forged at fits w = absurd w
  misframed-because X.TooOld at fits w = absurd w
  misframed-because X.Repeated at fits w = absurd w
  misframed-because X.Malformed at fits w = absurd w
  misframed-because X.Unacceptable at fits w = absurd w
  misframed-because X.Checksum at fits w = absurd w
  misframed-because X.Spent at fits w = absurd w
  misframed-because X.Argument at fits w = absurd w
  misframed-because X.WrongFinished at fits w = absurd w

  by-records : (rs : List Record) → (framed_to u d (framed rs)).taken ≡ Ok (length rs)
  unfolding run_of
  by-records rs = refl

  taken-because : (n : ℕ) → 128 ≤ length out → SoundlyFramed d n
      → (answers : List Slot) × (written : ℕ) × (result ≡ received (Ok n) answers written)
  taken-because n fits s =
      let (rs, f, l) = framed-because d n s in
      let r : Received = framed_to u d (framed rs) in (
        r.answers,
        r.written,
        is_framed fits ∙ ap result_by f ∙ ap (λ t. received t r.answers r.written) (by-records rs ∙ ap Ok l),
      )

pub exactly-receive : ExactlyReceive step_of
exactly-receive =
    record {
      refused = λ u d out x. (λ e. subst (ResultHolds d (length out)) e (result-holds u d out), whole-because u d out x);
      misframed = λ u d out x at. (
        λ e. subst (ResultHolds d (length out)) e (result-holds u d out),
        λ w. misframed-because u d out x at w.0 w.1,
      );
      taken = λ u d out n. (
        λ w. subst (ResultHolds d (length out)) w.2 (result-holds u d out),
        λ w. taken-because u d out n w.0 w.1,
      );
    }

-- ---- answer i is that of record i

answer_at : (rs : List Record) (i : ℕ) (u : Ship) (d : List ℕ) → i < length rs
    → get_or (answers_of u d rs) i Nothing ≡ (judged_record (end_of u d (take i rs)) d (get_or rs i blank)).answer
unfolding answers_of end_of
answer_at [] i u d l = absurd (omega arith)
answer_at (r ∷ rs) zero u d l = refl
answer_at (r ∷ rs) (suc i) u d l = answer_at rs i (judged_record u d r).unit d (omega arith)

slot_map : (l : List Answer) (i : ℕ) → i < length l → get_or (map slot l) i (slot Nothing) ≡ slot (get_or l i Nothing)
slot_map [] i h = absurd (omega arith)
slot_map (a ∷ l) zero h = refl
slot_map (a ∷ l) (suc i) h = slot_map l i (omega arith)

slot_at : (l : List Answer) (i : ℕ) → i < length l → (get_or (slots_of l) i (slot Nothing)).answer ≡ get_or l i Nothing
unfolding slots_of
slot_at l i h =
    ap (λ s. s.answer)
    (get_or-append (map slot l) (replicate (8 - length l) (slot Nothing)) (slot Nothing) i (omega (arith, length-map l slot)) ∙ slot_map l i h)

pub answered : (u : Ship) (d out : List ℕ) (rs : List Record) → 128 ≤ length out → framing_of d ≡ framed rs → (i : ℕ) → i < length rs
    → answer_given (step_of u (receive d out)).result i ≡ (judged_record (end_of u d (take i rs)) d (get_or rs i blank)).answer
unfolding step_of received_of run_of
answered u d out rs room f i h =
    rw (le-ltb (length out) 128 room, f)
    (slot_at (answers_of u d rs) i (omega (arith, length_answers u d rs)) ∙ answer_at rs i u d h)

pub exactly-answers : ExactlyAnswers step_of
unfolding ExactlyAnswers ExactlyRecord
exactly-answers u d out rs bytes room f i h numbers holds x =
    let r : Record = get_or rs i blank in
    let left : Ship = end_of u d (take i rs) in
    let here : r.start ≡ start_of d i = starts d rs f i h in
    let e = answered u d out rs room f i h in
    let both = exactly-record left numbers d r bytes (in_place d rs f i h) holds x in (
      λ a. subst (λ k. WhyRecord left numbers (seen_at d k) x) here (both.0 (sym e ∙ a)),
      λ y. e ∙ both.1 (subst (λ k. WhyRecord left numbers (seen_at d k) x) (sym here) y),
    )

pub given-exactly-when : GivenExactlyWhen step_of
given-exactly-when =
    record {
      numbers = numbered;
      fresh_unit = exactly-fresh;
      says_hello = exactly-hello;
      says_again = exactly-again;
      receive_whole = exactly-receive;
      receive_each = exactly-answers;
      each_record = exactly-record;
      sends_data = exactly-data;
      sends_alert = exactly-alert;
      closes = exactly-close;
      starts_again = exactly-start;
    }
