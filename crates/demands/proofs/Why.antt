-- The tool that names the reason. The idea: where receive comes to a record, so does the tool (`Point`), and the reason is told by the
-- answer; where the datagram is refused as a whole, by the fault.
use mathlib.Core.Path.{◌≡◌, refl, sym, ap, subst, ◌∙◌}
use mathlib.Core.Logic.{◌↔◌, ◌⊎◌, ◌≢◌, inl, inr}
use mathlib.Core.Bool.{true, false}
use mathlib.Core.List.{List, [], ◌∷◌, ◌++◌, map}
use Prim.Native.Nat.{ℕ, ◌+◌, ◌≤◌, ◌<◌}
use native.Mathlib.Omega.{arith}
use lib.ListN.{length, get_or, take, drop, length-drop}
use lib.Dec.{eqb, ltb}
use borrow.Author.Tests.{eq-eqb, ne_eqb, eqb-true, eqb-false, lt-ltb, le-ltb, ltb-true, ltb-false}
use Rattle.record.specs.Datagram.{Framing, framed, faulty, framing_of, blank}
use Rattle.record.specs.Reader.{fault_number}
use Rattle.record.specs.Window.{Held}
use Rattle.record.specs.History.{window_of}
use Rattle.record.specs.declared.reader.Fault.{Fault}
use Rattle.record.specs.declared.reader.Fault.TheVariants as F
use Rattle.record.specs.declared.reader.Record.{Record}
use Rattle.connection.specs.Answer.{answer_number}
use Rattle.connection.specs.Asked.{asked_of, whom_of}
use Rattle.connection.specs.Calls.{session_of}
use Rattle.connection.specs.Judge.{judged_record, fragment_of, kind_in}
use Rattle.connection.specs.Point.{point_on, point_at, point_among, point_of}
use Rattle.connection.specs.Receive.{end_of}
use Rattle.connection.specs.Refusal.{refusal_number}
use Rattle.connection.specs.Told.{told_record}
use Rattle.connection.specs.declared.answer.Answer.{Answer}
use Rattle.connection.specs.declared.answer.Answer.TheVariants as W
use Rattle.connection.specs.declared.answer.Judged.{Judged}
use Rattle.connection.specs.declared.asked.Whom.{Whom}
use Rattle.connection.specs.declared.connection.Connection.{Connection}
use Rattle.connection.specs.declared.handshake.Handshake.{Handshake}
use Rattle.connection.specs.declared.handshake.Session.{Session}
use Rattle.connection.specs.declared.point.Point.{Point}
use Rattle.connection.specs.declared.refusal.Refusal.{Refusal}
use Rattle.connection.specs.declared.refusal.Refusal.TheVariants as X
use Rattle.connection.specs.declared.sent.SentRecords.{SentRecords}
use Rattle.why.specs.Framing.{fault_reason}
use Rattle.why.specs.Opening.{both_tried, forged_by}
use Rattle.why.specs.Hello.{unmet_of}
use Rattle.why.specs.Reason.{reason_number}
use Rattle.why.specs.Why.{is_hello, malformed_by, reason_by, reason_at, answer_reason, why_whole, why_record, is_edition, why_of}
use Rattle.why.specs.declared.reason.Reason.{Reason}
use Rattle.why.specs.declared.reason.Reason.TheVariants as R
use Rattle.why.specs.declared.reason.Why.{Why}
use Rattle.demands.specs.Runs.{receive, Returned, step_of, steps_of, fresh_one, fresh_with}
use Rattle.demands.specs.Acts.{Act, comes, behind}
use Rattle.demands.specs.Events.{Happened, history, after}
use Rattle.demands.specs.Kept.{KeptAs}
use Rattle.demands.specs.Lives.{Lives, lives_of, no_lives, life_of, Lived}
use Rattle.demands.specs.Past.{accepted_in}
use Rattle.demands.specs.Seen.{Seen, seen_in}
use Rattle.demands.specs.Genuine.{RecordOf}
use Rattle.demands.specs.Table.{Row}
use Rattle.demands.specs.Table.{row_ended, row_returned, row_not_allowed, row_reply, row_hello_malformed, row_unacceptable, row_resent, row_change, row_change_malformed, row_clear_malformed, row_checksum, row_clear_warning, row_clear_critical, row_clear_fatal, row_forged, row_old, row_repeated, row_malformed, row_data, row_warning, row_critical, row_barred, row_open, row_again, row_wrong_finished}
use Rattle.demands.specs.Exactly.Whole.{CallFits, WhyFaulty, SoundlyFramed, start_of}
use Rattle.demands.specs.Exactly.Record.{Bytes, ExactlyRecord, HoldsNumbers, SeenInPlace, seen_at, WhyRecord, bad_hello}
use Rattle.demands.specs.Exactly.Answers.{answer_given, place_of, ExactlyAnswers}
use Rattle.demands.specs.Facts.{KnownEdition, PastLast, WholeFacts, RecordFacts, ShownWith, Place}
use Rattle.demands.specs.Why.{number_given, NamesExactly, FactsTrue, FactsEnough, PlacesInRuns, calls, asks, turns_of, AskingChangesNothing, WhyAnswers}
use Rattle.demands.proofs.Genuine.{true_false}
use Rattle.demands.proofs.Table.{row_of}
use Rattle.demands.proofs.Asked.{asks_of, asks_is, told_by_lem}
use Rattle.demands.proofs.Kept.{kept_all, kept_fresh}
use Rattle.demands.proofs.Lives.{lives_hold_at, asked_life}
use Rattle.demands.proofs.Places.{behind_more, behind_records}
use Rattle.demands.proofs.Exactly.Reasons.{decide}
use Rattle.demands.proofs.Exactly.Reading.{byte-is, head-is, size_is}
use Rattle.demands.proofs.Exactly.Hello.{bytes_take, bytes_drop, unmet-not}
use Rattle.demands.proofs.Exactly.Whole.{exactly-receive, Says, framing-says, framed-because, faulty-because}
use Rattle.demands.proofs.Exactly.Record.{AnswerHolds, seen-in-place, exactly-record}
use Rattle.demands.proofs.Exactly.Answers.{starts, in_place, answered, exactly-answers}
use Rattle.demands.proofs.Facts.{is_hello_lem, facts_of}

-- ---- the edition

known_is : (edition : ℕ) → KnownEdition edition → is_edition edition ≡ true
known_is edition (inl e) = rw (eq-eqb edition 1 e) refl
known_is edition (inr e) = rw (ne_eqb edition 1 (λ z. omega arith), eq-eqb edition 2 e) refl

is_known : (edition : ℕ) → is_edition edition ≡ true → KnownEdition edition
is_known edition e =
    decide (eqb edition 1) (λ a. inl (eqb-true edition 1 a)) (λ a. inr (eqb-true edition 2 (sym (rw a refl) ∙ e)))

-- ---- where the tool comes to

module _ (edition : ℕ) (c : Connection) (d random : List ℕ) (i : ℕ) where
  abbrev why : Why
  why = why_of edition c d random i

  unknown_edition : is_edition edition ≡ false → why ≡ why_whole c R.Argument
  unfolding why_of
  unknown_edition e = rw e refl

  wrong_random : is_edition edition ≡ true → length random ≢ 16 → why ≡ why_whole c R.Argument
  unfolding why_of point_of reason_by
  wrong_random e n = rw (e, ne_eqb (length random) 16 n) refl

  module _ (known : is_edition edition ≡ true) (sixteen : length random ≡ 16) where
    pub at_fault : (fault : Fault) (at : ℕ) → framing_of d ≡ faulty fault at → why ≡ why_whole c (fault_reason d at fault)
    unfolding why_of point_of reason_by
    at_fault fault at f = rw (known, eq-eqb (length random) 16 sixteen, f) refl

    past_last : (rs : List Record) → framing_of d ≡ framed rs → length rs ≤ i → why ≡ why_whole c R.Argument
    unfolding why_of point_of point_among reason_by
    past_last rs f l = rw (known, eq-eqb (length random) 16 sixteen, f, le-ltb i (length rs) l) refl

    module _ (rs : List Record) (f : framing_of d ≡ framed rs) (l : i < length rs) where
      abbrev here : Connection
      here = end_of c random d (take i rs)

      abbrev found : Record
      found = get_or rs i blank

      abbrev there : Point
      there = point_on here random d (length rs) found

      pub at_record : why ≡ why_record there d i
      unfolding why_of point_of point_among point_at point_on
      at_record = rw (known, eq-eqb (length random) 16 sixteen, f, lt-ltb i (length rs) l) refl

-- ---- the number of a reason

fault_number_lem : (d : List ℕ) (at : ℕ) (fault : Fault) → reason_number (fault_reason d at fault) ≡ fault_number fault
unfolding fault_reason
fault_number_lem d at F.Size = refl
fault_number_lem d at F.Header = refl
fault_number_lem d at F.Kind = refl
fault_number_lem d at F.Fragment = refl
fault_number_lem d at F.Ninth = refl

fault_few : (fault : Fault) → fault_number fault ≤ 5
fault_few F.Size = omega arith
fault_few F.Header = omega arith
fault_few F.Kind = omega arith
fault_few F.Fragment = omega arith
fault_few F.Ninth = omega arith

-- the refusals that a record can get
abbrev OfRecord : Refusal → Type 0
OfRecord (X.Framing fault) = ⊥
OfRecord X.Room = ⊥
OfRecord X.Ended = Unit
OfRecord X.NotAllowed = Unit
OfRecord X.Forged = Unit
OfRecord X.TooOld = Unit
OfRecord X.Repeated = Unit
OfRecord X.Malformed = Unit
OfRecord X.Unacceptable = Unit
OfRecord X.Checksum = Unit
OfRecord X.Spent = ⊥
OfRecord X.Argument = ⊥
OfRecord X.WrongFinished = Unit

of_record : (h : Handshake) (sent : SentRecords) (random d : List ℕ) (r : Record) {j : Judged} → Row h sent random d r j → AnswerHolds OfRecord j.answer
of_record h sent random d r (row_ended o) = tt
of_record h sent random d r (row_not_allowed o a n) = tt
of_record h sent random d r (row_reply plan g x) = tt
of_record h sent random d r (row_hello_malformed fault g x) = tt
of_record h sent random d r (row_unacceptable condition g x) = tt
of_record h sent random d r (row_resent s i z x) = tt
of_record h sent random d r (row_returned x) = tt
of_record h sent random d r (row_change s p c x) = tt
of_record h sent random d r (row_change_malformed s p c x) = tt
of_record h sent random d r (row_clear_malformed s p c x) = tt
of_record h sent random d r (row_checksum a s p c x n) = tt
of_record h sent random d r (row_clear_warning a s p c x k l) = tt
of_record h sent random d r (row_clear_critical a s p c x k l) = tt
of_record h sent random d r (row_clear_fatal a s p c x k l) = tt
of_record h sent random d r (row_forged g n) = tt
of_record h sent random d r (row_old c g s x) = tt
of_record h sent random d r (row_repeated c g s x) = tt
of_record h sent random d r (row_malformed c w n m) = tt
of_record h sent random d r (row_data c w n x m) = tt
of_record h sent random d r (row_warning c w a n x m l) = tt
of_record h sent random d r (row_critical c w a n x m l) = tt
of_record h sent random d r (row_barred c w a n x m l) = tt
of_record h sent random d r (row_open c w n s x m) = tt
of_record h sent random d r (row_again c w n s x m) = tt
of_record h sent random d r (row_wrong_finished c w n x m) = tt

told_of_record : (c : Connection) (random d : List ℕ) (r : Record) → AnswerHolds OfRecord (told_record c random d r).answer
told_of_record c random d r =
    let w : Whom = whom_of c d r in
    subst (λ t. AnswerHolds OfRecord t.answer) (sym (told_by_lem c random d r w refl))
    (of_record (asked_of c w) c.sent random d r (row_of (asked_of c w) c.sent random d r))

module _ (p : Point) (d : List ℕ) where
  forged_number : (asked : Handshake) (whom : Whom) (c : Connection) (r : Record) → reason_number (forged_by c whom asked.protection.keys r) ≡ 9
  unfolding forged_by
  forged_number asked whom c r = decide (both_tried c.started.state whom r.content) (λ e. rw e refl) (λ e. rw e refl)

  malformed_number : (asked : Handshake) (whom : Whom) (r : Record) → reason_number (malformed_by asked whom d r) ≡ 12
  unfolding malformed_by
  malformed_number asked whom r =
      decide r.protected (λ e. rw e refl) (λ e. decide (is_hello (kind_in d r)) (λ k. rw (k, e) refl) (λ k. rw (k, e) refl))

  refusal_number_lem : (x : Refusal) → OfRecord x → reason_number (reason_at p d p.found.start x) ≡ refusal_number x
  unfolding reason_by unmet_of
  refusal_number_lem X.Ended o = refl
  refusal_number_lem X.NotAllowed o = refl
  refusal_number_lem X.Forged o = forged_number (asked_of p.connection p.whom) p.whom p.connection p.found
  refusal_number_lem X.TooOld o = refl
  refusal_number_lem X.Repeated o = refl
  refusal_number_lem X.Malformed o = malformed_number (asked_of p.connection p.whom) p.whom p.found
  refusal_number_lem X.Unacceptable o = refl
  refusal_number_lem X.Checksum o = refl
  refusal_number_lem X.WrongFinished o = refl
  refusal_number_lem (X.Framing fault) o = absurd o
  refusal_number_lem X.Room o = absurd o
  refusal_number_lem X.Spent o = absurd o
  refusal_number_lem X.Argument o = absurd o

  answer_number_lem : (a : Answer) → AnswerHolds OfRecord a → reason_number (answer_reason p d a) ≡ answer_number a
  answer_number_lem W.Nothing o = refl
  answer_number_lem (W.Reply size) o = refl
  answer_number_lem (W.Resent size) o = refl
  answer_number_lem W.Spec o = refl
  answer_number_lem W.Open o = refl
  answer_number_lem W.Again o = refl
  answer_number_lem (W.Data number start size) o = refl
  answer_number_lem (W.Warning description) o = refl
  answer_number_lem (W.Critical description) o = refl
  answer_number_lem (W.Fatal description) o = refl
  answer_number_lem (W.Barred description) o = refl
  answer_number_lem (W.Refused x) o = refusal_number_lem x o

-- no answer is 16
not_sixteen : (a : Answer) → AnswerHolds OfRecord a → answer_number a ≡ 16 → ⊥
not_sixteen W.Nothing o e = omega arith
not_sixteen (W.Reply size) o e = omega arith
not_sixteen (W.Resent size) o e = omega arith
not_sixteen W.Spec o e = omega arith
not_sixteen W.Open o e = omega arith
not_sixteen W.Again o e = omega arith
not_sixteen (W.Data number start size) o e = omega arith
not_sixteen (W.Warning description) o e = omega arith
not_sixteen (W.Critical description) o e = omega arith
not_sixteen (W.Fatal description) o e = omega arith
not_sixteen (W.Barred description) o e = omega arith
not_sixteen (W.Refused X.Ended) o e = omega arith
not_sixteen (W.Refused X.NotAllowed) o e = omega arith
not_sixteen (W.Refused X.Forged) o e = omega arith
not_sixteen (W.Refused X.TooOld) o e = omega arith
not_sixteen (W.Refused X.Repeated) o e = omega arith
not_sixteen (W.Refused X.Malformed) o e = omega arith
not_sixteen (W.Refused X.Unacceptable) o e = omega arith
not_sixteen (W.Refused X.Checksum) o e = omega arith
not_sixteen (W.Refused X.WrongFinished) o e = omega arith
not_sixteen (W.Refused (X.Framing fault)) o e = o
not_sixteen (W.Refused X.Room) o e = o
not_sixteen (W.Refused X.Spent) o e = o
not_sixteen (W.Refused X.Argument) o e = o

-- ---- (1)

module _ (edition : ℕ) (c : Connection) (d random : List ℕ) (i : ℕ) where
  abbrev number_here : ℕ
  number_here = reason_number (why_of edition c d random i).reason

  module _ (known : is_edition edition ≡ true) (sixteen : length random ≡ 16) where
    number_at_fault : (fault : Fault) (at : ℕ) → framing_of d ≡ faulty fault at → number_here ≡ fault_number fault
    number_at_fault fault at f = ap (λ w. reason_number w.reason) (at_fault edition c d random i known sixteen fault at f) ∙ fault_number_lem d at fault

    number_at_record : (rs : List Record) → framing_of d ≡ framed rs → i < length rs
        → number_here ≡ answer_number (told_record (end_of c random d (take i rs)) random d (get_or rs i blank)).answer
    unfolding point_on
    number_at_record rs f l =
        let here : Connection = end_of c random d (take i rs) in
        let r : Record = get_or rs i blank in
        ap (λ w. reason_number w.reason) (at_record edition c d random i known sixteen rs f l)
        ∙ answer_number_lem (point_on here random d (length rs) r) d (told_record here random d r).answer (told_of_record here random d r)

  -- 16
  argument_why : (f : Framing) → framing_of d ≡ f → number_here ≡ 16 → (length random ≢ 16) ⊎ (KnownEdition edition → ⊥) ⊎ PastLast d i
  argument_why f e z =
      decide (is_edition edition)
      (λ k. decide (eqb (length random) 16) (λ s. by_framing f e k (eqb-true (length random) 16 s)) (λ s. inl (eqb-false (length random) 16 s)))
      (λ k. inr (inl (λ y. true_false (is_edition edition) (known_is edition y) k)))
    where
      by_framing : (f : Framing) → framing_of d ≡ f → is_edition edition ≡ true → length random ≡ 16
          → (length random ≢ 16) ⊎ (KnownEdition edition → ⊥) ⊎ PastLast d i
      by_framing (faulty fault at) e k s = absurd (omega (arith, number_at_fault k s fault at e, fault_few fault, z))
      by_framing (framed rs) e k s =
          decide (ltb i (length rs))
          (λ l.
          let here : Connection = end_of c random d (take i rs) in
          let r : Record = get_or rs i blank in
          absurd (not_sixteen (told_record here random d r).answer (told_of_record here random d r)
          (sym (number_at_record k s rs e (ltb-true i (length rs) l)) ∙ z)))
          (λ l. inr (inr (length rs, subst (Says d) e (framing-says d), ltb-false i (length rs) l)))

  why_argument : (length random ≢ 16) ⊎ (KnownEdition edition → ⊥) ⊎ PastLast d i → number_here ≡ 16
  why_argument w =
      decide (is_edition edition) (λ k. by_arguments k w) (λ k. ap (λ x. reason_number x.reason) (unknown_edition edition c d random i k))
    where
      by_arguments : is_edition edition ≡ true → (length random ≢ 16) ⊎ (KnownEdition edition → ⊥) ⊎ PastLast d i → number_here ≡ 16
      by_arguments k (inl n) = ap (λ x. reason_number x.reason) (wrong_random edition c d random i k n)
      by_arguments k (inr (inl n)) = absurd (n (is_known edition k))
      by_arguments k (inr (inr (n, s, l))) =
          decide (eqb (length random) 16)
          (λ z.
          let (rs, f, e) = framed-because d n s in
          ap (λ x. reason_number x.reason) (past_last edition c d random i k (eqb-true (length random) 16 z) rs f (omega arith)))
          (λ z. ap (λ x. reason_number x.reason) (wrong_random edition c d random i k (eqb-false (length random) 16 z)))

-- what a receive gives there
module _ (c : Connection) (d random out : List ℕ) (i : ℕ) (fits : CallFits (length random) (length out)) where
  abbrev result : Returned
  result = (step_of c (receive d random out)).result

  given_at_fault : (fault : Fault) (at : ℕ) → WhyFaulty d fault at → number_given result i ≡ fault_number fault
  given_at_fault fault at w =
      ap (λ r. number_given r i) ((exactly-receive.misframed c d random out (X.Framing fault) at).1 (fits, w))

  given_at_record : (n : ℕ) → SoundlyFramed d n → number_given result i ≡ answer_number (answer_given result i)
  given_at_record n s =
      let (answers, written, e) = (exactly-receive.taken c d random out n).1 (fits, s) in
      subst (λ r. number_given r i ≡ answer_number (answer_given r i)) (sym e) refl

names : (edition : ℕ) (c : Connection) (d random out : List ℕ) (i : ℕ) → KnownEdition edition → CallFits (length random) (length out)
    → (PastLast d i → ⊥) → (f : Framing) → framing_of d ≡ f
    → reason_number (why_of edition c d random i).reason ≡ number_given (step_of c (receive d random out)).result i
names edition c d random out i known fits inside (faulty fault at) e =
    number_at_fault edition c d random i (known_is edition known) fits.0 fault at e
    ∙ sym (given_at_fault c d random out i fits fault at (subst (Says d) e (framing-says d)))
names edition c d random out i known fits inside (framed rs) e =
    decide (ltb i (length rs))
    (λ l.
    number_at_record edition c d random i (known_is edition known) fits.0 rs e (ltb-true i (length rs) l)
    ∙ sym (given_at_record c d random out i fits (length rs) (subst (Says d) e (framing-says d))
    ∙ ap answer_number (answered c d random out rs fits e i (ltb-true i (length rs) l))))
    (λ l. absurd (inside (length rs, subst (Says d) e (framing-says d), ltb-false i (length rs) l)))

every_index : (edition : ℕ) (c : Connection) (d random : List ℕ) (i j : ℕ) → ((n : ℕ) → SoundlyFramed d n → ⊥) → (f : Framing) → framing_of d ≡ f
    → why_of edition c d random i ≡ why_of edition c d random j
every_index edition c d random i j none (framed rs) e = absurd (none (length rs) (subst (Says d) e (framing-says d)))
every_index edition c d random i j none (faulty fault at) e =
    decide (is_edition edition)
    (λ k. decide (eqb (length random) 16)
    (λ s.
    at_fault edition c d random i k (eqb-true (length random) 16 s) fault at e
    ∙ sym (at_fault edition c d random j k (eqb-true (length random) 16 s) fault at e))
    (λ s.
    wrong_random edition c d random i k (eqb-false (length random) 16 s)
    ∙ sym (wrong_random edition c d random j k (eqb-false (length random) 16 s))))
    (λ k. unknown_edition edition c d random i k ∙ sym (unknown_edition edition c d random j k))

names_exactly : NamesExactly step_of
names_exactly =
    record {
      names = λ edition c d random out i known fits inside. names edition c d random out i known fits inside (framing_of d) refl;
      argument = λ edition c d random i. (argument_why edition c d random i (framing_of d) refl, why_argument edition c d random i);
      every_index = λ edition c d random i j none. every_index edition c d random i j none (framing_of d) refl;
    }

-- ---- (2)

whole_true : (d : List ℕ) (fault : Fault) (at : ℕ) → WhyFaulty d fault at → WholeFacts d (fault_reason d at fault)
unfolding fault_reason
whole_true d F.Size at w = ((refl, w.1), refl)
whole_true d F.Header at w = (w, omega (arith, w.2.begins, length-drop at d), head-is d at)
whole_true d F.Kind at w = (w, byte-is d at)
whole_true d F.Fragment at w = (w, size_is d at, omega (arith, w.2.begins, w.4, length-drop at d, head-is d at))
whole_true d F.Ninth at w = w

module _ (c : Connection) (d random : List ℕ) (i : ℕ) (bytes : Bytes d) (p : Place c d random i) where
  abbrev place : Connection
  place = place_of c random d p.records i

  abbrev r : Record
  r = get_or p.records i blank

  abbrev q : Seen
  q = seen_at d (start_of d i)

  abbrev at_place : RecordOf d r
  at_place = in_place d p.records p.framing i p.inside

  seen_is : seen_in d r ≡ q
  unfolding SeenInPlace
  seen_is = seen-in-place d r at_place ∙ ap (seen_at d) (starts d p.records p.framing i p.inside)

  fragment_bytes : Bytes (fragment_of d r)
  fragment_bytes = bytes_take r.size (drop (r.start + r.head) d) (bytes_drop (r.start + r.head) d bytes)

  abbrev answer : Answer
  answer = (told_record place random d r).answer

  answer_is : answer ≡ (judged_record (asked_of place p.whom) place.sent random d r).answer
  answer_is = ap (λ t. t.answer) (told_by_lem place random d r p.whom (asks_is place d r p.asks))

  refused_when : (x : Refusal) → (answer ≡ W.Refused x) ↔ WhyRecord (asked_of place p.whom) place.sent p.numbers (seen_in d r) x
  unfolding SeenInPlace ExactlyRecord
  refused_when x =
      let both = exactly-record (asked_of place p.whom) place.sent p.numbers random d r bytes at_place p.holds x in
      let same = seen-in-place d r at_place in (
        λ e. subst (λ s. WhyRecord (asked_of place p.whom) place.sent p.numbers s x) (sym same) (both.0 (sym answer_is ∙ e)),
        λ w. answer_is ∙ both.1 (subst (λ s. WhyRecord (asked_of place p.whom) place.sent p.numbers s x) same w),
      )

  -- no other answer is a refusal
  unrefused : ((x : Refusal) → answer ≡ W.Refused x → ⊥) → RecordFacts place p.whom p.numbers d (seen_in d r) R.NotRefused
  unrefused n x w = n x ((refused_when x).1 w)

  abbrev FactsHere : Reason → Type 0
  FactsHere = RecordFacts place p.whom p.numbers d (seen_in d r)

  abbrev point_here : Point
  point_here = point_on place random d (length p.records) r

  by_answer : (a : Answer) → answer ≡ a → FactsHere (answer_reason point_here d a)
  unfolding point_on
  by_answer W.Nothing e = unrefused (λ x z. let y : W.Nothing ≡ W.Refused x = sym e ∙ z in let v : ◌≡◌ {A = ℕ} 0 1 = cc in omega arith)
  by_answer (W.Reply size) e = unrefused (λ x z. let y : W.Reply size ≡ W.Refused x = sym e ∙ z in let v : ◌≡◌ {A = ℕ} 0 1 = cc in omega arith)
  by_answer (W.Resent size) e = unrefused (λ x z. let y : W.Resent size ≡ W.Refused x = sym e ∙ z in let v : ◌≡◌ {A = ℕ} 0 1 = cc in omega arith)
  by_answer W.Spec e = unrefused (λ x z. let y : W.Spec ≡ W.Refused x = sym e ∙ z in let v : ◌≡◌ {A = ℕ} 0 1 = cc in omega arith)
  by_answer W.Open e = unrefused (λ x z. let y : W.Open ≡ W.Refused x = sym e ∙ z in let v : ◌≡◌ {A = ℕ} 0 1 = cc in omega arith)
  by_answer W.Again e = unrefused (λ x z. let y : W.Again ≡ W.Refused x = sym e ∙ z in let v : ◌≡◌ {A = ℕ} 0 1 = cc in omega arith)
  by_answer (W.Data n s k) e = unrefused (λ x z. let y : W.Data n s k ≡ W.Refused x = sym e ∙ z in let v : ◌≡◌ {A = ℕ} 0 1 = cc in omega arith)
  by_answer (W.Warning k) e = unrefused (λ x z. let y : W.Warning k ≡ W.Refused x = sym e ∙ z in let v : ◌≡◌ {A = ℕ} 0 1 = cc in omega arith)
  by_answer (W.Critical k) e = unrefused (λ x z. let y : W.Critical k ≡ W.Refused x = sym e ∙ z in let v : ◌≡◌ {A = ℕ} 0 1 = cc in omega arith)
  by_answer (W.Fatal k) e = unrefused (λ x z. let y : W.Fatal k ≡ W.Refused x = sym e ∙ z in let v : ◌≡◌ {A = ℕ} 0 1 = cc in omega arith)
  by_answer (W.Barred k) e = unrefused (λ x z. let y : W.Barred k ≡ W.Refused x = sym e ∙ z in let v : ◌≡◌ {A = ℕ} 0 1 = cc in omega arith)
  by_answer (W.Refused x) e =
      subst (λ w. FactsHere (reason_by (asked_of place w) w place r d r.start x)) (sym (asks_is place d r p.asks))
      (facts_of place p.whom p.numbers d r at_place fragment_bytes p.asks p.holds x ((refused_when x).0 e))

  abbrev shown : Why
  shown = why_record point_here d i

  facts_shown : FactsHere shown.reason
  unfolding point_on
  facts_shown = by_answer answer refl

  beside_shown : ShownWith place p.whom p.numbers d (seen_in d r) i shown
  unfolding point_on
  beside_shown =
      record { state = refl; started = refl; content = refl; protected = refl; hello = is_hello_lem d r; place = refl; sent = refl }

record_true : (edition : ℕ) (c : Connection) (d random : List ℕ) (i : ℕ) → KnownEdition edition → length random ≡ 16 → Bytes d
    → (p : Place c d random i)
    → RecordFacts (place_of c random d p.records i) p.whom p.numbers d (seen_at d (start_of d i)) (why_of edition c d random i).reason
    × ShownWith (place_of c random d p.records i) p.whom p.numbers d (seen_at d (start_of d i)) i (why_of edition c d random i)
record_true edition c d random i known sixteen bytes p =
    let e = at_record edition c d random i (known_is edition known) sixteen p.records p.framing p.inside in
    subst (λ s.
    RecordFacts (place_of c random d p.records i) p.whom p.numbers d s (why_of edition c d random i).reason
    × ShownWith (place_of c random d p.records i) p.whom p.numbers d s i (why_of edition c d random i))
    (seen_is c d random i bytes p)
    (subst (λ w.
    RecordFacts (place_of c random d p.records i) p.whom p.numbers d (seen_in d (get_or p.records i blank)) w.reason
    × ShownWith (place_of c random d p.records i) p.whom p.numbers d (seen_in d (get_or p.records i blank)) i w)
    (sym e) (facts_shown c d random i bytes p, beside_shown c d random i bytes p))

facts_true : FactsTrue
facts_true =
    record {
      whole = λ edition c d random i known sixteen fault at w.
          subst (λ x. WholeFacts d x.reason)
          (sym (at_fault edition c d random i (known_is edition known) sixteen fault at (faulty-because d fault at w)))
          (whole_true d fault at w);
      of_record = record_true;
    }

-- ---- (3)

module _ (c : Connection) (d random out : List ℕ) (i : ℕ) (fits : CallFits (length random) (length out)) where
  whole_enough : (reason : Reason) → WholeFacts d reason → number_given (step_of c (receive d random out)).result i ≡ reason_number reason
  whole_enough (R.Size size) w = given_at_fault c d random out i fits F.Size 0 w.0
  whole_enough (R.Header at left needs) w = given_at_fault c d random out i fits F.Header at w.0
  whole_enough (R.TypeByte at byte) w = given_at_fault c d random out i fits F.Kind at w.0
  whole_enough (R.Fragment at stated left) w = given_at_fault c d random out i fits F.Fragment at w.0
  whole_enough (R.Ninth at) w = given_at_fault c d random out i fits F.Ninth at w
  whole_enough R.NotRefused w = absurd w
  whole_enough R.Argument w = absurd w
  whole_enough R.Ended w = absurd w
  whole_enough R.NotAllowed w = absurd w
  whole_enough (R.Forged number fragment key code) w = absurd w
  whole_enough (R.ForgedTwice number fragment started-key started-code open-key open_code) w = absurd w
  whole_enough (R.TooOld under number highest limit) w = absurd w
  whole_enough (R.Repeated under number highest mark) w = absurd w
  whole_enough (R.BadHello field) w = absurd w
  whole_enough (R.BadClear size first second) w = absurd w
  whole_enough (R.BadProtected under number size first second) w = absurd w
  whole_enough (R.Unacceptable condition from size) w = absurd w
  whole_enough (R.Checksum checksum) w = absurd w
  whole_enough (R.WrongFinished under number from) w = absurd w

  module _ (bytes : Bytes d) (p : Place c d random i) where
    abbrev reached : Connection
    reached = place_of c random d p.records i

    abbrev bytes_there : Seen
    bytes_there = seen_at d (start_of d i)

    abbrev WhyThere : Refusal → Type 0
    WhyThere x = WhyRecord (asked_of reached p.whom) reached.sent p.numbers bytes_there x

    abbrev given : Answer
    given = answer_given (step_of c (receive d random out)).result i

    given_number : number_given (step_of c (receive d random out)).result i ≡ answer_number given
    given_number = given_at_record c d random out i fits (length p.records) (subst (Says d) p.framing (framing-says d))

    refuses : (x : Refusal) → WhyThere x → number_given (step_of c (receive d random out)).result i ≡ refusal_number x
    unfolding ExactlyAnswers
    refuses x w =
        given_number
        ∙ ap answer_number ((exactly-answers c d random out p.records bytes fits p.framing i p.inside p.whom p.asks p.numbers p.holds x).1 w)

    refuses_not : ((x : Refusal) → WhyThere x → ⊥) → (a : Answer) → given ≡ a → answer_number given ≡ 0
    unfolding ExactlyAnswers
    refuses_not n W.Nothing e = ap answer_number e
    refuses_not n (W.Reply size) e = ap answer_number e
    refuses_not n (W.Resent size) e = ap answer_number e
    refuses_not n W.Spec e = ap answer_number e
    refuses_not n W.Open e = ap answer_number e
    refuses_not n W.Again e = ap answer_number e
    refuses_not n (W.Data number start size) e = ap answer_number e
    refuses_not n (W.Warning description) e = ap answer_number e
    refuses_not n (W.Critical description) e = ap answer_number e
    refuses_not n (W.Fatal description) e = ap answer_number e
    refuses_not n (W.Barred description) e = ap answer_number e
    refuses_not n (W.Refused x) e =
        absurd (n x ((exactly-answers c d random out p.records bytes fits p.framing i p.inside p.whom p.asks p.numbers p.holds x).0 e))

    record_enough : (reason : Reason) → RecordFacts reached p.whom p.numbers d bytes_there reason
        → number_given (step_of c (receive d random out)).result i ≡ reason_number reason
    record_enough R.NotRefused n = given_number ∙ refuses_not n given refl
    record_enough R.Ended w = refuses X.Ended w
    record_enough R.NotAllowed w = refuses X.NotAllowed w
    record_enough (R.Forged number fragment key code) w = refuses X.Forged w.0
    record_enough (R.ForgedTwice number fragment started-key started-code open-key open_code) w = refuses X.Forged w.0
    record_enough (R.TooOld under number highest limit) w = refuses X.TooOld w.0
    record_enough (R.Repeated under number highest mark) w = refuses X.Repeated w.0
    record_enough (R.BadHello field) w = refuses X.Malformed (bad_hello w.0 w.1)
    record_enough (R.BadClear size first second) w = refuses X.Malformed w.0
    record_enough (R.BadProtected under number size first second) w = refuses X.Malformed w.0
    record_enough (R.Unacceptable condition from size) w =
        refuses X.Unacceptable (w.0, (w.1.0, unmet-not w.1.0.values (asked_of reached p.whom).id condition w.1.1))
    record_enough (R.Checksum checksum) w = refuses X.Checksum w.0
    record_enough (R.WrongFinished under number from) w = refuses X.WrongFinished (w.2.0, w.2.1, w.2.2, w.2.3, w.2.4)
    record_enough R.Argument w = absurd w
    record_enough (R.Size size) w = absurd w
    record_enough (R.Header at left needs) w = absurd w
    record_enough (R.TypeByte at byte) w = absurd w
    record_enough (R.Fragment at stated left) w = absurd w
    record_enough (R.Ninth at) w = absurd w

facts_enough : FactsEnough step_of
facts_enough = record { whole = whole_enough; of_record = record_enough }

-- ---- in runs

-- the window of a handshake holds the numbers of its history
holds_kept : (session : Session) {width : ℕ} (past : List Happened) (h : Handshake) → KeptAs session width past h → HoldsNumbers h (accepted_in past)
holds_kept session past h k =
    let same = ap (λ w. w.width) k.window_is in
    record { held = subst Held (sym same) k.held; means = k.window_is ∙ ap (λ w. window_of w (accepted_in past)) (sym same) }

places_in_runs : PlacesInRuns
unfolding PlacesInRuns
places_in_runs id secret width held acts d random n i sound l =
    let (rs, f, size) = framed-because d n sound in
    let fresh : Handshake = fresh_with id secret width in
    let before : List Act = acts ++ map (comes random d) (take i rs) in
    let c : Connection = behind (fresh_one id secret width) acts in
    let here : Connection = place_of c random d rs i in
    let there : behind (fresh_one id secret width) before ≡ here
    = behind_more (fresh_one id secret width) acts (map (comes random d) (take i rs)) ∙ behind_records c random d (take i rs) in
    let r : Record = get_or rs i blank in
    let lives : Lives = lives_of (fresh_one id secret width) no_lives before in
    let v : Lived fresh lives here = subst (Lived fresh lives) there (lives_hold_at id secret width held before) in
    let whom : Whom = whom_of here d r in
    let life : asked_of here whom ≡ after fresh (life_of lives whom) = asked_life id secret width held lives here v random d r whom refl in
    let k : KeptAs (session_of id secret) width (history fresh (life_of lives whom) []) (after fresh (life_of lives whom))
    = kept_all (session_of id secret) (life_of lives whom) [] fresh (kept_fresh id secret width held) in
    record {
      records = rs;
      framing = f;
      inside = omega arith;
      whom = whom;
      asks = asks_of here d r;
      numbers = accepted_in (history fresh (life_of lives whom) []);
      holds = subst (λ h. HoldsNumbers h (accepted_in (history fresh (life_of lives whom) []))) (sym life) (holds_kept (session_of id secret) (history fresh (life_of lives whom) []) (after fresh (life_of lives whom)) k);
    }

-- ---- (4)

asking_changes_nothing : AskingChangesNothing step_of
unfolding AskingChangesNothing turns_of steps_of
asking_changes_nothing c [] = refl
asking_changes_nothing c (calls call ∷ turns) = ap (λ l. step_of c call ∷ l) (asking_changes_nothing (step_of c call).connection turns)
asking_changes_nothing c (asks edition d random i ∷ turns) = asking_changes_nothing c turns

pub why_answers : WhyAnswers step_of
why_answers =
    record {
      exactly = names_exactly;
      true_facts = facts_true;
      enough = facts_enough;
      in_runs = places_in_runs;
      unchanged = asking_changes_nothing;
    }
