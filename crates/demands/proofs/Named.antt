-- Reasons that are met, each in a run from fresh.
use mathlib.Core.Path.{◌≡◌, refl, ap, ◌∙◌}
use mathlib.Core.Logic.{inl}
use mathlib.Core.List.{List, [], ◌∷◌}
use mathlib.Core.Bool.{true, false}
use Prim.Native.Nat.{ℕ}
use native.Mathlib.Omega.{arith}
use lib.Dec.{lit<}
use Rattle.record.specs.Datagram.{framed, framing_of, framing_from}
use Rattle.record.specs.Header.{kind_of, sound_kind, content_of}
use Rattle.record.specs.Reader as D
use Rattle.record.specs.Window.{held_width}
use Rattle.record.specs.History.{highest_of}
use Rattle.record.specs.declared.header.Content.TheVariants as C
use Rattle.record.specs.declared.reader.Fault.TheVariants as F
use Rattle.record.specs.declared.reader.Record.{Record}
use Rattle.message.specs.Acceptance.{heard_of, accepted_of}
use Rattle.message.specs.Field.{field_end, short_end, long_end}
use Rattle.message.specs.Handshake.{fills}
use Rattle.message.specs.Hello.{read_of, walk_on, suites_end}
use Rattle.message.specs.Keys.{specifier_end, identifier_end, entry_end, entries_from, key_list, keys_end}
use Rattle.message.specs.declared.acceptance.Condition.TheVariants as N
use Rattle.message.specs.declared.acceptance.Unheard.TheVariants as H
use Rattle.connection.specs.Answer.{refusing}
use Rattle.connection.specs.Asked.{asked_of, whom_of}
use Rattle.connection.specs.Connection.{alone}
use Rattle.connection.specs.Handshake.{with_window}
use Rattle.connection.specs.Judge.{judged_record}
use Rattle.connection.specs.Point.{point_on}
use Rattle.connection.specs.Receive.{end_of}
use Rattle.connection.specs.Sent.{no_records}
use Rattle.connection.specs.declared.answer.Answer.TheVariants.{Refused}
use Rattle.connection.specs.declared.asked.Whom.{Whom}
use Rattle.connection.specs.declared.asked.Whom.TheVariants as A
use Rattle.connection.specs.declared.connection.Connection.{Connection}
use Rattle.connection.specs.declared.handshake.Handshake.{Handshake}
use Rattle.connection.specs.declared.refusal.Refusal.{Refusal}
use Rattle.connection.specs.declared.refusal.Refusal.TheVariants as X
use Rattle.connection.specs.declared.state.State.TheVariants as S
use Rattle.why.specs.Framing.{fault_reason}
use Rattle.why.specs.Hello.{unmet_of}
use Rattle.why.specs.Opening.{limit_of}
use Rattle.why.specs.Why.{reason_by, answer_reason, why_of}
use Rattle.why.specs.declared.reason.Reason.TheVariants as R
use Rattle.why.specs.declared.reason.Under.TheVariants as U
use Rattle.demands.specs.Asked.{Asks, asks_only, asks_protected}
use Rattle.demands.specs.Events.{after}
use Rattle.demands.specs.Example.{example_id, example_random, example_width, hello_as}
use Rattle.demands.specs.Instances.{example_fresh}
use Rattle.demands.specs.Table.{Row, row_unacceptable}
use Rattle.demands.specs.Named.{Named, NamedCases}
use Rattle.demands.proofs.Asked.{asks_is, told_by_lem}
use Rattle.demands.proofs.Table.{row_is}
use Rattle.demands.proofs.Traps.{w₇, single}
use Rattle.demands.proofs.Cases.{h, run_with, with_sound, with_leaves, data_with, data_record, data_framed, data_protected, open_is, old_row, repeated_row, w₈₀, takes_80, old_7, takes_7, again_7, seven, eighty}
use Rattle.demands.proofs.Why.{at_fault, at_record}
use Rattle.std.specs.Prelude.{Err}

-- the only record of a datagram, for `whom`, who refuses it
only_reason : (c : Connection) (d : List ℕ) (r : Record) {w : Whom} → framing_of d ≡ framed (r ∷ []) → Asks c d r w → (x : Refusal)
    → (judged_record (asked_of c w) c.sent example_random d r).answer ≡ Refused x
    → (why_of 2 c d example_random 0).reason ≡ reason_by (asked_of c w) w c r d r.start x
unfolding end_of point_on
only_reason c d r {w = w} f asks x e =
    let is : whom_of c d r ≡ w = asks_is c d r asks in
    ap (λ y. y.reason) (at_record 2 c d example_random 0 refl refl (r ∷ []) f (lit< tt))
    ∙ ap (answer_reason (point_on c example_random d 1 r) d) (ap (λ t. t.answer) (told_by_lem c example_random d r w is) ∙ e)
    ∙ ap (λ v. reason_by (asked_of c v) v c r d r.start x) is

empty : Named (R.Size 0)
unfolding framing_of fault_reason
empty =
    record {
      es = [];
      sound = tt;
      d = [];
      random = example_random;
      sixteen = refl;
      named = ap (λ y. y.reason) (at_fault 2 (alone (after example_fresh [])) [] example_random 0 refl refl F.Size 0 refl);
    }

-- ---- a hello of version 2

abbrev strange : List ℕ
strange = hello_as 2 2

abbrev strange_datagram : List ℕ
strange_datagram = 0x43 ∷ 0x00 ∷ 0x00 ∷ strange

abbrev strange_record : Record
strange_record = record { byte = 0x43; content = C.Handshake; protected = false; number = 0; start = 0; head = 3; size = 40; used = 43 }

strange_framed : framing_of strange_datagram ≡ framed (strange_record ∷ [])
unfolding framing_of framing_from D.read_of D.read_as D.framed_of kind_of sound_kind content_of
strange_framed = refl

strange_heard : heard_of strange example_id ≡ Err (H.Unacceptable N.Version)
unfolding heard_of accepted_of read_of walk_on suites_end keys_end key_list entries_from entry_end identifier_end specifier_end fills long_end short_end field_end
strange_heard = refl

strange_row : Row example_fresh no_records example_random strange_datagram strange_record (refusing X.Unacceptable example_fresh)
strange_row = row_unacceptable N.Version (record { hello = record { clear = refl; handshake = refl; begins = refl }; first = refl; another = inl refl }) strange_heard

strange_place : unmet_of 3 strange example_id ≡ R.Unacceptable N.Version 6 1
unfolding unmet_of heard_of accepted_of read_of walk_on suites_end keys_end key_list entries_from entry_end identifier_end specifier_end fills long_end short_end field_end
strange_place = refl

version : Named (R.Unacceptable N.Version 6 1)
unfolding after reason_by
version =
    record {
      es = [];
      sound = tt;
      d = strange_datagram;
      random = example_random;
      sixteen = refl;
      named = only_reason (alone example_fresh) strange_datagram strange_record strange_framed (asks_only (λ z. let n : ◌≡◌ {A = ℕ} 0 1 = cc in omega arith)) X.Unacceptable
          (ap (λ j. j.answer) (row_is example_fresh no_records example_random strange_datagram strange_record strange_row))
          ∙ strange_place;
    }

-- ---- too old, and repeated

for_open : (x : Handshake) (d : List ℕ) (r : Record) → x.state ≡ S.Open → r.protected ≡ true → Asks (alone x) d r A.Open
for_open x d r o p = asks_protected o p (λ q. let z : S.Idle ≡ S.Spec = q.in_spec in let n : ◌≡◌ {A = ℕ} 0 1 = cc in omega arith)

old_reason : (why_of 2 (alone (with_window h w₈₀)) (data_with 7 seven) example_random 0).reason ≡ R.TooOld U.Open 7 80 16
unfolding reason_by limit_of w₈₀ held_width single
old_reason =
    only_reason (alone (with_window h w₈₀)) (data_with 7 seven) (data_record 7 seven) (data_framed 7 seven)
    (for_open (with_window h w₈₀) (data_with 7 seven) (data_record 7 seven) open_is (data_protected 7 seven)) X.TooOld
    (ap (λ j. j.answer) (row_is (with_window h w₈₀) no_records example_random (data_with 7 seven) (data_record 7 seven) (old_row 7 seven w₈₀ old_7)))

too_old : Named (R.TooOld U.Open 7 80 16)
too_old =
    record {
      es = run_with 80 eighty;
      sound = with_sound 80 eighty;
      d = data_with 7 seven;
      random = example_random;
      sixteen = refl;
      named = ap (λ x. (why_of 2 (alone x) (data_with 7 seven) example_random 0).reason) (with_leaves 80 eighty w₈₀ 1 takes_80) ∙ old_reason;
    }

again_reason : (why_of 2 (alone (with_window h (w₇ example_width))) (data_with 7 seven) example_random 0).reason ≡ R.Repeated U.Open 7 7 0
unfolding reason_by w₇ highest_of single
again_reason =
    only_reason (alone (with_window h (w₇ example_width))) (data_with 7 seven) (data_record 7 seven) (data_framed 7 seven)
    (for_open (with_window h (w₇ example_width)) (data_with 7 seven) (data_record 7 seven) open_is (data_protected 7 seven)) X.Repeated
    (ap (λ j. j.answer)
    (row_is (with_window h (w₇ example_width)) no_records example_random (data_with 7 seven) (data_record 7 seven) (repeated_row 7 seven (w₇ example_width) again_7)))

repeated : Named (R.Repeated U.Open 7 7 0)
repeated =
    record {
      es = run_with 7 seven;
      sound = with_sound 7 seven;
      d = data_with 7 seven;
      random = example_random;
      sixteen = refl;
      named = ap (λ x. (why_of 2 (alone x) (data_with 7 seven) example_random 0).reason) (with_leaves 7 seven (w₇ example_width) 2 takes_7) ∙ again_reason;
    }

pub named_cases : NamedCases
named_cases = record { empty = empty; version = version; too_old = too_old; repeated = repeated }
