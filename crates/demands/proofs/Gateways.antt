-- Ours meets demands 2 and 3 as predicates of gateways, and each of the five wrong gateways fails one: at the hello, at the Finished or at
-- the data of the worked handshake, or at a datagram of two records.
use mathlib.Core.Path.{◌≡◌, refl, sym, ◌∙◌, ap, subst}
use mathlib.Core.Logic.{◌↔◌, ◌≢◌}
use mathlib.Core.Bool.{true, false}
use mathlib.Core.List.{List, [], ◌∷◌, ◌++◌, map}
use Prim.Native.Nat.{ℕ, suc, ◌+◌, ◌≤◌}
use native.Mathlib.Omega.{arith}
use lib.ListN.{length, take, get_or}
use lib.Dec.{lit≤}
use Rattle.digest.specs.Bytes.{laid_over}
use Rattle.record.specs.Header.{kind_of, sound_kind, content_of}
use Rattle.record.specs.Reader.{read_of, read_as, framed_of}
use Rattle.record.specs.Window.{emptied}
use Rattle.record.specs.Datagram.{framed, framing_from, framing_of}
use Rattle.record.specs.declared.header.Content.TheVariants as C
use Rattle.record.specs.declared.reader.Record.{Record}
use Rattle.message.specs.Change.{is_change}
use Rattle.connection.specs.Answer.{handed_of, judged, refusing}
use Rattle.connection.specs.Calls.{session_of}
use Rattle.connection.specs.Handshake.{with_state, with_window}
use Rattle.connection.specs.Receive.{slot, slots_of, end_of, answers_of, first_reply}
use Rattle.connection.specs.Tally.{fresh_tally}
use Rattle.connection.specs.declared.state.State.{State}
use Rattle.connection.specs.declared.state.State.TheVariants as S
use Rattle.connection.specs.declared.refusal.Refusal.{Refusal}
use Rattle.connection.specs.declared.refusal.Refusal.TheVariants as X
use Rattle.connection.specs.declared.answer.Answer.{Answer}
use Rattle.connection.specs.declared.answer.Answer.TheVariants as W
use Rattle.connection.specs.declared.answer.Judged.{Judged}
use Rattle.connection.specs.declared.connection.Connection.{Connection}
use Rattle.connection.specs.declared.receive.Untaken.TheVariants as T
use Rattle.connection.specs.declared.handshake.Handshake.{Handshake}
use Rattle.connection.specs.declared.handshake.Session.{Session}
use Rattle.demands.specs.Runs.{receive, close, Returned, received, Gateway, step_of, final_of}
use Rattle.demands.specs.Seen.{Seen, seen_in}
use Rattle.demands.specs.Table.{Row, Allowed, hello, change, alert, guarded, row_not_allowed, row_change}
use Rattle.demands.specs.Calls.{Chain, chain_end, chain_more, FirstSends}
use Rattle.demands.specs.Events.{Happened}
use Rattle.demands.specs.Acts.{Act, comes, acts_of, event_of, behind}
use Rattle.demands.specs.Asked.{RightBeside, Tells, tells, asks_only, asks_protected, left_only}
use Rattle.demands.specs.Past.{is_data, keys_in}
use Rattle.demands.specs.Runs.{fresh_with, fresh_one}
use Rattle.demands.specs.LeftOut.{answers_in, tallied_in, Unreplaced}
use Rattle.demands.specs.Refusals.{IsRefused}
use Rattle.demands.specs.Course.{Due}
use Rattle.demands.specs.HandedOut.{course_from, past_of}
use Rattle.demands.specs.Counts.{count_in, count_over, tally_after, up_to_stop, OnConnection, Counting, CountsRight}
use Rattle.demands.specs.Places.{answer_of, AnswersInPlace}
use Rattle.demands.specs.Gateways.{AnswersByTable, Demand2, Demand2IsTable, Demand2Settles, HandsOut, OneEach, Demand3, RefusesCalls, RefusesRecords, AnswersAlike, NeverChanges, FirstOnly, Invented, FiveFail}
use Rattle.demands.specs.Example.{example_id, example_secret, example_width, example_random, example_out, example_data}
use Rattle.demands.proofs.States.{ended, live_over}
use Rattle.demands.proofs.Genuine.{true_false}
use Rattle.demands.proofs.Asked.{tells_is, left_of}
use Rattle.demands.proofs.First.{first_sends}
use Rattle.demands.proofs.Calls.{by_chain, call_of, call_is, chain_of, chain_is}
use Rattle.demands.proofs.LeftOut.{leaves_out}
use Rattle.demands.proofs.Counts.{counts_right}
use Rattle.demands.proofs.HandedOut.{handed_out_at}
use Rattle.demands.proofs.Places.{behind_more, run_behind, answers_in_place}
use Rattle.demands.proofs.Works.{Walk}
use Rattle.demands.proofs.Example.{example_held, example_walk, acts, acts_sound, acts_leave, acts_open}
use Rattle.connection.specs.Connection.{alone, connection_of}
use Rattle.connection.specs.Handshake.{none_started}
use Rattle.connection.specs.Sent.{no_records}
use Rattle.connection.specs.Told.{told_by, told_record}
use Rattle.connection.specs.declared.asked.Whom.TheVariants as Y
use Rattle.connection.specs.declared.told.Told.{Told}
use Rattle.connection.specs.declared.sent.SentRecords.{SentRecords}
use Rattle.std.specs.Prelude.{Ok}

-- ---- ours

pub answers_by_table : AnswersByTable step_of
unfolding AnswersByTable
answers_by_table c d random out rs e l f =
    let is = call_is c (by_chain c {out = out} e l f (chain_of random d c rs)) in (
      answers_of c random d rs,
      first_reply c random d rs,
      ap (λ s. s.result) is,
      subst (Chain random d c rs (answers_of c random d rs)) (sym (ap (λ s. s.connection) is)) (chain_of random d c rs),
      ap (λ s. s.output) is,
      first_sends random d (chain_of random d c rs),
    )

pub meets_2 : Demand2 step_of
unfolding Demand2
meets_2 c call = call_of c call

-- a gateway that goes by the rows gives what ours gives
pub demand_2_table : Demand2IsTable
unfolding Demand2IsTable Demand2 AnswersByTable
demand_2_table g rows c d random out rs e l f =
    let same : step_of c (receive d random out) ≡ g c (receive d random out) = call_is c (rows c (receive d random out)) in
    subst
    (λ s. (answers : List Answer) × (reply : List ℕ) × (s.result ≡ received (Ok (length rs)) (slots_of answers) (length reply)) × Chain random d c rs answers s.connection × (s.output ≡ laid_over out 0 reply) × FirstSends c random d rs answers reply)
    same (answers_by_table c d random out rs e l f)

pub demand_2_settles : Demand2Settles
unfolding Demand2Settles Demand2
demand_2_settles g rows c call = sym (call_is c (rows c call))

pub hands_out : HandsOut step_of
unfolding HandsOut AnswersInPlace
hands_out id secret width held acts sound is_open calls d random out before r rest e l f n go =
    let c : Connection = behind (fresh_one id secret width) acts in
    let later : List Act = acts_of calls ++ map (comes random d) before in
    let session : Session = session_of id secret in
    let past : List Happened = past_of id secret width acts in
    let same : answer_of step_of (final_of step_of c calls) d random out before ≡ (told_record (behind c later) random d r).answer
    = answers_in_place (final_of step_of c calls) d random out before r rest e l f
    ∙ ap (λ x. (told_record (behind x (map (comes random d) before)) random d r).answer) (run_behind c calls)
    ∙ ap (λ x. (told_record x random d r).answer) (sym (behind_more c (acts_of calls) (map (comes random d) before))) in
    let q = handed_out_at id secret width held acts sound is_open later n go random d r (record { before = before; behind = rest; framing = f }) in
    subst (λ a. ((is_data a ≡ true) ↔ ((x : List ℕ) × Due (keys_in session past) (course_from session width past (map event_of later)) d r x)) × ((x : List ℕ) → Due (keys_in session past) (course_from session width past (map event_of later)) d r x → handed_of d a ≡ x)) (sym same) q

chain_length : (random d : List ℕ) (c : Connection) (rs : List Record) (answers : List Answer) (left : Connection)
    → Chain random d c rs answers left → length answers ≡ length rs
chain_length random d c [] (a ∷ answers) left x'' = elim x'' [ ]
chain_length random d c (r ∷ rs) [] left x3 = elim x3 [ ]
chain_length random d c [] [] left chain_end = refl
chain_length random d c (r ∷ rs) (a ∷ answers) left (chain_more {t = t} row more) =
    ap (λ n. suc n) (chain_length random d t.connection rs answers left more)

pub one_each : OneEach step_of
unfolding OneEach AnswersByTable
one_each c d random out rs e l f =
    let t = answers_by_table c d random out rs e l f in (
      t.0,
      chain_length random d c rs t.0 (step_of c (receive d random out)).connection t.3,
      ap answers_in t.2,
    )

pub meets_3 : Demand3 step_of
unfolding Demand3
meets_3 = (leaves_out, hands_out, one_each)

-- ---- the worked handshake

abbrev w : Walk example_id example_secret example_width example_random example_data
w = example_walk

abbrev start₀ : Handshake
start₀ = fresh_with example_id example_secret example_width

room : 128 ≤ length example_out
room = lit≤ tt

sixteen : length example_random ≡ 16
sixteen = refl

-- the open connection that it leaves
abbrev opened : Connection
opened = behind (fresh_one example_id example_secret example_width) (acts example_id example_secret example_random example_data sixteen w)

idle_not : S.Idle ≡ S.Open → ⊥
idle_not z = let n : ◌≡◌ {A = ℕ} 0 1 = cc in omega arith

replied_not : w.h₁.state ≢ S.Open
replied_not z = let y : S.Replied ≡ S.Open = sym w.replied_is ∙ z in let n : ◌≡◌ {A = ℕ} 0 1 = cc in omega arith

spec_not : w.h₂.state ≢ S.Open
spec_not z = let y : S.Spec ≡ S.Open = sym w.spec_is ∙ z in let n : ◌≡◌ {A = ℕ} 0 1 = cc in omega arith

-- the data on it is answered so, with none started
none_right : (s : SentRecords) → RightBeside (connection_of w.h₃ none_started s) w.d₄ w.r₄ → ⊥
none_right s q = let z : S.Idle ≡ S.Spec = q.in_spec in let n : ◌≡◌ {A = ℕ} 0 1 = cc in omega arith

abbrev handed_to : SentRecords → Told
handed_to s = told_by (connection_of w.h₃ none_started s) Y.Open (judged (W.Data 1 3 (length example_data)) w.h₄)

data_tells : (s : SentRecords) → Tells (connection_of w.h₃ none_started s) example_random w.d₄ w.r₄ (handed_to s)
data_tells s =
    tells (asks_protected w.open_is w.protected₄ (none_right s)) (w.row₄ s)
    (left_of (connection_of w.h₃ none_started s) (judged (W.Data 1 3 (length example_data)) w.h₄) Y.Open)

data_told : (s : SentRecords) → (told_record (connection_of w.h₃ none_started s) example_random w.d₄ w.r₄).answer ≡ W.Data 1 3 (length example_data)
data_told s = ap (λ t. t.answer) (tells_is (connection_of w.h₃ none_started s) example_random w.d₄ w.r₄ (data_tells s))

example_data_lem : answer_of step_of opened w.d₄ example_random example_out [] ≡ W.Data 1 3 (length example_data)
unfolding AnswersInPlace behind
example_data_lem =
    answers_in_place opened w.d₄ example_random example_out [] w.r₄ [] sixteen room w.framed₄
    ∙ ap (λ x. (told_record x example_random w.d₄ w.r₄).answer) (acts_leave example_id example_secret example_random example_data sixteen w)
    ∙ data_told _

-- the data of the worked handshake is due: who hands out, hands it out
due_example : (g : Gateway) → HandsOut g → is_data (answer_of g opened w.d₄ example_random example_out []) ≡ true
unfolding HandsOut final_of acts_of Unreplaced
due_example g hands =
    let as-acts : List Act = acts example_id example_secret example_random example_data sixteen w in
    let sound = acts_sound example_id example_secret example_random example_data sixteen w in
    let is_open = acts_open example_id example_secret example_random example_data sixteen w in
    let ours = hands_out example_id example_secret example_width example_held as-acts sound is_open [] w.d₄ example_random example_out [] w.r₄ [] sixteen room w.framed₄ tt tt in
    (hands example_id example_secret example_width example_held as-acts sound is_open [] w.d₄ example_random example_out [] w.r₄ [] sixteen room w.framed₄ tt tt).0.1 (ours.0.0 (ap is_data example_data_lem))

-- ---- a gateway that goes by the table, at a datagram of one record, where none is open

module _ (g : Gateway) (table : AnswersByTable g) (h : Handshake) (n : h.state ≢ S.Open) (d : List ℕ) (r : Record) (j : Judged) (f : framing_of d ≡ framed (r ∷ [])) (row : (s : SentRecords) → Row h s example_random d r j) where
  told_so : told_record (alone h) example_random d r ≡ told_by (alone h) Y.Only j
  told_so = tells_is (alone h) example_random d r (tells (asks_only n) (row no_records) left_only)

  -- its answer is the row's
  one_answer : answer_of g (alone h) d example_random example_out [] ≡ j.answer
  unfolding AnswersByTable answers_of slots_of
  one_answer =
      let q = table (alone h) d example_random example_out (r ∷ []) sixteen room f in
      let answers : (told_record (alone h) example_random d r).answer ∷ [] ≡ q.0 = (chain_is example_random d q.3).0 in
      ap (λ s. (get_or (answers_in s) 0 (slot W.Nothing)).answer) q.2
      ∙ sym (ap (λ l. (get_or (slots_of l) 0 (slot W.Nothing)).answer) answers)
      ∙ ap (λ x. x.answer) told_so

  one_left : (g (alone h) (receive d example_random example_out)).connection.handshake ≡ j.handshake
  unfolding AnswersByTable end_of
  one_left =
      let q = table (alone h) d example_random example_out (r ∷ []) sixteen room f in
      sym (ap (λ x. x.handshake) (chain_is example_random d q.3).1) ∙ ap (λ x. x.connection.handshake) told_so

-- ---- any that refuses everything

-- the state table
pub refusing_calls_table : (g : Gateway) → RefusesCalls g → AnswersByTable g → ⊥
unfolding AnswersByTable
refusing_calls_table g bad table =
    let q = table (alone start₀) w.d₁ example_random example_out (w.r₁ ∷ []) sixteen room w.framed₁ in
    subst IsRefused q.2 (bad.refused (alone start₀) (receive w.d₁ example_random example_out))

-- the handing out
pub refusing_calls_hands : (g : Gateway) → RefusesCalls g → HandsOut g → ⊥
unfolding slots_of
refusing_calls_hands g bad hands =
    true_false (is_data (answer_of g opened w.d₄ example_random example_out [])) (due_example g hands)
    (ap (λ l. is_data (get_or l 0 (slot W.Nothing)).answer) (bad.no_answers opened w.d₄ example_random example_out))

reply_refused : (n : ℕ) (x : Refusal) → W.Reply n ≡ W.Refused x → ⊥
reply_refused n x e = let z : ◌≡◌ {A = ℕ} 0 1 = cc in omega arith

pub refusing_records_table : (g : Gateway) → RefusesRecords g → AnswersByTable g → ⊥
unfolding RefusesRecords
refusing_records_table g bad table =
    let b = bad (alone start₀) w.d₁ example_random example_out [] w.r₁ [] w.framed₁ in
    reply_refused w.reply b.0 (sym (one_answer g table start₀ idle_not w.d₁ w.r₁ _ w.framed₁ w.row₁) ∙ b.1)

pub refusing_records_hands : (g : Gateway) → RefusesRecords g → HandsOut g → ⊥
unfolding RefusesRecords
refusing_records_hands g bad hands =
    let b = bad opened w.d₄ example_random example_out [] w.r₄ [] w.framed₄ in
    true_false (is_data (answer_of g opened w.d₄ example_random example_out [])) (due_example g hands) (ap is_data b.1)

-- ---- any that answers each record alike: the hello wants a reply, and clear data 8

unfoldable pub clear_data : List ℕ
clear_data = 0x44 ∷ 0x00 ∷ 0x00 ∷ 0x00 ∷ []

unfoldable pub clear_record : Record
clear_record = record { byte = 0x44; content = C.Data; protected = false; number = 0; start = 0; head = 3; size = 1; used = 4 }

clear_framed : framing_of clear_data ≡ framed (clear_record ∷ [])
unfolding clear_data clear_record framing_of framing_from read_of read_as framed_of kind_of sound_kind content_of
clear_framed = refl

-- clear data has no row
no_row : (s : State) (q : Seen) → q.protected ≡ false → q.content ≡ C.Data → Allowed s q → ⊥
no_row s q p c (hello a i z) = let y : C.Data ≡ C.Handshake = sym c ∙ i.handshake in let v : ◌≡◌ {A = ℕ} 0 1 = cc in omega arith
no_row s q p c (change a o k) = let y : C.Data ≡ C.ChangeCipherSpec = sym c ∙ k in let v : ◌≡◌ {A = ℕ} 0 1 = cc in omega arith
no_row s q p c (alert a o k) = let y : C.Data ≡ C.Alert = sym c ∙ k in let v : ◌≡◌ {A = ℕ} 0 1 = cc in omega arith
no_row s q p c (guarded g) = true_false q.protected g.protection p

clear_row : (s : SentRecords) → Row start₀ s example_random clear_data clear_record (refusing X.NotAllowed start₀)
unfolding clear_record
clear_row s =
    row_not_allowed (live_over start₀.state refl) (no_row start₀.state (seen_in clear_data clear_record) refl refl) (λ q. idle_not q.is_open)

pub alike_table : (g : Gateway) → AnswersAlike g → AnswersByTable g → ⊥
unfolding AnswersAlike
alike_table g alike table =
    reply_refused w.reply X.NotAllowed
    (sym (one_answer g table start₀ idle_not w.d₁ w.r₁ _ w.framed₁ w.row₁)
    ∙ alike (alone start₀) w.d₁ clear_data example_random example_out w.r₁ clear_record w.framed₁ clear_framed
    ∙ one_answer g table start₀ idle_not clear_data clear_record _ clear_framed clear_row)

-- ---- any that does nothing: Finished must open

pub nothing_table : (g : Gateway) → NeverChanges g → AnswersByTable g → ⊥
unfolding NeverChanges
nothing_table g never table =
    let same : w.h₂ ≡ w.h₃
    = sym (ap (λ c. c.handshake) (never (alone w.h₂) (receive w.d₃ example_random example_out)))
    ∙ one_left g table w.h₂ spec_not w.d₃ w.r₃ _ w.framed₃ w.row₃ in
    let z : S.Spec ≡ S.Open = sym w.spec_is ∙ ap (λ x. x.state) same ∙ w.open_is in
    let n : ◌≡◌ {A = ℕ} 0 1 = cc in
    omega arith

-- ---- one that acts on the first record and only acknowledges the rest

-- clear data, which is refused, and then change cipher spec
unfoldable pub two : List ℕ
two = 0xc4 ∷ 0x00 ∷ 0x00 ∷ 0x00 ∷ 0x01 ∷ 0x00 ∷ 0x41 ∷ 0x00 ∷ 0x01 ∷ 0x01 ∷ []

unfoldable pub one_of_two : Record
one_of_two = record { byte = 0xc4; content = C.Data; protected = false; number = 0; start = 0; head = 5; size = 1; used = 6 }

unfoldable pub two_of_two : Record
two_of_two = record { byte = 0x41; content = C.ChangeCipherSpec; protected = false; number = 1; start = 6; head = 3; size = 1; used = 4 }

pub two_framed : framing_of two ≡ framed (one_of_two ∷ two_of_two ∷ [])
unfolding two one_of_two two_of_two framing_of framing_from read_of read_as framed_of kind_of sound_kind content_of
two_framed = refl

first_row : (s : SentRecords) → Row w.h₁ s example_random two one_of_two (refusing X.NotAllowed w.h₁)
unfolding one_of_two
first_row s =
    row_not_allowed (live_over w.h₁.state (ap ended w.replied_is)) (no_row w.h₁.state (seen_in two one_of_two) refl refl)
    (λ q. replied_not q.is_open)

second_row : (s : SentRecords) → Row w.h₁ s example_random two two_of_two (judged W.Spec (with_state (with_window w.h₁ (emptied w.h₁.protection.window)) S.Spec))
unfolding two two_of_two is_change
second_row s = row_change w.replied_is refl refl refl

-- the first of the two alone
front_framed : framing_of (take one_of_two.used two) ≡ framed (one_of_two ∷ [])
unfolding two one_of_two framing_of framing_from read_of read_as framed_of kind_of sound_kind content_of
front_framed = refl

front_row : (s : SentRecords) → Row w.h₁ s example_random (take one_of_two.used two) one_of_two (refusing X.NotAllowed w.h₁)
unfolding one_of_two
front_row s =
    row_not_allowed (live_over w.h₁.state (ap ended w.replied_is))
    (no_row w.h₁.state (seen_in (take one_of_two.used two) one_of_two) refl refl)
    (λ q. replied_not q.is_open)

pub first_only_table : (g : Gateway) → FirstOnly g → AnswersByTable g → ⊥
unfolding FirstOnly AnswersByTable end_of
first_only_table g bad table =
    let h : Handshake = w.h₁ in
    let q = table (alone h) two example_random example_out (one_of_two ∷ two_of_two ∷ []) sixteen room two_framed in
    let none : told_record (alone h) example_random two one_of_two ≡ told_by (alone h) Y.Only (refusing X.NotAllowed h)
    = tells_is (alone h) example_random two one_of_two (tells (asks_only replied_not) (first_row no_records) left_only) in
    let left : (g (alone h) (receive two example_random example_out)).connection.handshake ≡ h
    = ap (λ c. c.handshake) (bad (alone h) two example_random example_out one_of_two (two_of_two ∷ []) two_framed front_framed)
    ∙ one_left g table h replied_not (take one_of_two.used two) one_of_two _ front_framed front_row in
    let right : (end_of (alone h) example_random two (one_of_two ∷ two_of_two ∷ [])).handshake ≡ with_state (with_window h (emptied h.protection.window)) S.Spec
    = ap (λ t. (told_record t.connection example_random two two_of_two).connection.handshake) none
    ∙ ap (λ t. t.connection.handshake) (tells_is (alone h) example_random two two_of_two (tells (asks_only replied_not) (second_row no_records) left_only)) in
    let z : S.Replied ≡ S.Spec
    = sym w.replied_is ∙ sym (ap (λ x. x.state) left) ∙ sym (ap (λ x. x.handshake.state) (chain_is example_random two q.3).1) ∙ ap (λ x. x.state) right in
    let n : ◌≡◌ {A = ℕ} 0 1 = cc in
    omega arith

-- ---- an invented tally

-- one data record handed out
handing : OnConnection
handing = record { connection = alone w.h₃; call = receive w.d₄ example_random example_out }

handing_counts : count_in is_data (answers_in (step_of handing.connection handing.call).result) ≡ 1
unfolding handing count_in slots_of
handing_counts =
    ap (λ s. count_in is_data (answers_in s.result))
    (call_is (alone w.h₃) (by_chain (alone w.h₃) {out = example_out} sixteen room w.framed₄ (chain_more (data_tells no_records) chain_end)))

-- and none by a close
closing_only : OnConnection
closing_only = record { connection = alone w.h₃; call = close }

closing_counts : count_in is_data (answers_in (step_of closing_only.connection closing_only.call).result) ≡ 0
unfolding closing_only count_in step_of
closing_counts = refl

pub invented_tally : (counting : Counting) → Invented counting → CountsRight step_of counting → ⊥
unfolding Invented CountsRight tally_after count_over
invented_tally counting bad right =
    let r : Returned = (step_of handing.connection handing.call).result in
    let q : Returned = (step_of closing_only.connection closing_only.call).result in
    let one : (counting fresh_tally r).handed ≡ up_to_stop (count_in is_data (answers_in r) + 0) = ap (λ x. x.handed) (right (handing ∷ [])) in
    let none : (counting fresh_tally q).handed ≡ up_to_stop (count_in is_data (answers_in q) + 0) = ap (λ x. x.handed) (right (closing_only ∷ [])) in
    let z : ◌≡◌ {A = ℕ} 1 0
    = sym (ap (λ n. up_to_stop (n + 0)) handing_counts) ∙ sym one ∙ ap (λ t. t.handed) (bad fresh_tally r q) ∙ none ∙ ap (λ n. up_to_stop (n + 0)) closing_counts in
    omega arith

-- the count is one: a tally that is right is ours after any calls
pub other_tally : (counting : Counting) (os : List OnConnection)
    → tally_after step_of counting fresh_tally os ≢ tally_after step_of tallied_in fresh_tally os → CountsRight step_of counting → ⊥
unfolding CountsRight
other_tally counting os differs right = differs (right os ∙ sym (counts_right os))

pub five_fail : FiveFail
five_fail =
    record {
      refuses_calls_table = refusing_calls_table;
      refuses_calls_hands = refusing_calls_hands;
      refuses_records_table = refusing_records_table;
      refuses_records_hands = refusing_records_hands;
      answers_alike_table = alike_table;
      does_nothing_table = nothing_table;
      first_only_table = first_only_table;
      invented_tally = invented_tally;
      other_tally = other_tally;
    }
