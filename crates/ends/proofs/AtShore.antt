-- The shore on its two courses: what it takes goes along with demand 3, and what it sends is a record of its own number.
use mathlib.Core.Path.{◌≡◌, refl, sym, ◌∙◌, ap, ap₂, subst}
use mathlib.Core.Bool.{Bool, true, false}
use mathlib.Core.List.{List, [], ◌∷◌, ◌++◌, map, append-nil, append_assoc}
use Prim.Native.Nat.{ℕ, zero, suc, ◌+◌, ◌-◌, ◌≤◌}
use lib.ListN.{length, take, replicate}
use borrow.Author.Tests.{eq-eqb, le-ltb}
use Rattle.digest.specs.Pick.{pick}
use Rattle.digest.specs.Mac.{size_of}
use Rattle.record.specs.Datagram.{framed, faulty, framing_of}
use Rattle.record.specs.declared.header.Content.TheVariants as C
use Rattle.record.specs.declared.keys.Keys.{Keys}
use Rattle.record.specs.declared.keys.Sense.TheVariants.{FromUnit}
use Rattle.record.specs.declared.reader.Fault.{Fault}
use Rattle.record.specs.declared.reader.Record.{Record}
use Rattle.record.proofs.Histories.{decide}
use Rattle.message.specs.Alert.{level_of}
use Rattle.message.specs.declared.alert.Description.{Description}
use Rattle.message.specs.declared.alert.Level.{Level}
use Rattle.connection.specs.Answer.{handed_of}
use Rattle.connection.specs.Receive.{end_of, answers_of, slot, slots_of, received_of, whole_of, framed_to}
use Rattle.connection.specs.Send.{data_sent, alert_sent, alert_output, next_protected, after_send, alert_body}
use Rattle.connection.specs.Told.{told_record}
use Rattle.connection.specs.declared.answer.Answer.{Answer}
use Rattle.connection.specs.declared.answer.Answer.TheVariants as W
use Rattle.connection.specs.declared.answer.Judged.{Judged}
use Rattle.connection.specs.declared.answer.Slot.{Slot}
use Rattle.connection.specs.declared.connection.Connection.{Connection}
use Rattle.connection.specs.declared.handshake.Handshake.{Handshake}
use Rattle.connection.specs.declared.receive.Received.{Received}
use Rattle.connection.specs.declared.receive.Untaken.TheVariants as T
use Rattle.connection.specs.declared.refusal.Refusal.{Refusal}
use Rattle.connection.specs.declared.refusal.Refusal.TheVariants as X
use Rattle.connection.specs.declared.sent.SentRecords.{SentRecords}
use Rattle.connection.specs.declared.state.State.TheVariants as S
use Rattle.connection.specs.declared.told.Told.{Told}
use Rattle.demands.specs.Acts.{comes, acts_in, records_in, behind}
use Rattle.demands.specs.Asked.{RightBeside}
use Rattle.demands.specs.Calls.{CallRow, GoodData, data_16, data_7, data_8, data_15, data_6, data_sent_lem, alert_16, alert_7, alert_8, alert_15, alert_6, alert_sent_lem}
use Rattle.demands.specs.Course.{Course, course_of, Due}
use Rattle.demands.specs.Genuine.{Genuine, RecordOf}
use Rattle.demands.specs.LeftOut.{Unreplaced}
use Rattle.demands.specs.Past.{is_data}
use Rattle.demands.specs.Runs as Runs
use Rattle.demands.specs.Runs.{Returned, received, sent, called, Step, step_of}
use Rattle.demands.specs.Table.{Row}
use Rattle.demands.specs.Table.{row_ended, row_returned, row_not_allowed, row_reply, row_hello_malformed, row_unacceptable, row_resent, row_change, row_change_malformed, row_clear_malformed, row_checksum, row_clear_warning, row_clear_critical, row_clear_fatal, row_forged, row_old, row_repeated, row_malformed, row_data, row_warning, row_critical, row_barred, row_open, row_again, row_wrong_finished}
use Rattle.demands.proofs.Calls.{call_of, chain_of}
use Rattle.demands.proofs.Genuine.{true_false}
use Rattle.demands.proofs.HandedOut.{Along, along_all, told_exactly, told_handed, data_facts}
use Rattle.demands.proofs.LeftOut.{greets_not_open, clear_noise, told_open}
use Rattle.demands.proofs.Lives.{data_asked}
use Rattle.demands.proofs.Refusals.{laid_front}
use Rattle.demands.proofs.Table.{row_of, row_is}
use Rattle.ends.specs.Link.{GenuineFor, Handed, handed, number_in, handed_as, out_ashore}
use Rattle.ends.proofs.Ashore as Calls
use Rattle.ends.proofs.Courses.{DueFor, Taken, nothing, hands, passes, step_for, stays_shut}
use Rattle.std.specs.Prelude.{Err, Ok, Some, ⊤, Result}

-- ---- what the answers of a datagram hand out

unfoldable pub out_answers : List ℕ → List Answer → List Handed
out_answers d [] = []
out_answers d (a ∷ answers) = handed_as d a ++ out_answers d answers

out_none : (d : List ℕ) (n : ℕ) → out_ashore d (replicate n (slot W.Nothing)) ≡ []
unfolding out_ashore
out_none d zero = refl
out_none d (suc n) = out_none d n

out_slots : (d : List ℕ) (answers : List Answer) (rest : List Slot) → out_ashore d (map slot answers ++ rest) ≡ out_answers d answers ++ out_ashore d rest
unfolding out_ashore out_answers
out_slots d [] rest = refl
out_slots d (a ∷ answers) rest =
    ap (λ l. handed_as d a ++ l) (out_slots d answers rest) ∙ sym (append_assoc (handed_as d a) (out_answers d answers) (out_ashore d rest))

pub out_answers_lem : (d : List ℕ) (answers : List Answer) → out_ashore d (slots_of answers) ≡ out_answers d answers
unfolding slots_of
out_answers_lem d answers =
    out_slots d answers (replicate (8 - length answers) (slot W.Nothing))
    ∙ ap (λ l. out_answers d answers ++ l) (out_none d (8 - length answers)) ∙ append-nil (out_answers d answers)

-- ---- one record

module _ (k : Keys) (expected : List ℕ) where
  to_for : (d : List ℕ) (r : Record) (x : List ℕ) → Genuine k d r x → GenuineFor k FromUnit d r x
  to_for d r x g = record { in_place = g.in_place; is_protected = g.protected_as.is_protected; is_coded = g.protected_as.is_coded }

  from_for : (d : List ℕ) (r : Record) (x : List ℕ) → GenuineFor k FromUnit d r x → Genuine k d r x
  from_for d r x g = record { in_place = g.in_place; protected_as = record { is_protected = g.is_protected; is_coded = g.is_coded } }

  due_for : (course : Course) (d : List ℕ) (r : Record) (x : List ℕ) → Due k course d r x → DueFor k FromUnit expected course d r x
  due_for course d r x u =
      record { not_shut = u.not_shut; genuine = to_for d r x u.genuine; is_data_lem = u.is_data_lem; some = u.some; not_before = u.not_before; recent = u.recent }

  for_due : (course : Course) (d : List ℕ) (r : Record) (x : List ℕ) → DueFor k FromUnit expected course d r x → Due k course d r x
  for_due course d r x u =
      record { not_shut = u.not_shut; genuine = from_for d r x u.genuine; is_data_lem = u.is_data_lem; some = u.some; not_before = u.not_before; recent = u.recent }

  -- the number that a data answer says is the record's
  number_said : (c : Connection) (random d : List ℕ) (r : Record) → is_data (told_record c random d r).answer ≡ true → number_in (told_record c random d r).answer ≡ r.number
  number_said c random d r z =
      let asked = (data_asked c random d r z).1 in
      let f = data_facts c.handshake c.sent random d r (row_of c.handshake c.sent random d r) (sym (ap is_data asked) ∙ z) in
      ap number_in asked ∙ ap (λ (j : Judged). number_in j.answer) (row_is c.handshake c.sent random d r (row_data f.c f.w f.new f.is_data_lem f.some))

  -- the sending number stays
  number_kept : (h : Handshake) (list : SentRecords) (random d : List ℕ) (r : Record) → h.state ≡ S.Open → {j : Judged} → Row h list random d r j
      → j.handshake.protection.protected ≡ h.protection.protected
  number_kept h list random d r o (row_ended e) = refl
  number_kept h list random d r o (row_returned q) = refl
  number_kept h list random d r o (row_not_allowed e b n) = refl
  number_kept h list random d r o (row_reply plan g e) = greets_not_open h.state g.another o
  number_kept h list random d r o (row_hello_malformed fault g e) = refl
  number_kept h list random d r o (row_unacceptable condition g e) = refl
  number_kept h list random d r o (row_resent s i y e) = refl
  number_kept h list random d r o (row_change s p c e) = refl
  number_kept h list random d r o (row_change_malformed s p c e) = refl
  number_kept h list random d r o (row_clear_malformed s p c e) = refl
  number_kept h list random d r o (row_checksum b s p c e n) = refl
  number_kept h list random d r o (row_clear_warning b s p c e q l) = refl
  number_kept h list random d r o (row_clear_critical b s p c e q l) = refl
  number_kept h list random d r o (row_clear_fatal b s p c e q l) = refl
  number_kept h list random d r o (row_forged g f) = refl
  number_kept h list random d r o (row_old c g s e) = refl
  number_kept h list random d r o (row_repeated c g s e) = refl
  number_kept h list random d r o (row_malformed c w n m) = refl
  number_kept h list random d r o (row_data c w n e m) = refl
  number_kept h list random d r o (row_warning c w b n e m l) = refl
  number_kept h list random d r o (row_critical c w b n e m l) = refl
  number_kept h list random d r o (row_barred c w b n e m l) = refl
  number_kept h list random d r o (row_open c w n s e m) = refl
  number_kept h list random d r o (row_again c w n s e m) = refl
  number_kept h list random d r o (row_wrong_finished c w n e m) = refl

  told_number : (c : Connection) (random d : List ℕ) (r : Record) → c.handshake.state ≡ S.Open → (RightBeside c d r → ⊥)
      → (told_record c random d r).connection.handshake.protection.protected ≡ c.handshake.protection.protected
  told_number c random d r o n = by r.protected refl
    where
      by : (p : Bool) → r.protected ≡ p → (told_record c random d r).connection.handshake.protection.protected ≡ c.handshake.protection.protected
      by false p = ap (λ (h : Handshake). h.protection.protected) (clear_noise c random d r o p).0
      by true p =
          ap (λ (t : Told). t.connection.handshake.protection.protected) (told_open c random d r o p n)
          ∙ number_kept c.handshake c.sent random d r o (row_of c.handshake c.sent random d r)

  -- ---- the records of a datagram

  -- while nothing shut: what came is taken by the course, and the sending number stays
  pub record Took (c : Connection) (course : Course) (random d : List ℕ) (rs : List Record) : Type 0 where
    pub end : Course
    pub taken : Taken k FromUnit expected d course rs (out_answers d (answers_of c random d rs)) end
    pub along : Along k expected end (end_of c random d rs).handshake
    pub number : (course.shut ≡ false → end.shut ≡ false → (end_of c random d rs).handshake.protection.protected ≡ c.handshake.protection.protected)

  step_along : (c : Connection) (course : Course) (random d : List ℕ) (r : Record) → Along k expected course c.handshake → (RightBeside c d r → ⊥)
      → Along k expected (step_for k FromUnit expected course d r) (told_record c random d r).connection.handshake
  unfolding course_of behind Unreplaced
  step_along c course random d r a n = along_all k expected (comes random d r ∷ []) course c a (n, tt) tt

  one_out : (c : Connection) (course : Course) (random d : List ℕ) (r : Record) → Along k expected course c.handshake → RecordOf d r
      → (rs : List Record) (out : List Handed) (end : Course) → Taken k FromUnit expected d (step_for k FromUnit expected course d r) rs out end
      → Taken k FromUnit expected d course (r ∷ rs) (handed_as d (told_record c random d r).answer ++ out) end
  one_out c course random d r a at rs out end more = decide (is_data answer) yes_so no_so
    where
      answer : Answer
      answer = (told_record c random d r).answer

      yes_so : is_data answer ≡ true → Taken k FromUnit expected d course (r ∷ rs) (handed_as d answer ++ out) end
      yes_so z =
          let due = (told_exactly k expected course c a random d r at).0 z in
          let is : handed_as d answer ++ out ≡ handed r.number due.0 ∷ out
          = ap (λ (b : Bool). pick b (handed (number_in answer) (handed_of d answer) ∷ []) [] ++ out) z
          ∙ ap₂ (λ n x. handed n x ∷ out) (number_said c random d r z) (told_handed k expected course c a random d r at due.0 due.1) in
          subst (λ l. Taken k FromUnit expected d course (r ∷ rs) l end) (sym is) (hands due.0 (due_for course d r due.0 due.1) more)

      no_so : is_data answer ≡ false → Taken k FromUnit expected d course (r ∷ rs) (handed_as d answer ++ out) end
      no_so z =
          let is : handed_as d answer ++ out ≡ out = ap (λ (b : Bool). pick b (handed (number_in answer) (handed_of d answer) ∷ []) [] ++ out) z in
          subst (λ l. Taken k FromUnit expected d course (r ∷ rs) l end) (sym is)
          (passes at (λ x u. true_false (is_data answer) ((told_exactly k expected course c a random d r at).1 (x, for_due course d r x u)) z) more)

  pub take_all : (random d : List ℕ) (before rs : List Record) → framing_of d ≡ framed (before ++ rs) → (c : Connection) (course : Course)
      → Along k expected course c.handshake → Unreplaced c (map (comes random d) rs) → Took c course random d rs
  unfolding answers_of end_of out_answers Unreplaced
  take_all random d before [] f c course a n = record { end = course; taken = nothing; along = a; number = λ y z. refl }
  take_all random d before (r ∷ rs) f c course a n =
      let next : Course = step_for k FromUnit expected course d r in
      let t = (told_record c random d r).connection in
      let at : RecordOf d r = record { before = before; behind = rs; framing = f } in
      let b = step_along c course random d r a n.0 in
      let q = take_all random d (before ++ (r ∷ [])) rs (f ∙ ap framed (sym (append_assoc before (r ∷ []) rs))) t next b n.1 in
      record {
        end = q.end;
        taken = one_out c course random d r a at rs (out_answers d (answers_of t random d rs)) q.end q.taken;
        along = q.along;
        number = λ y z.
            q.number (decide next.shut (λ s. true_false q.end.shut (stays_shut k FromUnit expected d q.taken s) z) (λ s. s)) z
            ∙ told_number c random d r (a.is_open y) n.0;
      }

-- ---- a call to receive

module _ (c : Connection) (d random out : List ℕ) (lr : length random ≡ 16) (lo : 128 ≤ length out) where
  pub acts_are : acts_in (Runs.receive d random out) ≡ records_in random d (framing_of d)
  acts_are =
      ap₂ (λ a b. pick a (pick b [] (records_in random d (framing_of d))) []) (eq-eqb (length random) 16 lr) (le-ltb (length out) 128 lo)

  pub framed_out : (rs : List Record) → framing_of d ≡ framed rs
      → (out_ashore d (received_of c d random (length out)).answers ≡ out_answers d (answers_of c random d rs))
      × ((received_of c d random (length out)).connection ≡ end_of c random d rs)
  framed_out rs f =
      let q = Calls.took c d random out rs (answers_of c random d rs) (end_of c random d rs) lr lo f (chain_of random d c rs) in
      (ap (λ (x : Received). out_ashore d x.answers) q.gives ∙ out_answers_lem d (answers_of c random d rs), ap (λ (x : Received). x.connection) q.gives)

  pub faulty_out : (fault : Fault) (at : ℕ) → framing_of d ≡ faulty fault at
      → (out_ashore d (received_of c d random (length out)).answers ≡ []) × ((received_of c d random (length out)).connection ≡ c)
  unfolding received_of whole_of out_answers
  faulty_out fault at f =
      let e : received_of c d random (length out) ≡ whole_of c (Err (T.Misframed (X.Framing fault) at))
      = ap₂ (λ a b. pick a (pick b (whole_of c (Err (T.Refused X.Room))) (framed_to c random d (framing_of d))) (whole_of c (Err (T.Refused X.Argument))))
      (eq-eqb (length random) 16 lr) (le-ltb (length out) 128 lo) ∙ ap (framed_to c random d) f in
      (ap (λ (x : Received). out_ashore d x.answers) e ∙ out_answers_lem d [], ap (λ (x : Received). x.connection) e)

-- ---- sends

abbrev outcome_in : Returned → Result ⊤ Refusal
outcome_in (received taken answers written) = Ok tt
outcome_in (sent outcome written) = outcome
outcome_in (called outcome) = outcome

abbrev written_in : Returned → ℕ
written_in (received taken answers written) = written
written_in (sent outcome written) = written
written_in (called outcome) = 0

module _ (c : Connection) (bytes out : List ℕ) where
  pub data DataSide : Type 0 where
    data_refused_lem : (x : Refusal) → (data_sent c bytes (length out)).outcome ≡ Err x → (data_sent c bytes (length out)).connection ≡ c → DataSide
    data_done : GoodData bytes → c.handshake.state ≡ S.Open → c.handshake.protection.protected ≤ 65535
        → 3 + length bytes + size_of c.handshake.protection.keys.mac ≤ length out → DataSide

  data_by : {s : Step} → CallRow c (Runs.send_data bytes out) s → step_of c (Runs.send_data bytes out) ≡ s → DataSide
  unfolding step_of
  data_by (data_16 b) e = data_refused_lem X.Argument (ap (λ (s : Step). outcome_in s.result) e) (ap (λ (s : Step). s.connection) e)
  data_by (data_7 g x) e = data_refused_lem X.Ended (ap (λ (s : Step). outcome_in s.result) e) (ap (λ (s : Step). s.connection) e)
  data_by (data_8 g x n) e = data_refused_lem X.NotAllowed (ap (λ (s : Step). outcome_in s.result) e) (ap (λ (s : Step). s.connection) e)
  data_by (data_15 g x n) e = data_refused_lem X.Spent (ap (λ (s : Step). outcome_in s.result) e) (ap (λ (s : Step). s.connection) e)
  data_by (data_6 g x n l) e = data_refused_lem X.Room (ap (λ (s : Step). outcome_in s.result) e) (ap (λ (s : Step). s.connection) e)
  data_by (data_sent_lem g x n l) e = data_done g x n l

  pub data_side : DataSide
  data_side = data_by (call_of c (Runs.send_data bytes out)) refl

module _ (c : Connection) (level description : ℕ) (answered out : List ℕ) where
  pub data AlertSide : Type 0 where
    alert_refused_lem : (x : Refusal) → (alert_sent c true level description answered (length out)).outcome ≡ Err x
        → (alert_sent c true level description answered (length out)).connection ≡ c → AlertSide
    alert_done : (l : Level) (m : Description) → level_of level ≡ Some l → c.handshake.protection.protected ≤ 65535
        → (alert_sent c true level description answered (length out)).outcome ≡ Ok tt
        → take (alert_sent c true level description answered (length out)).written (alert_output c true level description answered out)
        ≡ next_protected c.handshake C.Alert (alert_body l m answered)
        → (alert_sent c true level description answered (length out)).connection
        ≡ after_send true c (next_protected c.handshake C.Alert (alert_body l m answered)) → AlertSide

  alert_by_lem : {s : Step} → CallRow c (Runs.send_alert true level description answered out) s → step_of c (Runs.send_alert true level description answered out) ≡ s → AlertSide
  unfolding step_of
  alert_by_lem (alert_16 b) e = alert_refused_lem X.Argument (ap (λ (s : Step). outcome_in s.result) e) (ap (λ (s : Step). s.connection) e)
  alert_by_lem (alert_7 g x) e = alert_refused_lem X.Ended (ap (λ (s : Step). outcome_in s.result) e) (ap (λ (s : Step). s.connection) e)
  alert_by_lem (alert_8 g x n) e = alert_refused_lem X.NotAllowed (ap (λ (s : Step). outcome_in s.result) e) (ap (λ (s : Step). s.connection) e)
  alert_by_lem (alert_15 g x n) e = alert_refused_lem X.Spent (ap (λ (s : Step). outcome_in s.result) e) (ap (λ (s : Step). s.connection) e)
  alert_by_lem (alert_6 g x n l) e = alert_refused_lem X.Room (ap (λ (s : Step). outcome_in s.result) e) (ap (λ (s : Step). s.connection) e)
  alert_by_lem (alert_sent_lem {l = v} {k = m} g x n l) e =
      alert_done v m g.level_is n (ap (λ (s : Step). outcome_in s.result) e)
      (ap₂ take (ap (λ (s : Step). written_in s.result) e) (ap (λ (s : Step). s.output) e) ∙ laid_front out (next_protected c.handshake C.Alert (alert_body v m answered)))
      (ap (λ (s : Step). s.connection) e)

  pub alert_side : AlertSide
  alert_side = alert_by_lem (call_of c (Runs.send_alert true level description answered out)) refl
