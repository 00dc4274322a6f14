-- The tally counts right. The idea: a tally of counts up to the stop, brought up to date by one answer, is the tally of the counts with
-- that answer; eight places are eight answers, the empty ones among them count nothing.
use mathlib.Core.Path.{◌≡◌, refl, sym, ◌∙◌, ap, ap₂}
use mathlib.Core.Logic.{by_cases}
use mathlib.Core.Bool.{Bool}
use mathlib.Core.List.{List, [], ◌∷◌, ◌++◌, map}
use Prim.Native.Nat.{ℕ, zero, suc, ◌+◌, ◌-◌, ◌≤◌, ◌<◌, min}
use native.Mathlib.Omega.{arith}
use native.Mathlib.Nat.{add-zero, zero-add, add_assoc}
use native.Mathlib.Decide.{dec_le}
use lib.ListN.{length, take, get_or, replicate, length-append, length-map, length-replicate}
use lib.Seq.{take-suc, take_all}
use borrow.Author.Tests.{eq-eqb, ne_eqb}
use Rattle.digest.specs.Pick.{pick}
use Rattle.record.specs.declared.reader.Record.{Record}
use Rattle.record.proofs.Covering.{covers}
use Rattle.connection.specs.Receive.{slot, slots_of}
use Rattle.connection.specs.Tally.{bumped, counted_answer, counted_refusal, counted_first, counted_of}
use Rattle.connection.specs.declared.refusal.Refusal.{Refusal}
use Rattle.connection.specs.declared.refusal.Refusal.TheVariants as X
use Rattle.connection.specs.declared.answer.Answer.{Answer}
use Rattle.connection.specs.declared.answer.Answer.TheVariants as W
use Rattle.connection.specs.declared.answer.Slot.{Slot}
use Rattle.connection.specs.declared.connection.Connection.{Connection}
use Rattle.connection.specs.declared.tally.Tally.{Tally}
use Rattle.demands.specs.Runs.{Call, Returned, received, sent, called, Step, step_of}
use Rattle.demands.specs.Calls.{Chain, chain_end, chain_more, CallRow, receive_16, receive_6, receive_framing, receive_records, data_16, data_7, data_8, data_15, data_6, data_sent_lem, alert_16, alert_7, alert_8, alert_15, alert_6, alert_sent_lem, close_7, close_done, start_7, start_8, start_done}
use Rattle.demands.specs.Past.{is_data}
use Rattle.demands.specs.LeftOut.{answers_in, tallied_in}
use Rattle.demands.specs.Counts.{is_forged, is_old, is_repeated, refused_as, count_in, OnConnection, count_over, tally_after, up_to_stop, CountsRight}
use Rattle.demands.proofs.Calls.{call_of}

-- one more, up to the stop
bumped_is : (n : ℕ) → bumped (min n 4294967295) ≡ min (n + 1) 4294967295
unfolding bumped
bumped_is n =
    by_cases (dec_le 4294967295 n)
    (λ l. let at : min n 4294967295 ≡ 4294967295 = omega arith in
    ap (λ b. pick b (min n 4294967295) (min n 4294967295 + 1)) (eq-eqb (min n 4294967295) 4294967295 at) ∙ reached n l)
    (λ l. ap (λ b. pick b (min n 4294967295) (min n 4294967295 + 1)) (ne_eqb (min n 4294967295) 4294967295 (λ e. below n l e)) ∙ not_yet n l)
  where
    reached : (n : ℕ) → 4294967295 ≤ n → min n 4294967295 ≡ min (n + 1) 4294967295
    reached n l = omega arith

    below : (n : ℕ) → (4294967295 ≤ n → ⊥) → min n 4294967295 ≡ 4294967295 → ⊥
    below n l e = omega arith

    not_yet : (n : ℕ) → (4294967295 ≤ n → ⊥) → min n 4294967295 + 1 ≡ min (n + 1) 4294967295
    not_yet n l = omega arith

-- the tally of four counts
abbrev pub tally_of : ℕ → ℕ → ℕ → ℕ → Tally
tally_of a b c e = record { handed = up_to_stop a; forged = up_to_stop b; old = up_to_stop c; repeated = up_to_stop e }

module _ (a b c e : ℕ) where
  none : tally_of a b c e ≡ tally_of (a + 0) (b + 0) (c + 0) (e + 0)
  none = λ i. tally_of (sym (add-zero a) i) (sym (add-zero b) i) (sym (add-zero c) i) (sym (add-zero e) i)

  one_handed : ◌≡◌ {A = Tally} (record { handed = bumped (up_to_stop a); forged = up_to_stop b; old = up_to_stop c; repeated = up_to_stop e }) (tally_of (a + 1) (b + 0) (c + 0) (e + 0))
  one_handed = λ i. record { handed = bumped_is a i; forged = up_to_stop (sym (add-zero b) i); old = up_to_stop (sym (add-zero c) i); repeated = up_to_stop (sym (add-zero e) i) }

  one_forged : ◌≡◌ {A = Tally} (record { handed = up_to_stop a; forged = bumped (up_to_stop b); old = up_to_stop c; repeated = up_to_stop e }) (tally_of (a + 0) (b + 1) (c + 0) (e + 0))
  one_forged = λ i. record { handed = up_to_stop (sym (add-zero a) i); forged = bumped_is b i; old = up_to_stop (sym (add-zero c) i); repeated = up_to_stop (sym (add-zero e) i) }

  one_old : ◌≡◌ {A = Tally} (record { handed = up_to_stop a; forged = up_to_stop b; old = bumped (up_to_stop c); repeated = up_to_stop e }) (tally_of (a + 0) (b + 0) (c + 1) (e + 0))
  one_old = λ i. record { handed = up_to_stop (sym (add-zero a) i); forged = up_to_stop (sym (add-zero b) i); old = bumped_is c i; repeated = up_to_stop (sym (add-zero e) i) }

  one_repeated : ◌≡◌ {A = Tally} (record { handed = up_to_stop a; forged = up_to_stop b; old = up_to_stop c; repeated = bumped (up_to_stop e) }) (tally_of (a + 0) (b + 0) (c + 0) (e + 1))
  one_repeated = λ i. record { handed = up_to_stop (sym (add-zero a) i); forged = up_to_stop (sym (add-zero b) i); old = up_to_stop (sym (add-zero c) i); repeated = bumped_is e i }

  one_refusal : (x : Refusal) → counted_refusal (tally_of a b c e) x ≡ tally_of (a + 0) (b + pick (is_forged x) 1 0) (c + pick (is_old x) 1 0) (e + pick (is_repeated x) 1 0)
  one_refusal (X.Framing fault) = none
  one_refusal X.Room = none
  one_refusal X.Ended = none
  one_refusal X.NotAllowed = none
  one_refusal X.Forged = one_forged
  one_refusal X.TooOld = one_old
  one_refusal X.Repeated = one_repeated
  one_refusal X.Malformed = none
  one_refusal X.Unacceptable = none
  one_refusal X.Checksum = none
  one_refusal X.Spent = none
  one_refusal X.Argument = none
  one_refusal X.WrongFinished = none

  one_answer : (x : Answer) → counted_answer (tally_of a b c e) x
      ≡ tally_of (a + pick (is_data x) 1 0) (b + pick (refused_as is_forged x) 1 0) (c + pick (refused_as is_old x) 1 0) (e + pick (refused_as is_repeated x) 1 0)
  one_answer W.Nothing = none
  one_answer (W.Reply size) = none
  one_answer (W.Resent size) = none
  one_answer W.Spec = none
  one_answer W.Open = none
  one_answer W.Again = none
  one_answer (W.Data number place size) = one_handed
  one_answer (W.Warning description) = none
  one_answer (W.Critical description) = none
  one_answer (W.Fatal description) = none
  one_answer (W.Barred description) = none
  one_answer (W.Refused refusal) = one_refusal refusal

-- ---- the first n places

count_more : (is : Answer → Bool) (l m : List Slot) → count_in is (l ++ m) ≡ count_in is l + count_in is m
unfolding count_in
count_more is [] m = omega arith
count_more is (x ∷ l) m = ap (λ n. pick (is x.answer) 1 0 + n) (count_more is l m) ∙ sym (add_assoc (pick (is x.answer) 1 0) (count_in is l) (count_in is m))

count_one : (is : Answer → Bool) (x : Slot) → count_in is (x ∷ []) ≡ pick (is x.answer) 1 0
unfolding count_in
count_one is x = add-zero (pick (is x.answer) 1 0)

-- one place more
place_more : (is : Answer → Bool) (slots : List Slot) (n : ℕ) → n < length slots
    → count_in is (take (suc n) slots) ≡ count_in is (take n slots) + pick (is (get_or slots n (slot W.Nothing)).answer) 1 0
place_more is slots n l =
    ap (count_in is) (take-suc slots n (slot W.Nothing) l)
    ∙ count_more is (take n slots) (get_or slots n (slot W.Nothing) ∷ [])
    ∙ ap (λ m. count_in is (take n slots) + m) (count_one is (get_or slots n (slot W.Nothing)))

module _ (a b c e : ℕ) (slots : List Slot) where
  abbrev up_to : ℕ → Tally
  up_to n =
      tally_of (a + count_in is_data (take n slots)) (b + count_in (refused_as is_forged) (take n slots)) (c + count_in (refused_as is_old) (take n slots)) (e + count_in (refused_as is_repeated) (take n slots))

  regroup : (is : Answer → Bool) (m n : ℕ) → n < length slots
      → m + count_in is (take n slots) + pick (is (get_or slots n (slot W.Nothing)).answer) 1 0 ≡ m + count_in is (take (suc n) slots)
  regroup is m n l =
      add_assoc m (count_in is (take n slots)) (pick (is (get_or slots n (slot W.Nothing)).answer) 1 0) ∙ ap (λ x. m + x) (sym (place_more is slots n l))

  first_counts : (n : ℕ) → n ≤ length slots → counted_first (tally_of a b c e) slots n ≡ up_to n
  unfolding counted_first count_in
  first_counts zero l = none a b c e
  first_counts (suc n) l =
      ap (λ t. counted_answer t (get_or slots n (slot W.Nothing)).answer) (first_counts n (omega arith))
      ∙ one_answer (a + count_in is_data (take n slots)) (b + count_in (refused_as is_forged) (take n slots)) (c + count_in (refused_as is_old) (take n slots)) (e + count_in (refused_as is_repeated) (take n slots)) (get_or slots n (slot W.Nothing)).answer
      ∙ λ i. tally_of (regroup is_data a n l i) (regroup (refused_as is_forged) b n l i) (regroup (refused_as is_old) c n l i) (regroup (refused_as is_repeated) e n l i)

  pub eight_counts : length slots ≡ 8
      → counted_of (tally_of a b c e) slots ≡ tally_of (a + count_in is_data slots) (b + count_in (refused_as is_forged) slots) (c + count_in (refused_as is_old) slots) (e + count_in (refused_as is_repeated) slots)
  eight_counts l =
      let all : take 8 slots ≡ slots = take_all 8 slots (omega arith) in
      first_counts 8 (omega arith)
      ∙ λ i. tally_of (a + count_in is_data (all i)) (b + count_in (refused_as is_forged) (all i)) (c + count_in (refused_as is_old) (all i)) (e + count_in (refused_as is_repeated) (all i))

-- ---- each receive gives eight places

Eight : Returned → Type 0
Eight (received taken answers written) = length answers ≡ 8
Eight (sent outcome written) = Unit
Eight (called outcome) = Unit

slots_eight : (l : List Answer) → length l ≤ 8 → length (slots_of l) ≡ 8
unfolding slots_of
slots_eight l h =
    length-append (map slot l) (replicate (8 - length l) (slot W.Nothing))
    ∙ ap₂ (λ (x y : ℕ). x + y) (length-map l slot) (length-replicate (8 - length l) (slot W.Nothing))
    ∙ whole (length l) h
  where
    whole : (n : ℕ) → n ≤ 8 → n + (8 - n) ≡ 8
    whole n h = omega arith

chain_length : (random d : List ℕ) {c : Connection} {rs : List Record} {answers : List Answer} {last : Connection} → Chain random d c rs answers last → length answers ≡ length rs
chain_length random d chain_end = refl
chain_length random d (chain_more row more) = ap suc (chain_length random d more)

eight : (c : Connection) {call : Call} {s : Step} → CallRow c call s → Eight s.result
unfolding Eight
eight c (receive_16 n) = slots_eight [] (omega arith)
eight c (receive_6 e l) = slots_eight [] (omega arith)
eight c (receive_framing e l f) = slots_eight [] (omega arith)
eight c (receive_records {d = d} {random = random} {rs = rs} {answers = answers} reply e l f more sends) =
    slots_eight answers (omega (arith, chain_length random d more, (covers d rs f).4))
eight c (data_16 b) = tt
eight c (data_7 g e) = tt
eight c (data_8 g e n) = tt
eight c (data_15 g e n) = tt
eight c (data_6 g e n l) = tt
eight c (data_sent_lem g e n l) = tt
eight c (alert_16 b) = tt
eight c (alert_7 g e) = tt
eight c (alert_8 g e f) = tt
eight c (alert_15 g e n) = tt
eight c (alert_6 g e n l) = tt
eight c (alert_sent_lem g e n l) = tt
eight c (close_7 e) = tt
eight c (close_done n) = tt
eight c (start_7 e) = tt
eight c (start_8 n m) = tt
eight c (start_done e) = tt

result_counts : (a b c e : ℕ) (r : Returned) → Eight r
    → tallied_in (tally_of a b c e) r ≡ tally_of (a + count_in is_data (answers_in r)) (b + count_in (refused_as is_forged) (answers_in r)) (c + count_in (refused_as is_old) (answers_in r)) (e + count_in (refused_as is_repeated) (answers_in r))
unfolding Eight count_in
result_counts a b c e (received taken answers written) l = eight_counts a b c e answers l
result_counts a b c e (sent outcome written) l = none a b c e
result_counts a b c e (called outcome) l = none a b c e

-- ---- any sequence of calls

all_counts : (os : List OnConnection) (a b c e : ℕ)
    → tally_after step_of tallied_in (tally_of a b c e) os
    ≡ tally_of (a + count_over step_of is_data os) (b + count_over step_of (refused_as is_forged) os) (c + count_over step_of (refused_as is_old) os) (e + count_over step_of (refused_as is_repeated) os)
unfolding tally_after count_over
all_counts [] a b c e = none a b c e
all_counts (o ∷ os) a b c e =
    let r : Returned = (step_of o.connection o.call).result in
    let n : (Answer → Bool) → ℕ = λ is. count_in is (answers_in r) in
    ap (λ t. tally_after step_of tallied_in t os) (result_counts a b c e r (eight o.connection (call_of o.connection o.call)))
    ∙ all_counts os (a + count_in is_data (answers_in r)) (b + count_in (refused_as is_forged) (answers_in r)) (c + count_in (refused_as is_old) (answers_in r)) (e + count_in (refused_as is_repeated) (answers_in r))
    ∙ λ i. tally_of (add_assoc a (count_in is_data (answers_in r)) (count_over step_of is_data os) i) (add_assoc b (count_in (refused_as is_forged) (answers_in r)) (count_over step_of (refused_as is_forged) os) i) (add_assoc c (count_in (refused_as is_old) (answers_in r)) (count_over step_of (refused_as is_old) os) i) (add_assoc e (count_in (refused_as is_repeated) (answers_in r)) (count_over step_of (refused_as is_repeated) os) i)

pub counts_right : CountsRight step_of tallied_in
unfolding CountsRight
counts_right os =
    all_counts os 0 0 0 0
    ∙ λ i. tally_of (zero-add (count_over step_of is_data os) i) (zero-add (count_over step_of (refused_as is_forged) os) i) (zero-add (count_over step_of (refused_as is_old) os) i) (zero-add (count_over step_of (refused_as is_repeated) os) i)
