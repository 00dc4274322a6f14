-- From the call down to a record: answer i is that of record i, which begins where the bytes say.
use mathlib.Core.Path.{◌≡◌, refl, sym, ap, ap₂, subst, ◌∙◌}
use mathlib.Core.List.{List, [], ◌∷◌, map}
use Prim.Native.Nat.{ℕ, zero, suc, ◌+◌, ◌-◌, ◌<◌}
use native.Mathlib.Omega.{arith}
use lib.ListN.{length, get_or, take, drop, replicate, length-map, get_or-append}
use lib.Seq.{split_at}
use borrow.Author.Tests.{eq-eqb, le-ltb}
use Rattle.record.specs.Datagram.{framed, framing_of, placed_at, blank, CoversFrom}
use Rattle.record.proofs.Covering.{covers}
use Rattle.record.proofs.Standing.{Stands, stands}
use Rattle.record.specs.declared.reader.Record.{Record}
use Rattle.connection.specs.Told.{told_record}
use Rattle.connection.specs.Asked.{asked_of}
use Rattle.connection.specs.Receive.{received_of, run_of, end_of, answers_of, slot, slots_of}
use Rattle.connection.proofs.Running.{length_answers}
use Rattle.connection.specs.declared.answer.Answer.{Answer}
use Rattle.connection.specs.declared.answer.Answer.TheVariants.{Nothing}
use Rattle.connection.specs.declared.connection.Connection.{Connection}
use Rattle.demands.specs.Runs.{receive, step_of}
use Rattle.demands.specs.Genuine.{RecordOf}
use Rattle.demands.specs.Exactly.Whole.{CallFits, head_at, size_at, start_of}
use Rattle.demands.specs.Exactly.Record.{seen_at, WhyRecord, ExactlyRecord}
use Rattle.demands.specs.Exactly.Answers.{answer_given, ExactlyAnswers}
use Rattle.demands.specs.Exactly.All.{GivenExactlyWhen}
use Rattle.demands.proofs.Exactly.Reasons.{numbered, contents-numbered}
use Rattle.demands.proofs.Exactly.Sends.{exactly-data, exactly-alert}
use Rattle.demands.proofs.Exactly.Calls.{exactly-start, exactly-close, exactly-fresh}
use Rattle.demands.proofs.Exactly.Reading.{head-is, size_is}
use Rattle.demands.proofs.Exactly.Whole.{exactly-receive}
use Rattle.demands.proofs.Exactly.Record.{exactly-record}
use Rattle.demands.proofs.Asked.{asks_is, told_by_lem}

-- ---- where record i begins

start-at : (rs : List Record) (i n : ℕ) (d : List ℕ) → CoversFrom d (start_of d n) rs → i < length rs
    → (get_or rs i blank).start ≡ start_of d (n + i)
unfolding CoversFrom start_of
start-at [] i n d c h = absurd (omega arith)
start-at (r ∷ rs) zero n d c h = let z : n ≡ n + 0 = omega arith in c.0 ∙ ap (start_of d) z
start-at (r ∷ rs) (suc i) n d c h =
    let at : ℕ = start_of d n in
    let s : Stands (drop at d) (placed_at r 0) = stands (drop at d) (placed_at r 0) c.1.0 in
    let used-e : r.used ≡ head_at d at + size_at d at = s.used
    ∙ ap₂ (λ x y. x + y) (s.head ∙ head-is d at) (s.size ∙ size_is d at) in
    let next : at + r.used ≡ at + head_at d at + size_at d at = omega arith in
    let one_on : suc n + i ≡ n + suc i = omega arith in
    start-at rs i (suc n) d (subst (λ k. CoversFrom d k rs) next c.1.1) (omega arith) ∙ ap (start_of d) one_on

pub starts : (d : List ℕ) (rs : List Record) → framing_of d ≡ framed rs → (i : ℕ) → i < length rs
    → (get_or rs i blank).start ≡ start_of d i
unfolding start_of
starts d rs f i h = let z : 0 + i ≡ i = omega arith in start-at rs i 0 d (covers d rs f).0 h ∙ ap (start_of d) z

-- ---- answer i is that of record i

answer_at : (rs : List Record) (i : ℕ) (c : Connection) (random d : List ℕ) → i < length rs
    → get_or (answers_of c random d rs) i Nothing ≡ (told_record (end_of c random d (take i rs)) random d (get_or rs i blank)).answer
unfolding answers_of end_of
answer_at [] i c random d l = absurd (omega arith)
answer_at (r ∷ rs) zero c random d l = refl
answer_at (r ∷ rs) (suc i) c random d l = answer_at rs i (told_record c random d r).connection random d (omega arith)

slot_map : (l : List Answer) (i : ℕ) → i < length l → get_or (map slot l) i (slot Nothing) ≡ slot (get_or l i Nothing)
slot_map [] i h = absurd (omega arith)
slot_map (a ∷ l) zero h = refl
slot_map (a ∷ l) (suc i) h = slot_map l i (omega arith)

slot_at : (l : List Answer) (i : ℕ) → i < length l → (get_or (slots_of l) i (slot Nothing)).answer ≡ get_or l i Nothing
unfolding slots_of
slot_at l i h =
    ap (λ s. s.answer)
    (get_or-append (map slot l) (replicate (8 - length l) (slot Nothing)) (slot Nothing) i
    (omega (arith, length-map l slot)) ∙ slot_map l i h)

-- a record of the datagram
pub in_place : (d : List ℕ) (rs : List Record) → framing_of d ≡ framed rs → (i : ℕ) → i < length rs
    → RecordOf d (get_or rs i blank)
in_place d rs f i h =
    record { before = take i rs; behind = drop (suc i) rs; framing = f ∙ ap framed (split_at rs i blank h) }

pub answered : (c : Connection) (d random out : List ℕ) (rs : List Record) → CallFits (length random) (length out)
    → framing_of d ≡ framed rs
    → (i : ℕ) → i < length rs
    → answer_given (step_of c (receive d random out)).result i
    ≡ (told_record (end_of c random d (take i rs)) random d (get_or rs i blank)).answer
unfolding step_of received_of run_of
answered c d random out rs (sixteen, room) f i h =
    rw (eq-eqb (length random) 16 sixteen, le-ltb (length out) 128 room, f)
    (slot_at (answers_of c random d rs) i (omega (arith, length_answers c random d rs)) ∙ answer_at rs i c random d h)

pub exactly-answers : ExactlyAnswers step_of
unfolding ExactlyAnswers ExactlyRecord
exactly-answers c d random out rs bytes fits f i h w asks numbers window x =
    let r : Record = get_or rs i blank in
    let left : Connection = end_of c random d (take i rs) in
    let here : r.start ≡ start_of d i = starts d rs f i h in
    let e = answered c d random out rs fits f i h ∙ ap (λ t. t.answer) (told_by_lem left random d r w (asks_is left d r asks)) in
    let both = exactly-record (asked_of left w) left.sent numbers random d r bytes (in_place d rs f i h) window x in (
      λ a. subst (λ k. WhyRecord (asked_of left w) left.sent numbers (seen_at d k) x) here (both.0 (sym e ∙ a)),
      λ y. e ∙ both.1 (subst (λ k. WhyRecord (asked_of left w) left.sent numbers (seen_at d k) x) (sym here) y),
    )

pub given-exactly-when : GivenExactlyWhen step_of
given-exactly-when =
    record {
      numbers = numbered;
      contents = contents-numbered;
      fresh_connection = exactly-fresh;
      receive_whole = exactly-receive;
      receive_each = exactly-answers;
      each_record = exactly-record;
      sends_data = exactly-data;
      sends_alert = exactly-alert;
      closes = exactly-close;
      starts_again = exactly-start;
    }
