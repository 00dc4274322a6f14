-- The laws of a run over records: one record more at its end.
use mathlib.Core.Path.{◌≡◌, refl, sym, ◌∙◌, ap, ap₂, subst}
use mathlib.Core.Bool.{Bool, true, false}
use mathlib.Core.List.{List, [], ◌∷◌, ◌++◌, map}
use Prim.Native.Nat.{ℕ, zero, suc, ◌+◌, ◌-◌, ◌<◌, ◌≤◌}
use native.Mathlib.Omega.{arith}
use native.Mathlib.Numerals.{add-one}
use lib.ListN.{length, take, drop, get_or, set, replicate, length-append, length-take, length-drop, length-map}
use Rattle.digest.specs.Bytes.{laid_over}
use lib.Dec.{eqb}
use borrow.Author.Tests.{ne_eqb}
use Rattle.digest.specs.Pick.{pick}
use Rattle.record.proofs.Covering.{covers, Lies, lies_at, next_start, walkable}
use Rattle.record.specs.Reader.{read_of}
use lib.Seq.{take-suc, set_at, take_at, take_all, append_snoc, drop-cons, get_or-drop, get_or-take, length-take-le}
use Rattle.record.specs.Datagram.{Framing, framed, faulty, framing_of, walk_of, answered, found_all, misframed_at, blank, placed_at, CoversFrom}
use Rattle.record.specs.declared.datagram.Misframed.{Misframed}
use Rattle.record.specs.declared.datagram.Walk.{Walk}
use Rattle.record.specs.declared.reader.Record.{Record}
use Rattle.connection.specs.Answer.{reply_size}
use Rattle.connection.specs.Judge.{kind_in, judged_record}
use Rattle.connection.specs.Asked.{whom_of, asked_of}
use Rattle.connection.specs.Told.{told_record, judged_in, kept_by, is_beside, left_with}
use Rattle.connection.specs.Later.{is_hello, record_in, record_at, begun_by, not_begun, begun_of, begun_sent, judged_else}
use Rattle.connection.proofs.Stepping.{Plain, other_plain, later_plain, still, told_step}
use Rattle.connection.specs.Step.{led_by, stepped_by}
use Rattle.connection.specs.declared.step.Step.{Step}
use Rattle.connection.specs.declared.asked.Whom.{Whom}
use Rattle.connection.specs.declared.handshake.Handshake.{Handshake}
use Rattle.connection.specs.declared.receive.Begun.{Begun}
use Rattle.connection.specs.Receive.{end_of, answers_of, slot, slots_of, sent_by, first_reply, run_of}
use Rattle.connection.specs.declared.answer.Answer.{Answer}
use Rattle.connection.specs.declared.answer.Answer.TheVariants.{Nothing}
use Rattle.connection.specs.declared.answer.Slot.{Slot}
use Rattle.connection.specs.declared.receive.Received.{Received}
use Rattle.connection.specs.declared.connection.Connection.{Connection}
use Rattle.connection.specs.declared.told.Told.{Told}
use Rattle.std.specs.Prelude.{Ok, Err}

pub end_snoc : (c : Connection) (random d : List ℕ) (rs : List Record) (r : Record)
    → end_of c random d (rs ++ (r ∷ [])) ≡ (told_record (end_of c random d rs) random d r).connection
unfolding end_of
end_snoc c random d [] r = refl
end_snoc c random d (q ∷ rs) r = end_snoc (told_record c random d q).connection random d rs r

pub answers_snoc : (c : Connection) (random d : List ℕ) (rs : List Record) (r : Record)
    → answers_of c random d (rs ++ (r ∷ [])) ≡ answers_of c random d rs ++ ((told_record (end_of c random d rs) random d r).answer ∷ [])
unfolding end_of answers_of
answers_snoc c random d [] r = refl
answers_snoc c random d (q ∷ rs) r =
    ap (λ l. (told_record c random d q).answer ∷ l) (answers_snoc (told_record c random d q).connection random d rs r)

pub length_answers : (c : Connection) (random d : List ℕ) (rs : List Record) → length (answers_of c random d rs) ≡ length rs
unfolding answers_of
length_answers c random d [] = refl
length_answers c random d (r ∷ rs) = ap suc (length_answers (told_record c random d r).connection random d rs)

-- one answer more in its place
map_snoc : (l : List Answer) (a : Answer) → map slot (l ++ (a ∷ [])) ≡ map slot l ++ (slot a ∷ [])
map_snoc [] a = refl
map_snoc (b ∷ l) a = ap (λ x. slot b ∷ x) (map_snoc l a)

pub slots_more : (l : List Answer) (a : Answer) (n : ℕ) → length l ≡ n → n < 8 → set (slots_of l) n (slot a) ≡ slots_of (l ++ (a ∷ []))
unfolding slots_of
slots_more l a n e h =
    let one : 8 - length l ≡ suc (8 - suc n) = omega arith in
    let size : length (map slot l) ≡ n = length-map l slot ∙ e in
    let left : 8 - suc n ≡ 8 - length (l ++ (a ∷ [])) = omega (arith, length-append l (a ∷ [])) in
    ap (λ k. set (map slot l ++ replicate k (slot Nothing)) n (slot a)) one
    ∙ set_at (map slot l) (slot Nothing) (replicate (8 - suc n) (slot Nothing)) (slot a) n size
    ∙ sym (append_snoc (map slot l) (slot a) (replicate (8 - suc n) (slot Nothing)))
    ∙ ap₂ (λ x k. x ++ replicate k (slot Nothing)) (sym (map_snoc l a)) left

-- the records behind the first
pub later : List Record → ℕ → List Record
later records count = drop 1 (take count records)

pub later_more : (records : List Record) (count i : ℕ) → i + 1 < count → count ≤ length records
    → take (i + 1) (later records count) ≡ take i (later records count) ++ (get_or records (i + 1) blank ∷ [])
unfolding later
later_more records count i h l =
    let inside : i < length (drop 1 (take count records)) = omega (arith, length-drop 1 (take count records), length-take-le count records l) in
    let one : 1 + i ≡ i + 1 = omega arith in
    ap (λ n. take n (drop 1 (take count records))) (add-one i)
    ∙ take-suc (drop 1 (take count records)) i blank inside
    ∙ ap (λ r. take i (drop 1 (take count records)) ++ (r ∷ []))
    (get_or-drop 1 (take count records) i blank ∙ ap (λ n. get_or (take count records) n blank) one ∙ get_or-take count records (i + 1) blank h)

pub later_all : (records : List Record) (count i : ℕ) → count ≤ i + 1 → count ≤ length records → take i (later records count) ≡ later records count
unfolding later
later_all records count i h l =
    take_all i (drop 1 (take count records)) (omega (arith, length-drop 1 (take count records), length-take-le count records l))

length_later : (records : List Record) (count : ℕ) → length (later records count) ≡ length (take count records) - 1
unfolding later
length_later records count = length-drop 1 (take count records)

inside : (most rest i count : ℕ) → i + 1 < count → most ≡ count → rest ≡ most - 1 → i ≤ rest
inside most rest i count h e f = omega arith

-- the state of a run behind its first i + 1 records
pub record Ran (d ours : List ℕ) (records : List Record) (count : ℕ) (first : Connection) (answer : Answer) (answers : List Slot) (left : Connection) (i : ℕ) : Type 0 where
  pub left_is : left ≡ end_of first ours d (take i (later records count))
  pub answers_are : answers ≡ slots_of (answer ∷ answers_of first ours d (take i (later records count)))

pub ran_none : (d ours : List ℕ) (records : List Record) (count : ℕ) (first : Connection) (answer : Answer) (answers : List Slot)
    → answers ≡ slots_of (answer ∷ []) → Ran d ours records count first answer answers first 0
unfolding end_of answers_of
ran_none d ours records count first answer answers e = record { left_is = refl; answers_are = e }

pub ran_more : (d ours : List ℕ) (records : List Record) (count : ℕ) (first : Connection) (answer : Answer) (answers : List Slot) (left : Connection) (i : ℕ)
    → i + 1 < count → count ≤ 8 → count ≤ length records → (j : Told) → j ≡ told_record left ours d (get_or records (i + 1) blank)
    → Ran d ours records count first answer answers left i
    → Ran d ours records count first answer (set answers (i + 1) (slot j.answer)) j.connection (i + 1)
ran_more d ours records count first answer answers left i h few l j e ran =
    let r = get_or records (i + 1) blank in
    let before = take i (later records count) in
    let more : take (i + 1) (later records count) ≡ before ++ (r ∷ []) = later_more records count i h l in
    let j-is : j ≡ told_record (end_of first ours d before) ours d r = e ∙ ap (λ x. told_record x ours d r) ran.left_is in
    let size : length (answers_of first ours d before) ≡ i
    = length_answers first ours d before ∙ length-take-le i (later records count) (inside (length (take count records)) (length (later records count)) i count h (length-take-le count records l) (length_later records count)) in
    record {
      left_is = ap (λ x. x.connection) j-is ∙ sym (end_snoc first ours d before r) ∙ sym (ap (end_of first ours d) more);
      answers_are =
          ap₂ (λ x y. set x (i + 1) (slot y)) ran.answers_are (ap (λ x. x.answer) j-is)
          ∙ slots_more (answer ∷ answers_of first ours d before) (told_record (end_of first ours d before) ours d r).answer (i + 1) (ap suc size ∙ sym (add-one i)) (omega arith)
          ∙ ap (λ x. slots_of (answer ∷ x)) (sym (answers_snoc first ours d before r) ∙ sym (ap (answers_of first ours d) more));
    }

first_and_later : (records : List Record) (count : ℕ) → 0 < count → count ≤ length records
    → take count records ≡ get_or records 0 blank ∷ later records count
unfolding later
first_and_later records count some l =
    drop-cons (take count records) 0 blank (omega (arith, length-take-le count records l))
    ∙ ap (λ r. r ∷ drop 1 (take count records)) (get_or-take count records 0 blank some)

-- a run as its first record and the later ones
pub run_by : (c : Connection) (ours d : List ℕ) (records : List Record) (count i : ℕ) (answers : List Slot) (left : Connection) (j : Told) (written : ℕ)
    → 0 < count → count ≤ length records → count ≤ i + 1 → j ≡ told_record c ours d (get_or records 0 blank)
    → Ran d ours records count j.connection j.answer answers left i → written ≡ length (sent_by j)
    → ◌≡◌ {A = Received} (record { taken = Ok count; answers = answers; written = written; connection = left }) (run_of c ours d (take count records))
unfolding run_of end_of answers_of first_reply
run_by c ours d records count i answers left j written some l done ej ran ew =
    let rs-is = first_and_later records count some l in
    let all = later_all records count i done l in
    let size : count ≡ length (take count records) = sym (length-take-le count records l) in
    let left_is = ran.left_is ∙ ap (end_of j.connection ours d) all in
    let answers_are = ran.answers_are ∙ ap (λ x. slots_of (j.answer ∷ answers_of j.connection ours d x)) all in
    let made : ◌≡◌ {A = Received} (record { taken = Ok count; answers = answers; written = written; connection = left })
    (record { taken = Ok (length (take count records)); answers = slots_of (j.answer ∷ answers_of j.connection ours d (later records count)); written = length (sent_by j); connection = end_of j.connection ours d (later records count) })
    = λ k. record { taken = Ok (size k); answers = answers_are k; written = ew k; connection = left_is k } in
    made
    ∙ (λ k. record { taken = Ok (length (rs-is k)); answers = slots_of ((ej k).answer ∷ answers_of (ej k).connection ours d (later records count)); written = length (sent_by (ej k)); connection = end_of (ej k).connection ours d (later records count) })
    ∙ ap (run_of c ours d) (sym rs-is)

pub first_reply_lem : (c : Connection) (ours d : List ℕ) (records : List Record) (count : ℕ) (j : Told) → 0 < count → count ≤ length records
    → j ≡ told_record c ours d (get_or records 0 blank) → sent_by j ≡ first_reply c ours d (take count records)
unfolding first_reply
first_reply_lem c ours d records count j some l e =
    ap sent_by e ∙ sym (ap (first_reply c ours d) (first_and_later records count some l))

found_front : (rs : List Record) → take (found_all rs).count (found_all rs).records ≡ rs
unfolding found_all
found_front rs = take_at rs (replicate (8 - length rs) blank) (length rs) refl

-- what the walk found, as a framing
pub walk_sound : (d : List ℕ) (w : Walk) → walk_of d ≡ Ok w → framing_of d ≡ framed (take w.count w.records)
walk_sound d w e = go (framing_of d) refl
  where
    go : (f : Framing) → framing_of d ≡ f → framing_of d ≡ framed (take w.count w.records)
    go (framed rs) q =
        let z : Ok w ≡ Ok (found_all rs) = sym e ∙ ap answered q in
        let w-is : w ≡ found_all rs = cc in
        q ∙ ap framed (sym (ap (λ x. take x.count x.records) w-is ∙ found_front rs))
    go (faulty fault at) q =
        let z : Ok w ≡ misframed_at fault at = sym e ∙ ap answered q in
        let n : ◌≡◌ {A = ℕ} 0 1 = cc in absurd (omega arith)

pub walk_refused : (d : List ℕ) (m : Misframed) → walk_of d ≡ Err m → framing_of d ≡ faulty m.fault m.at
walk_refused d m e = go (framing_of d) refl
  where
    go : (f : Framing) → framing_of d ≡ f → framing_of d ≡ faulty m.fault m.at
    go (framed rs) q =
        let z : Err m ≡ Ok (found_all rs) = sym e ∙ ap answered q in
        let n : ◌≡◌ {A = ℕ} 0 1 = cc in absurd (omega arith)
    go (faulty other there) q =
        let z : Err m ≡ misframed_at other there = sym e ∙ ap answered q in
        let m-is : m ≡ record { fault = other; at = there } = cc in
        q ∙ sym (ap (λ (x : Misframed). faulty x.fault x.at) m-is)

-- which has one record at least
pub walk_some : (d : List ℕ) (w : Walk) → walk_of d ≡ Ok w → 0 < w.count
walk_some d w e =
    let c = covers d (take w.count w.records) (walk_sound d w e) in
    omega (arith, c.3, length-take w.count w.records)

-- nothing sent leaves the output as it was
pub laid_nothing : (out : List ℕ) → out ≡ laid_over out 0 []
unfolding laid_over
laid_nothing out = refl

-- ---- records read again at their places

pub record_there : (d : List ℕ) (r : Record) (at : ℕ) → Lies d r → r.start ≡ at → record_at d at ≡ r
record_there d r at l e =
    ap (λ a. record_in at (read_of (drop a d))) (sym e) ∙ ap (record_in at) l.reads ∙ ap (placed_at r) (sym e)

first_start : (d : List ℕ) (rs : List Record) → 0 < length rs → CoversFrom d 0 rs → (get_or rs 0 blank).start ≡ 0
unfolding CoversFrom
first_start d [] h c = absurd (omega arith)
first_start d (r ∷ rs) h c = c.0

later_start : (d : List ℕ) (rs : List Record) (j : ℕ) → CoversFrom d 0 rs → 0 < j → j < length rs → eqb (get_or rs j blank).start 0 ≡ false
later_start d rs zero c some h = absurd (omega arith)
later_start d rs (suc j) c some h =
    let l = lies_at rs j d 0 (omega arith) c (omega arith) in
    ne_eqb (get_or rs (suc j) blank).start 0 (λ z. omega (arith, next_start rs j d 0 c h, l.stand.some, l.stand.used))

-- the state of a run before its record i, which begins at `at`; no new reply is made from there on
pub record Going (d ours : List ℕ) (c : Connection) (rs : List Record) (answers : List Slot) (left : Connection) (i at : ℕ) : Type 0 where
  pub left_is : left ≡ end_of c ours d (take i rs)
  pub answers_are : answers ≡ slots_of (answers_of c ours d (take i rs))
  pub at_is : i < length rs → (get_or rs i blank).start ≡ at
  pub plain : (j : ℕ) → i ≤ j → j < length rs → Plain d ours (get_or rs j blank)

pub going_more : (d ours : List ℕ) (c : Connection) (rs : List Record) (answers : List Slot) (left : Connection) (i at : ℕ) → i < length rs → length rs ≤ 8
    → CoversFrom d 0 rs → (t : Told) → t ≡ told_record left ours d (get_or rs i blank) → Going d ours c rs answers left i at
    → Going d ours c rs (set answers i (slot t.answer)) t.connection (i + 1) (at + (get_or rs i blank).used)
going_more d ours c rs answers left i at h few covered t e g =
    let r = get_or rs i blank in
    let before = take i rs in
    let more : take (i + 1) rs ≡ before ++ (r ∷ []) = ap (λ n. take n rs) (add-one i) ∙ take-suc rs i blank h in
    let t-is : t ≡ told_record (end_of c ours d before) ours d r = e ∙ ap (λ x. told_record x ours d r) g.left_is in
    let size : length (answers_of c ours d before) ≡ i = length_answers c ours d before ∙ length-take-le i rs (omega arith) in
    record {
      left_is = ap (λ x. x.connection) t-is ∙ sym (end_snoc c ours d before r) ∙ sym (ap (end_of c ours d) more);
      answers_are =
          ap₂ (λ x y. set x i (slot y)) g.answers_are (ap (λ x. x.answer) t-is)
          ∙ slots_more (answers_of c ours d before) (told_record (end_of c ours d before) ours d r).answer i size (omega arith)
          ∙ ap slots_of (sym (answers_snoc c ours d before r) ∙ sym (ap (answers_of c ours d) more));
      at_is = λ n. ap (λ k. (get_or rs k blank).start) (add-one i) ∙ next_start rs i d 0 covered (omega (arith, n)) ∙ ap (λ a. a + r.used) (g.at_is h);
      plain = λ j l k. g.plain j (omega arith) k;
    }

-- a run begun
going_from : (d ours : List ℕ) (c : Connection) (rs : List Record) → 0 < length rs → CoversFrom d 0 rs → (x : Bool) → is_hello (kind_in d (get_or rs 0 blank)) ≡ x
    → let b = pick x (begun_by (told_record c ours d (get_or rs 0 blank)) (get_or rs 0 blank).used) (not_begun c) in
    Going d ours c rs (set (replicate 8 (slot Nothing)) 0 (slot b.answer)) b.connection b.done b.at
unfolding end_of answers_of slots_of
going_from d ours c [] some covered x e = absurd (omega arith)
going_from d ours c (r ∷ rs) some covered true e =
    record {
      left_is = refl;
      answers_are = refl;
      at_is = λ n. omega (arith, next_start (r ∷ rs) 0 d 0 covered n, first_start d (r ∷ rs) some covered);
      plain = λ j l k. later_plain d ours (get_or (r ∷ rs) j blank) (later_start d (r ∷ rs) j covered (omega arith) k);
    }
going_from d ours c (r ∷ rs) some covered false e =
    record {
      left_is = refl;
      answers_are = refl;
      at_is = λ n. first_start d (r ∷ rs) some covered;
      plain = plainly;
    }
  where
    plainly : (j : ℕ) → 0 ≤ j → j < length (r ∷ rs) → Plain d ours (get_or (r ∷ rs) j blank)
    plainly zero l k = other_plain d ours r e
    plainly (suc j) l k = later_plain d ours (get_or (r ∷ rs) (suc j) blank) (later_start d (r ∷ rs) (suc j) covered (omega arith) k)

pub going_begun : (d ours : List ℕ) (c : Connection) (rs : List Record) (b : Begun) → 0 < length rs → CoversFrom d 0 rs → b ≡ begun_of c ours d (get_or rs 0 blank)
    → Going d ours c rs (set (replicate 8 (slot Nothing)) 0 (slot b.answer)) b.connection b.done b.at
unfolding begun_of
going_begun d ours c rs b some covered e =
    subst (λ (b : Begun). Going d ours c rs (set (replicate 8 (slot Nothing)) 0 (slot b.answer)) b.connection b.done b.at) (sym e)
    (going_from d ours c rs some covered (is_hello (kind_in d (get_or rs 0 blank))) refl)

-- what was sent is the first record's reply
quiet_first : (c : Connection) (ours d : List ℕ) (r : Record) → Plain d ours r → sent_by (told_record c ours d r) ≡ []
unfolding told_record judged_in
quiet_first c ours d r plain =
    let h = asked_of c (whom_of c d r) in
    let none : reply_size (judged_record h c.sent ours d r).answer ≡ 0 = ap (λ j. reply_size j.answer) (plain h c.sent) ∙ (still h c.sent d r).0 in
    ap (λ n. take n (kept_by (is_beside (whom_of c d r)) (told_record c ours d r).connection).reply) none

pub begun_reply : (c : Connection) (ours d : List ℕ) (rs : List Record) → 0 < length rs → begun_sent c ours d (get_or rs 0 blank) ≡ first_reply c ours d rs
unfolding begun_sent first_reply
begun_reply c ours d [] some = absurd (omega arith)
begun_reply c ours d (r ∷ rs) some = told (is_hello (kind_in d r)) refl
  where
    told : (x : Bool) → is_hello (kind_in d r) ≡ x → pick x (sent_by (told_record c ours d r)) [] ≡ sent_by (told_record c ours d r)
    told true e = refl
    told false e = sym (quiet_first c ours d r (other_plain d ours r e))

pub begun_written : (c : Connection) (ours d : List ℕ) (r : Record) → (begun_of c ours d r).written ≡ length (begun_sent c ours d r)
unfolding begun_of begun_sent
begun_written c ours d r = told (is_hello (kind_in d r))
  where
    told : (x : Bool) → (pick x (begun_by (told_record c ours d r) r.used) (not_begun c)).written ≡ length (pick x (sent_by (told_record c ours d r)) [])
    told true = refl
    told false = refl

-- a run at its end
pub gone : (d ours : List ℕ) (c : Connection) (rs : List Record) (answers : List Slot) (left : Connection) (i at count written : ℕ) → length rs ≡ count → count ≤ i
    → Going d ours c rs answers left i at → written ≡ length (first_reply c ours d rs)
    → ◌≡◌ {A = Received} (record { taken = Ok count; answers = answers; written = written; connection = left }) (run_of c ours d rs)
unfolding run_of
gone d ours c rs answers left i at count written size done g ew =
    let all : take i rs ≡ rs = take_all i rs (omega arith) in
    let left_is = g.left_is ∙ ap (end_of c ours d) all in
    let answers_are = g.answers_are ∙ ap (λ x. slots_of (answers_of c ours d x)) all in
    λ k. record { taken = Ok (sym size k); answers = answers_are k; written = ew k; connection = left_is k }

-- the record at the place is the next one
pub record_next : (d ours : List ℕ) (c : Connection) (rs : List Record) (answers : List Slot) (left : Connection) (i at : ℕ) → i < length rs → CoversFrom d 0 rs
    → Going d ours c rs answers left i at → record_at d at ≡ get_or rs i blank
record_next d ours c rs answers left i at h covered g = record_there d (get_or rs i blank) at (lies_at rs i d 0 (omega arith) covered h) (g.at_is h)

-- one record more, as a step
pub going_step : (d ours : List ℕ) (c : Connection) (rs : List Record) (answers : List Slot) (left : Connection) (i at : ℕ) (r : Record) (whom : Whom) (h : Handshake) (s : Step)
    (next : Connection) → i < length rs → length rs ≤ 8 → CoversFrom d 0 rs → r ≡ record_at d at → whom ≡ whom_of left d r → h ≡ asked_of left whom
    → stepped_by h s ≡ judged_else h left.sent d r → next ≡ left_with left (led_by h s.window s.next) left.sent whom
    → Going d ours c rs answers left i at → Going d ours c rs (set answers i (slot s.answer)) next (i + 1) (at + r.used)
going_step d ours c rs answers left i at r whom h s next inside few covered er ew eh es en g =
    let r_is : r ≡ get_or rs i blank = er ∙ record_next d ours c rs answers left i at inside covered g in
    let plain : Plain d ours r = subst (Plain d ours) (sym r_is) (g.plain i (omega arith) inside) in
    let t : Told = record { answer = s.answer; connection = left_with left (led_by h s.window s.next) left.sent whom; beside = is_beside whom } in
    let t-is : t ≡ told_record left ours d (get_or rs i blank) = told_step left ours d r whom h s ew eh es plain ∙ ap (told_record left ours d) r_is in
    let more = going_more d ours c rs answers left i at inside few covered t t-is g in
    subst (λ (x : Connection). Going d ours c rs (set answers i (slot s.answer)) x (i + 1) (at + r.used)) (sym en)
    (subst (λ (q : Record). Going d ours c rs (set answers i (slot s.answer)) t.connection (i + 1) (at + q.used)) (sym r_is) more)

fits : (d : List ℕ) (r : Record) → Lies d r → (0 < r.size) × (r.start + r.head + r.size ≤ length d)
fits d r l = (l.stand.some, omega (arith, l.inside, l.stand.used))

-- a run that goes on from where it began, whatever it began from; and that there is one
pub record Goes (d : List ℕ) (count : ℕ) (answers₀ : List Slot) (left₀ : Connection) (i₀ at₀ : ℕ) (answers : List Slot) (left : Connection) (i at : ℕ) : Type 0 where
  pub ours : List ℕ
  pub c : Connection
  pub rs : List Record
  pub size : length rs ≡ count
  pub few : length rs ≤ 8
  pub covered : CoversFrom d 0 rs
  pub began : Going d ours c rs answers₀ left₀ i₀ at₀
  pub goes : (ours : List ℕ) (c : Connection) (rs : List Record) → length rs ≡ count → length rs ≤ 8 → CoversFrom d 0 rs
      → Going d ours c rs answers₀ left₀ i₀ at₀ → Going d ours c rs answers left i at

module _ {d : List ℕ} {count : ℕ} {answers₀ : List Slot} {left₀ : Connection} {i₀ at₀ : ℕ} {answers : List Slot} {left : Connection} {i at : ℕ}
    (g : Goes d count answers₀ left₀ i₀ at₀ answers left i at) where
  pub now_going : Going d g.ours g.c g.rs answers left i at
  now_going = g.goes g.ours g.c g.rs g.size g.few g.covered g.began

  -- the next record lies in the datagram
  pub next_lies : i < count → Lies d (record_at d at)
  next_lies h =
      let inside : i < length g.rs = omega (arith, g.size) in
      subst (Lies d) (sym (record_next d g.ours g.c g.rs answers left i at inside g.covered now_going)) (lies_at g.rs i d 0 (omega arith) g.covered inside)

  pub next_within : i < count → at ≤ length d
  next_within h =
      let inside : i < length g.rs = omega (arith, g.size) in
      omega (arith, (lies_at g.rs i d 0 (omega arith) g.covered inside).inside, now_going.at_is inside)

  pub goes_on : (r : Record) (whom : Whom) (h : Handshake) (s : Step) (next : Connection) → i < count → r ≡ record_at d at → whom ≡ whom_of left d r → h ≡ asked_of left whom
      → stepped_by h s ≡ judged_else h left.sent d r → next ≡ left_with left (led_by h s.window s.next) left.sent whom
      → Goes d count answers₀ left₀ i₀ at₀ (set answers i (slot s.answer)) next (i + 1) (at + r.used)
  goes_on r whom h s next inside er ew eh es en =
      record {
        ours = g.ours;
        c = g.c;
        rs = g.rs;
        size = g.size;
        few = g.few;
        covered = g.covered;
        began = g.began;
        goes = λ ours c rs size few covered b.
            going_step d ours c rs answers left i at r whom h s next (omega (arith, size)) few covered er ew eh es en (g.goes ours c rs size few covered b);
      }

  pub next_few : count ≤ 8
  next_few = omega (arith, g.size, g.few)

  pub next_fits : i < count → (r : Record) → r ≡ record_at d at → (0 < r.size) × (r.start + r.head + r.size ≤ length d)
  next_fits h r e = fits d r (subst (Lies d) (sym e) (next_lies h))

  pub next_ends : i < count → (r : Record) → r ≡ record_at d at → at + r.used ≤ length d
  next_ends h r e =
      let inside : i < length g.rs = omega (arith, g.size) in
      let there = record_next d g.ours g.c g.rs answers left i at inside g.covered now_going in
      let l : Lies d (get_or g.rs i blank) = lies_at g.rs i d 0 (omega arith) g.covered inside in
      let same : r.used ≡ (get_or g.rs i blank).used = ap (λ (x : Record). x.used) (e ∙ there) in
      omega (arith, l.inside, now_going.at_is inside)

-- a run of what the walk found, begun; and at its end
module _ (d ours : List ℕ) (c : Connection) (w : Walk) (b : Begun) (r : Record) (ew : walk_of d ≡ Ok w) (er : r ≡ record_at d 0)
    (eb : b ≡ begun_of c ours d r) where
  abbrev first : List Slot
  first = set (replicate 8 (slot Nothing)) 0 (slot b.answer)

  abbrev rs : List Record
  rs = take w.count w.records

  walked : CoversFrom d 0 rs × (1 ≤ length d) × (length d ≤ 1400) × (1 ≤ length rs) × (length rs ≤ 8)
  walked = covers d rs (walk_sound d w ew)

  counted : length rs ≡ w.count
  counted = length-take-le w.count w.records (omega (arith, (walkable d w ew).few, (walkable d w ew).eight))

  r_is : r ≡ get_or rs 0 blank
  r_is = er ∙ record_there d (get_or rs 0 blank) 0 (lies_at rs 0 d 0 (omega arith) walked.0 (omega (arith, walked.3))) (first_start d rs (omega (arith, walked.3)) walked.0)

  began_going : Going d ours c rs first b.connection b.done b.at
  began_going = going_begun d ours c rs b (omega (arith, walked.3)) walked.0 (eb ∙ ap (begun_of c ours d) r_is)

  pub goes_begun : Goes d w.count first b.connection b.done b.at first b.connection b.done b.at
  goes_begun =
      record {
        ours = ours;
        c = c;
        rs = rs;
        size = counted;
        few = walked.4;
        covered = walked.0;
        began = began_going;
        goes = λ o k l s f v g. g;
      }

  replied : begun_sent c ours d r ≡ first_reply c ours d rs
  replied = ap (begun_sent c ours d) r_is ∙ begun_reply c ours d rs (omega (arith, walked.3))

  pub goes_end : (answers : List Slot) (left : Connection) (i at : ℕ) → w.count ≤ i
      → Goes d w.count first b.connection b.done b.at answers left i at
      → ◌≡◌ {A = Received} (record { taken = Ok w.count; answers = answers; written = b.written; connection = left }) (run_of c ours d rs)
  goes_end answers left i at done g =
      gone d ours c rs answers left i at w.count b.written counted done (g.goes ours c rs counted walked.4 walked.0 began_going)
      (ap (λ (x : Begun). x.written) eb ∙ begun_written c ours d r ∙ ap length replied)

  pub sent_first : begun_sent c ours d r ≡ first_reply c ours d rs
  sent_first = replied

-- its first record lies in the datagram, which is no longer than a datagram may be
pub first_fits : (d : List ℕ) (w : Walk) (r : Record) → walk_of d ≡ Ok w → r ≡ record_at d 0 → (0 < r.size) × (r.start + r.head + r.size ≤ length d)
first_fits d w r ew er =
    let rs = take w.count w.records in
    let v = covers d rs (walk_sound d w ew) in
    let l = lies_at rs 0 d 0 (omega arith) v.0 (omega (arith, v.3)) in
    fits d r (subst (Lies d) (sym (er ∙ record_there d (get_or rs 0 blank) 0 l (first_start d rs (omega (arith, v.3)) v.0))) l)

pub short_enough : (d : List ℕ) (w : Walk) → walk_of d ≡ Ok w → length d ≤ 1400
short_enough d w ew = (covers d (take w.count w.records) (walk_sound d w ew)).2
