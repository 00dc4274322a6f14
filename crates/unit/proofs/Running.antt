-- The laws of a run over records: one record more at its end.
use mathlib.Core.Path.{◌≡◌, refl, sym, ◌∙◌, ap, ap₂}
use mathlib.Core.List.{List, [], ◌∷◌, ◌++◌, map}
use Prim.Native.Nat.{ℕ, suc, ◌+◌, ◌-◌, ◌<◌, ◌≤◌}
use native.Mathlib.Omega.{arith}
use native.Mathlib.Numerals.{add-one}
use lib.ListN.{length, take, get_or, set, replicate, length-append, length-map}
use lib.Seq.{take-suc, set_at, append_snoc, length-take-le}
use Rattle.record.specs.Datagram.{blank}
use Rattle.record.specs.declared.reader.Record.{Record}
use Rattle.unit.specs.Answer.{slot, opens_by, opens_to}
use Rattle.unit.specs.Judge.{judged_record}
use Rattle.unit.specs.Receive.{end_of, answers_of, slots_of, flight_in, run_of}
use Rattle.unit.specs.declared.answer.Answer.{Answer}
use Rattle.unit.specs.declared.answer.Answer.TheVariants.{Nothing}
use Rattle.unit.specs.declared.answer.Slot.{Slot}
use Rattle.unit.specs.declared.agree.Judged.{Judged}
use Rattle.unit.specs.declared.receive.Received.{Received}
use Rattle.unit.specs.declared.unit.Unit.{Unit}
use Rattle.std.specs.Prelude.{Ok}

pub end_snoc : (u : Unit) (d : List ℕ) (rs : List Record) (r : Record)
    → end_of u d (rs ++ (r ∷ [])) ≡ (judged_record (end_of u d rs) d r).unit
unfolding end_of
end_snoc u d [] r = refl
end_snoc u d (q ∷ rs) r = end_snoc (judged_record u d q).unit d rs r

pub answers_snoc : (u : Unit) (d : List ℕ) (rs : List Record) (r : Record)
    → answers_of u d (rs ++ (r ∷ [])) ≡ answers_of u d rs ++ ((judged_record (end_of u d rs) d r).answer ∷ [])
unfolding end_of answers_of
answers_snoc u d [] r = refl
answers_snoc u d (q ∷ rs) r = ap (λ l. (judged_record u d q).answer ∷ l) (answers_snoc (judged_record u d q).unit d rs r)

pub length_answers : (u : Unit) (d : List ℕ) (rs : List Record) → length (answers_of u d rs) ≡ length rs
unfolding answers_of
length_answers u d [] = refl
length_answers u d (r ∷ rs) = ap suc (length_answers (judged_record u d r).unit d rs)

opens_snoc : (n : ℕ) (l : List Answer) (a : Answer) → opens_to n (l ++ (a ∷ [])) ≡ opens_by (opens_to n l) a
unfolding opens_to
opens_snoc n [] a = refl
opens_snoc n (b ∷ l) a = opens_snoc (opens_by n b) l a

-- one answer more in its place
map_snoc : (l : List Answer) (a : Answer) → map slot (l ++ (a ∷ [])) ≡ map slot l ++ (slot a ∷ [])
map_snoc [] a = refl
map_snoc (b ∷ l) a = ap (λ x. slot b ∷ x) (map_snoc l a)

pub slots_more : (l : List Answer) (a : Answer) (n : ℕ) → length l ≡ n → n < 8 → set (slots_of l) n (slot a) ≡ slots_of (l ++ (a ∷ []))
unfolding slots_of
slots_more l a n e h =
    let one : 8 - length l ≡ suc (8 - suc n) = omega arith in
    let size : length (map slot l) ≡ n = length-map l slot ∙ e in
    let left : 8 - suc n ≡ 8 - length (l ++ (a ∷ [])) = omega (arith, length-append l (a ∷ [])) in
    ap (λ k. set (map slot l ++ replicate k (slot Nothing)) n (slot a)) one
    ∙ set_at (map slot l) (slot Nothing) (replicate (8 - suc n) (slot Nothing)) (slot a) n size
    ∙ sym (append_snoc (map slot l) (slot a) (replicate (8 - suc n) (slot Nothing)))
    ∙ ap₂ (λ x k. x ++ replicate k (slot Nothing)) (sym (map_snoc l a)) left

-- the state of a run behind its first i records
pub record Ran (u : Unit) (d : List ℕ) (records : List Record) (answers : List Slot) (left : Unit) (opens i : ℕ) : Type 0 where
  pub left_is : left ≡ end_of u d (take i records)
  pub answers_are : answers ≡ slots_of (answers_of u d (take i records))
  pub opens_is : opens ≡ opens_to 0 (answers_of u d (take i records))

pub ran_none : (u : Unit) (d : List ℕ) (records : List Record) (answers : List Slot)
    → answers ≡ slots_of [] → Ran u d records answers u 0 0
unfolding end_of answers_of opens_to
ran_none u d records answers e = record { left_is = refl; answers_are = e; opens_is = refl }

pub ran_more : (u : Unit) (d : List ℕ) (records : List Record) (answers : List Slot) (left : Unit) (opens i : ℕ)
    → i < 8 → length records ≡ 8 → (j : Judged) (n : ℕ) → j ≡ judged_record left d (get_or records i blank)
    → n ≡ opens_by opens j.answer
    → Ran u d records answers left opens i
    → Ran u d records (set answers i (slot j.answer)) j.unit n (i + 1)
ran_more u d records answers left opens i h l j n e f ran =
    let r = get_or records i blank in
    let before = take i records in
    let more : take (i + 1) records ≡ before ++ (r ∷ []) = ap (λ k. take k records) (add-one i) ∙ take-suc records i blank (omega arith) in
    let j-is : j ≡ judged_record (end_of u d before) d r = e ∙ ap (λ x. judged_record x d r) ran.left_is in
    let size : length (answers_of u d before) ≡ i = length_answers u d before ∙ length-take-le i records (omega arith) in
    let all = sym (answers_snoc u d before r) ∙ sym (ap (answers_of u d) more) in
    let answer_is = ap (λ x. x.answer) j-is in
    record {
      left_is = ap (λ x. x.unit) j-is ∙ sym (end_snoc u d before r) ∙ sym (ap (end_of u d) more);
      answers_are =
          ap₂ (λ x y. set x i (slot y)) ran.answers_are answer_is
          ∙ slots_more (answers_of u d before) (judged_record (end_of u d before) d r).answer i size h
          ∙ ap slots_of all;
      opens_is =
          f ∙ ap₂ opens_by ran.opens_is answer_is
          ∙ sym (opens_snoc 0 (answers_of u d before) (judged_record (end_of u d before) d r).answer)
          ∙ ap (opens_to 0) all;
    }

-- what is sent of the flight, at the end
pub flight_is : (u : Unit) (d : List ℕ) (records : List Record) (count : ℕ) (answers : List Slot) (left : Unit) (opens : ℕ)
    → Ran u d records answers left opens count → take opens left.flight ≡ flight_in u d (take count records)
unfolding flight_in
flight_is u d records count answers left opens ran =
    ap₂ take ran.opens_is (ap (λ (x : Unit). x.flight) ran.left_is)

-- a run to its end
pub run_by : (u : Unit) (d : List ℕ) (records : List Record) (count : ℕ) (answers : List Slot) (left : Unit) (opens written : ℕ)
    → count ≤ length records → Ran u d records answers left opens count → written ≡ length (take opens left.flight)
    → ◌≡◌ {A = Received} (record { taken = Ok count; answers = answers; written = written; unit = left }) (run_of u d (take count records))
unfolding run_of
run_by u d records count answers left opens written l ran ew =
    let size = sym (length-take-le count records l) in
    let sent = ew ∙ ap length (flight_is u d records count answers left opens ran) in
    λ i. record { taken = Ok (size i); answers = ran.answers_are i; written = sent i; unit = ran.left_is i }

-- where the loop has ended
pub ran_at : (u : Unit) (d : List ℕ) (records : List Record) (answers : List Slot) (left : Unit) (opens i count : ℕ)
    → i ≡ count → Ran u d records answers left opens i → Ran u d records answers left opens count
ran_at u d records answers left opens i count e ran = rw (sym e) ran
