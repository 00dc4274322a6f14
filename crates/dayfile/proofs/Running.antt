-- The run of whole reports. The idea: its definition counts down, and every count that is large enough gives the same
-- run (`enough`); so a run is nothing where nothing is found, and else what was found and the run behind it
-- (`run_stop`, `run_next`). What holds in these two cases holds of every run (`by_run`).
use mathlib.Core.Path.{◌≡◌, refl, sym, ◌∙◌, ap, subst}
use mathlib.Core.List.{List, [], ◌∷◌, ◌++◌, append_assoc, append-nil}
use Prim.Native.Nat.{ℕ, zero, suc, ◌+◌, ◌≤◌, ◌<◌}
use native.Mathlib.Omega.{arith}
use lib.ListN.{length, get_or, take, drop, length-append, length-drop, length-take}
use lib.Seq.{length-take-le, take-add, drop-drop, drop_at, get_or-drop}
use Rattle.dayfile.specs.File.{Report, report_of, body_of, Sound, none, more}
use Rattle.dayfile.specs.Runs.{pair_at, front_of, found_in, Standing, ahead, run_within, run_of, counted, RunStands}
use Rattle.dayfile.specs.declared.report.Found.{Found}
use Rattle.std.specs.Prelude.{Option, Some, None}
use Rattle.dayfile.specs.declared.run.Run.{Run}
use Rattle.dayfile.proofs.Fronts.{FrontIs, front_is, front_found, short_nothing, front_stands, length_report, found_length, told_of, report_front, report_found}

-- ---- the definition

ahead_same : (s : List ℕ) (front : Option Found) (g h : List ℕ → List Report)
    → ((f : Found) → front ≡ Some f → g (drop (5 + f.size) s) ≡ h (drop (5 + f.size) s)) → ahead s front g ≡ ahead s front h
ahead_same s None g h e = refl
ahead_same s (Some f) g h e = ap (λ l. found_in s f ∷ l) (e f refl)

less_left : (s : List ℕ) (f : Found) (k : ℕ) → front_of s ≡ Some f → length s ≤ suc k → length (drop (5 + f.size) s) ≤ k
less_left s f k e h = omega (arith, length-drop (5 + f.size) s, (front_is s f e).inside)

enough : (k j : ℕ) (s : List ℕ) → length s ≤ k → length s ≤ j → run_within k s ≡ run_within j s
unfolding run_within
enough zero zero s h m = refl
enough zero (suc j) s h m = sym (ap (λ t. ahead s t (run_within j)) (short_nothing s (omega arith)))
enough (suc k) zero s h m = ap (λ t. ahead s t (run_within k)) (short_nothing s (omega arith))
enough (suc k) (suc j) s h m =
    ahead_same s (front_of s) (run_within k) (run_within j)
    (λ f e. enough k j (drop (5 + f.size) s) (less_left s f k e h) (less_left s f j e m))

pub run_stop : (s : List ℕ) → front_of s ≡ None → run_of s ≡ []
unfolding run_of run_within
run_stop [] e = refl
run_stop (x ∷ s) e = ap (λ t. ahead (x ∷ s) t (run_within (length s))) e

pub run_next : (s : List ℕ) (f : Found) → front_of s ≡ Some f → run_of s ≡ found_in s f ∷ run_of (drop (5 + f.size) s)
unfolding run_of run_within
run_next [] f e = let w : FrontIs [] f = front_is [] f e in absurd (omega (arith, w.inside))
run_next (x ∷ s) f e =
    let rest : List ℕ = drop (5 + f.size) (x ∷ s) in
    let few : length rest ≤ length s = less_left (x ∷ s) f (length s) e (omega arith) in
    ap (λ t. ahead (x ∷ s) t (run_within (length s))) e
    ∙ ap (λ l. found_in (x ∷ s) f ∷ l) (enough (length s) (length rest) rest few (omega arith))

pub run_none : run_of [] ≡ []
unfolding run_of run_within
run_none = refl

pub by_run : (P : List ℕ → List Report → Type 0) → ((s : List ℕ) → front_of s ≡ None → P s [])
    → ((s : List ℕ) (f : Found) → front_of s ≡ Some f → P (drop (5 + f.size) s) (run_of (drop (5 + f.size) s)) → P s (found_in s f ∷ run_of (drop (5 + f.size) s)))
    → (s : List ℕ) → P s (run_of s)
by_run P stop next s = upto (length s) s (omega arith)
  where
    told : (k : ℕ) (s : List ℕ) → length s ≤ k → ((t : List ℕ) → suc (length t) ≤ k → P t (run_of t)) → (front : Option Found) → front_of s ≡ front → P s (run_of s)
    told k s h rest None e = subst (P s) (sym (run_stop s e)) (stop s e)
    told k s h rest (Some f) e =
        subst (P s) (sym (run_next s f e)) (next s f e (rest (drop (5 + f.size) s) (omega (arith, length-drop (5 + f.size) s, (front_is s f e).inside))))

    upto : (k : ℕ) (s : List ℕ) → length s ≤ k → P s (run_of s)
    upto zero s h = told zero s h (λ t m. absurd (omega arith)) (front_of s) refl
    upto (suc k) s h = told (suc k) s h (λ t m. upto k t (omega arith)) (front_of s) refl

-- ---- what a run is

-- each report of a run is sized, and has a number of two bytes
pub run_sound : (s : List ℕ) → ((k : ℕ) → get_or s k 0 < 256) → Sound (run_of s)
run_sound =
    by_run (λ s l. ((k : ℕ) → get_or s k 0 < 256) → Sound l) (λ s e below. none)
    (λ s f e rest below.
    let w : FrontIs s f = front_is s f e in
    let size : length (found_in s f).bytes ≡ f.size = found_length s f w.inside in
    more (omega (arith, w.some)) (omega (arith, w.small)) (omega (arith, w.numbered, below 1, below 2))
    (rest (λ k. rw (get_or-drop (5 + f.size) s k 0) (below (5 + f.size + k)))))

-- a run stands at the front, byte for byte
pub run_front : (s : List ℕ) → ((k : ℕ) → get_or s k 0 < 256) → body_of (run_of s) ++ drop (length (body_of (run_of s))) s ≡ s
unfolding body_of
run_front =
    by_run (λ s l. ((k : ℕ) → get_or s k 0 < 256) → body_of l ++ drop (length (body_of l)) s ≡ s) (λ s e below. refl)
    (λ s f e rest below. stepped s f (front_is s f e).inside (front_stands s below f e) (run_of (drop (5 + f.size) s)) (rest (λ k. rw (get_or-drop (5 + f.size) s k 0) (below (5 + f.size + k)))))
  where
    stepped : (s : List ℕ) (f : Found) → 5 + f.size ≤ length s → report_of (found_in s f) ≡ take (5 + f.size) s → (l : List Report)
        → body_of l ++ drop (length (body_of l)) (drop (5 + f.size) s) ≡ drop (5 + f.size) s
        → (report_of (found_in s f) ++ body_of l) ++ drop (length (report_of (found_in s f) ++ body_of l)) s ≡ s
    stepped s f h e l rest =
        let z : ℕ = f.size in
        let size : length (report_of (found_in s f)) ≡ 5 + z = ap length e ∙ length-take-le (5 + z) s h in
        append_assoc (report_of (found_in s f)) (body_of l) (drop (length (report_of (found_in s f) ++ body_of l)) s)
        ∙ ap (λ k. report_of (found_in s f) ++ (body_of l ++ drop k s)) (length-append (report_of (found_in s f)) (body_of l) ∙ ap (λ k. k + length (body_of l)) size)
        ∙ ap (λ t. report_of (found_in s f) ++ (body_of l ++ t)) (sym (drop-drop (length (body_of l)) (5 + z) s))
        ∙ (λ i. e i ++ rest i)
        ∙ lib.ListN.take-append-drop (5 + z) s

-- ---- what is written is found

pub run_append : (l : List Report) (t : List ℕ) → Sound l → run_of (body_of l ++ t) ≡ l ++ run_of t
unfolding body_of
run_append [] t s = refl
run_append (r ∷ l) t (more h k m s) =
    let rest : List ℕ = body_of l ++ t in
    ap run_of (append_assoc (report_of r) (body_of l) t)
    ∙ run_next (report_of r ++ rest) (told_of r) (front_found (report_of r ++ rest) (told_of r) (report_front r rest h k m))
    ∙ (λ i. report_found r rest i ∷ run_of (drop_at (report_of r) rest (5 + length r.bytes) (length_report r) i))
    ∙ ap (λ x. r ∷ x) (run_append l t s)

pub run_body : (l : List Report) → Sound l → run_of (body_of l) ≡ l
run_body l s = ap run_of (sym (append-nil (body_of l))) ∙ run_append l [] s ∙ ap (λ x. l ++ x) run_none ∙ append-nil l

-- ---- a part that is nothing but reports

pub record Begins (s : List ℕ) (size : ℕ) : Type 0 where
  pub report : Report
  pub inside : 5 + size ≤ length s
  pub next : run_of s ≡ report ∷ run_of (drop (5 + size) s)
  pub stands : body_of (run_of (drop (5 + size) s)) ≡ drop (5 + size) s

pub begins : (s : List ℕ) → body_of (run_of s) ≡ s → 0 < length s → Begins s (pair_at s 3)
unfolding body_of
begins s e h = told (front_of s) refl
  where
    told : (front : Option Found) → front_of s ≡ front → Begins s (pair_at s 3)
    told None g = let z : length s ≡ 0 = ap length (sym e ∙ ap body_of (run_stop s g)) in absurd (omega arith)
    told (Some f) g =
        let w : FrontIs s f = front_is s f g in
        let step : run_of s ≡ found_in s f ∷ run_of (drop (5 + f.size) s) = run_next s f g in
        let long : length (report_of (found_in s f)) ≡ 5 + f.size = length_report (found_in s f) ∙ ap (λ k. 5 + k) (found_length s f w.inside) in
        let begun : Begins s f.size = record {
          report = found_in s f;
          inside = w.inside;
          next = step;
          stands = sym (drop_at (report_of (found_in s f)) (body_of (run_of (drop (5 + f.size) s))) (5 + f.size) long)
              ∙ ap (drop (5 + f.size)) (sym (ap body_of step) ∙ e);
        } in
        subst (Begins s) w.sized begun

-- ---- the loop: the reports of the run so far have been passed, and the next begins where it ends

pub record Ran (b : List ℕ) (run : Run) : Type 0 where
  pub inside : run.end ≤ length b
  pub few : run.count ≤ run.end
  pub many : length (run_of b) ≡ run.count + length (run_of (drop run.end b))
  pub stands : body_of (run_of b) ≡ take run.end b ++ body_of (run_of (drop run.end b))

pub begun : (b : List ℕ) → Ran b (record { count = 0; end = 0 })
begun b = record { inside = omega arith; few = omega arith; many = omega arith; stands = refl }

module _ (b : List ℕ) (run : Run) (w : Ran b run) where
  abbrev at : ℕ
  at = run.end

  pub go_on : (f : Found) → front_of (drop at b) ≡ Some f → Standing (drop at b) (Some f)
      → Ran b (record { count = run.count + 1; end = at + (5 + f.size) })
  unfolding body_of
  go_on f e stand =
      let x : FrontIs (drop at b) f = front_is (drop at b) f e in
      let s : List ℕ = drop at b in
      let z : ℕ = f.size in
      let next : run_of s ≡ found_in s f ∷ run_of (drop (at + (5 + z)) b)
      = run_next s f e ∙ ap (λ t. found_in s f ∷ run_of t) (drop-drop (5 + z) at b) in
      record {
        inside = omega (arith, x.inside, length-drop at b, w.inside);
        few = omega (arith, w.few);
        many = omega (arith, w.many, ap length next);
        stands =
            w.stands ∙ ap (λ l. take at b ++ body_of l) next
            ∙ sym (append_assoc (take at b) (report_of (found_in s f)) (body_of (run_of (drop (at + (5 + z)) b))))
            ∙ ap (λ t. (take at b ++ t) ++ body_of (run_of (drop (at + (5 + z)) b))) (stand f refl)
            ∙ ap (λ t. t ++ body_of (run_of (drop (at + (5 + z)) b))) (sym (take-add at (5 + z) b));
      }

  pub ended : front_of (drop at b) ≡ None → (run ≡ counted (run_of b)) × (body_of (run_of b) ≡ take at b)
  unfolding body_of
  ended e =
      let last : run_of (drop at b) ≡ [] = run_stop (drop at b) e in
      let all : body_of (run_of b) ≡ take at b = w.stands ∙ ap (λ l. take at b ++ body_of l) last ∙ append-nil (take at b) in
      let many : run.count ≡ length (run_of b) = omega (arith, w.many, ap length last) in
      let size : at ≡ length (body_of (run_of b)) = sym (ap length all ∙ length-take-le at b w.inside) in
      ((λ i. record { count = many i; end = size i }), all)

pub ran_stands : (b : List ℕ) (r : Run) → r ≡ counted (run_of b) → body_of (run_of b) ≡ take r.end b → RunStands b r
ran_stands b r e stand =
    let size : r.end ≡ length (take r.end b) = ap (λ x. x.end) e ∙ ap length stand in
    record { many = ap (λ x. x.count) e; inside = omega (arith, size, length-take r.end b); stands = stand }
