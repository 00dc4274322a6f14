-- The list as it is lent, and its file. The idea: the sizes alone tell whether the three slices are a list of reports that
-- are sized (`sized_list`), how many reports it has and how long its file is; the loops pass over them one by one.
use mathlib.Core.Path.{◌≡◌, refl, sym, ◌∙◌, ap}
use mathlib.Core.Bool.{Bool, true, false}
use mathlib.Core.List.{List, [], ◌∷◌, ◌++◌}
use mathlib.Core.Logic.{by_cases}
use Prim.Native.Nat.{ℕ, suc, ◌+◌, ◌-◌, ◌*◌, ◌≤◌, ◌<◌}
use native.Mathlib.Omega.{arith}
use native.Mathlib.Numerals.{add-one}
use native.Mathlib.Decide.{dec_le, ℕ_discrete}
use lib.ListN.{length, get_or, take, drop, length-append, length-drop}
use lib.Seq.{length-take-le, drop-cons}
use lib.Dec.{eqb, ltb, leb}
use borrow.Author.Tests.{eq-eqb, ne_eqb, lt-ltb, le-ltb, le-leb, lt-leb, ltb-false, eqb-true}
use Rattle.digest.specs.Pick.{pick}
use Rattle.digest.specs.Bytes.{laid_over, laid_within}
use Rattle.digest.proofs.Lay.{length_laid}
use Rattle.dayfile.specs.File.{Report, head_of, report_of, body_of, file_of, is_sized, all_sized, is_within, Sound, none, more}
use Rattle.dayfile.specs.Lent.{sum_of, is_list, list_of, are_sized}
use Rattle.dayfile.specs.Writing.{Written, file, refused, write_of, write_lent, writing_told, left_by}
use Rattle.dayfile.specs.declared.refusal.Refusal.TheVariants.{Argument, Limit, Room}
use Rattle.dayfile.proofs.Laying.{laid_append, laid_none, laid_within_lem}
use Rattle.dayfile.specs.Runs.{counted}
use Rattle.dayfile.proofs.Fronts.{sized_is, length_report}

-- ---- the sizes, one by one

sized_opened : (ss : List ℕ) (left i : ℕ) → i < length ss
    → are_sized (drop i ss) left ≡ pick (is_sized (get_or ss i 0)) (pick (ltb left (get_or ss i 0)) false (are_sized (drop (i + 1) ss) (left - get_or ss i 0))) false
unfolding are_sized
sized_opened ss left i h =
    ap (λ l. are_sized l left) (drop-cons ss i 0 h ∙ ap (λ n. get_or ss i 0 ∷ drop n ss) (sym (add-one i)))

-- the loop of `are_sized`
pub record Sizing (ss : List ℕ) (total left i : ℕ) : Type 0 where
  pub fits : left ≤ total
  pub same : are_sized ss total ≡ are_sized (drop i ss) left

module _ (ss : List ℕ) (total left i : ℕ) (w : Sizing ss total left i) where
  module _ (h : i < length ss) where
    pub ill_sized : is_sized (get_or ss i 0) ≡ false → false ≡ are_sized ss total
    ill_sized e =
        sym (w.same ∙ sized_opened ss left i h
        ∙ ap (λ t. pick t (pick (ltb left (get_or ss i 0)) false (are_sized (drop (i + 1) ss) (left - get_or ss i 0))) false) e)

    module _ (e : is_sized (get_or ss i 0) ≡ true) where
      abbrev rest : Bool → Bool
      rest t = pick t false (are_sized (drop (i + 1) ss) (left - get_or ss i 0))

      tested : are_sized ss total ≡ rest (ltb left (get_or ss i 0))
      tested = w.same ∙ sized_opened ss left i h ∙ ap (λ t. pick t (rest (ltb left (get_or ss i 0))) false) e

      pub too_many : left < get_or ss i 0 → false ≡ are_sized ss total
      too_many k = sym (tested ∙ ap rest (lt-ltb left (get_or ss i 0) k))

      pub sized_on : get_or ss i 0 ≤ left → Sizing ss total (left - get_or ss i 0) (i + 1)
      sized_on k = record { fits = omega (arith, w.fits); same = tested ∙ ap rest (le-ltb left (get_or ss i 0) k) }

  pub sized_end : length ss ≤ i → eqb left 0 ≡ are_sized ss total
  unfolding are_sized
  sized_end h = sym (w.same ∙ ap (λ l. are_sized l left) (lib.ListN.drop_of_length-le ss h))

-- ---- what it says of the list

pub record Next (s left : ℕ) (ss : List ℕ) : Type 0 where
  pub some : 1 ≤ s
  pub small : s ≤ 1400
  pub fits : s ≤ left
  pub rest : are_sized ss (left - s) ≡ true

pub lent_next : (s left : ℕ) (ss : List ℕ) → are_sized (s ∷ ss) left ≡ true → Next s left ss
unfolding are_sized
lent_next s left ss e = told (is_sized s) (ltb left s) refl refl e
  where
    told : (x z : Bool) → is_sized s ≡ x → ltb left s ≡ z → pick x (pick z false (are_sized ss (left - s))) false ≡ true → Next s left ss
    told false z p r w = absurd (cc)
    told true true p r w = absurd (cc)
    told true false p r w =
        let range = sized_is s p in record { some = range.0; small = range.1; fits = ltb-false left s r; rest = w }

picked : (a e x : Bool) → pick a (pick e x false) false ≡ pick e (pick a x false) false
picked true true x = refl
picked true false x = refl
picked false true x = refl
picked false false x = refl

same_test : (a b c d : ℕ) → (a ≡ b → c ≡ d) → (c ≡ d → a ≡ b) → eqb a b ≡ eqb c d
same_test a b c d f g =
    by_cases (ℕ_discrete a b) (λ e. eq-eqb a b e ∙ sym (eq-eqb c d (f e))) (λ n. ne_eqb a b n ∙ sym (ne_eqb c d (λ e. n (g e))))

pub sized_list : (ns ss b : List ℕ) → length ns ≡ length ss
    → are_sized ss (length b) ≡ pick (eqb (sum_of ss) (length b)) (all_sized (list_of ns ss b)) false
unfolding are_sized sum_of list_of all_sized
sized_list [] [] [] h = refl
sized_list [] [] (x ∷ b) h =
    ne_eqb (length (x ∷ b)) 0 (λ e. omega arith) ∙ sym (ap (λ t. pick t true false) (ne_eqb 0 (length (x ∷ b)) (λ e. omega arith)))
sized_list [] (s ∷ ss) b h = absurd (omega arith)
sized_list (n ∷ ns) [] b h = absurd (omega arith)
sized_list (n ∷ ns) (s ∷ ss) b h =
    by_cases (dec_le s (length b))
    (λ k.
    let left : length b - s ≡ length (drop s b) = sym (length-drop s b) in
    let size : length (take s b) ≡ s = length-take-le s b k in
    let sum : eqb (sum_of ss) (length (drop s b)) ≡ eqb (s + sum_of ss) (length b)
    = same_test (sum_of ss) (length (drop s b)) (s + sum_of ss) (length b) (λ e. omega arith) (λ e. omega arith) in
    ap (λ t. pick (is_sized s) (pick t false (are_sized ss (length b - s))) false) (le-ltb (length b) s k)
    ∙ ap (λ m. pick (is_sized s) (are_sized ss m) false) left
    ∙ ap (λ t. pick (is_sized s) t false) (sized_list ns ss (drop s b) (omega arith))
    ∙ picked (is_sized s) (eqb (sum_of ss) (length (drop s b))) (all_sized (list_of ns ss (drop s b)))
    ∙ (λ i. pick (sum i) (pick (is_sized (sym size i)) (all_sized (list_of ns ss (drop s b))) false) false))
    (λ k.
    let more : length b < s = omega arith in
    let sum : eqb (s + sum_of ss) (length b) ≡ false = ne_eqb (s + sum_of ss) (length b) (λ e. omega arith) in
    ap (λ t. pick (is_sized s) (pick t false (are_sized ss (length b - s))) false) (lt-ltb (length b) s more)
    ∙ never (is_sized s)
    ∙ sym (ap (λ t. pick t (pick (is_sized (length (take s b))) (all_sized (list_of ns ss (drop s b))) false) false) sum))
  where
    never : (a : Bool) → pick a false false ≡ false
    never true = refl
    never false = refl

pub many_listed : (ns ss b : List ℕ) → length ns ≡ length ss → length (list_of ns ss b) ≡ length ss
unfolding list_of
many_listed [] [] b h = refl
many_listed [] (s ∷ ss) b h = absurd (omega arith)
many_listed (n ∷ ns) [] b h = absurd (omega arith)
many_listed (n ∷ ns) (s ∷ ss) b h = ap suc (many_listed ns ss (drop s b) (omega arith))

pub long_listed : (ns ss b : List ℕ) → length ns ≡ length ss → are_sized ss (length b) ≡ true
    → length (body_of (list_of ns ss b)) ≡ length b + 5 * length ss
unfolding list_of body_of are_sized
long_listed [] [] b h e = omega (arith, eqb-true (length b) 0 e)
long_listed [] (s ∷ ss) b h e = absurd (omega arith)
long_listed (n ∷ ns) [] b h e = absurd (omega arith)
long_listed (n ∷ ns) (s ∷ ss) b h e =
    let w : Next s (length b) ss = lent_next s (length b) ss e in
    let r : Report = record { number = n; bytes = take s b } in
    let rest = long_listed ns ss (drop s b) (omega arith) (ap (are_sized ss) (length-drop s b) ∙ w.rest) in
    omega (arith, length-append (report_of r) (body_of (list_of ns ss (drop s b))), length_report r, length-take-le s b w.fits, rest, length-drop s b, w.fits)

pub sound_listed : (ns ss b : List ℕ) → length ns ≡ length ss → are_sized ss (length b) ≡ true → ((k : ℕ) → get_or ns k 0 < 65536)
    → Sound (list_of ns ss b)
unfolding list_of
sound_listed [] [] b h e below = none
sound_listed [] (s ∷ ss) b h e below = absurd (omega arith)
sound_listed (n ∷ ns) [] b h e below = absurd (omega arith)
sound_listed (n ∷ ns) (s ∷ ss) b h e below =
    let w : Next s (length b) ss = lent_next s (length b) ss e in
    let size : length (take s b) ≡ s = length-take-le s b w.fits in
    more {r = record { number = n; bytes = take s b }} (omega (arith, w.some)) (omega (arith, w.small)) (below 0)
    (sound_listed ns ss (drop s b) (omega arith) (ap (are_sized ss) (length-drop s b) ∙ w.rest) (λ k. below (suc k)))

none_listed : (ns ss b : List ℕ) → ss ≡ [] → list_of ns ss b ≡ []
unfolding list_of
none_listed [] ss b e = refl
none_listed (n ∷ ns) ss b e = ap (λ l. list_of (n ∷ ns) l b) e

-- the run that the reports are, and where it ends
pub lent_counted : (ns ss b : List ℕ) → length ns ≡ length ss → are_sized ss (length b) ≡ true
    → record { count = length ss; end = length b + 5 * length ss } ≡ counted (list_of ns ss b)
lent_counted ns ss b h e = λ i. record { count = sym (many_listed ns ss b h) i; end = sym (long_listed ns ss b h e) i }

-- ---- one report laid

pub laid_report : (o o₁ : List ℕ) (at n : ℕ) (s : List ℕ) → at + (5 + length s) ≤ length o
    → o₁ ≡ laid_within o at (head_of n (length s)) → laid_within o₁ (at + 5) s ≡ laid_over o at (head_of n (length s) ++ s)
laid_report o o₁ at n s h e =
    let one : o₁ ≡ laid_over o at (head_of n (length s)) = e ∙ laid_within_lem o at (head_of n (length s)) (omega arith) in
    let long : length o₁ ≡ length o = ap length one ∙ length_laid o at (head_of n (length s)) (omega arith) in
    laid_within_lem o₁ (at + 5) s (omega arith)
    ∙ ap (λ l. laid_over l (at + 5) s) one ∙ sym (laid_append o at (head_of n (length s)) s (omega arith))

-- ---- the loop of `put_reports`: the reports from the i-th on are left, and `left` has their bytes

pub record Laid (ns ss b o out left : List ℕ) (at i : ℕ) : Type 0 where
  pub paired : length ns ≡ length ss
  pub here : i ≤ length ss
  pub sized : are_sized (drop i ss) (length left) ≡ true
  pub as_long : length out ≡ length o
  pub room : at + length left + 5 * (length ss - i) ≤ length o
  pub laid : laid_over out at (body_of (list_of (drop i ns) (drop i ss) left)) ≡ laid_over o 0 (body_of (list_of ns ss b))

module _ (ns ss b o out left : List ℕ) (at i : ℕ) (w : Laid ns ss b o out left at i) where
  module _ (h : i < length ss) where
    abbrev n : ℕ
    n = get_or ns i 0

    abbrev z : ℕ
    z = get_or ss i 0

    numbers_next : drop i ns ≡ n ∷ drop (i + 1) ns
    numbers_next = drop-cons ns i 0 (omega (arith, w.paired)) ∙ ap (λ k. n ∷ drop k ns) (sym (add-one i))

    sizes_next : drop i ss ≡ z ∷ drop (i + 1) ss
    sizes_next = drop-cons ss i 0 h ∙ ap (λ k. z ∷ drop k ss) (sym (add-one i))

    pub laid_next : Next z (length left) (drop (i + 1) ss)
    laid_next = lent_next z (length left) (drop (i + 1) ss) (ap (λ l. are_sized l (length left)) (sym sizes_next) ∙ w.sized)

    pub room_next : at + (5 + z) ≤ length out
    room_next = omega (arith, w.room, w.as_long, laid_next.fits)

    abbrev report : Report
    report = record { number = n; bytes = take z left }

    pub part_next : length (take z left) ≡ z
    part_next = length-take-le z left laid_next.fits

    listed_next : list_of (drop i ns) (drop i ss) left ≡ report ∷ list_of (drop (i + 1) ns) (drop (i + 1) ss) (drop z left)
    unfolding list_of
    listed_next = λ j. list_of (numbers_next j) (sizes_next j) left

    pub laid_on : (next : List ℕ) → next ≡ laid_over out at (report_of report) → Laid ns ss b o next (drop z left) (at + (5 + z)) (i + 1)
    unfolding body_of
    laid_on next e =
        let long : length (report_of report) ≡ 5 + z = length_report report ∙ ap (λ k. 5 + k) part_next in
        let rest : List Report = list_of (drop (i + 1) ns) (drop (i + 1) ss) (drop z left) in
        record {
          paired = w.paired;
          here = omega arith;
          sized = ap (are_sized (drop (i + 1) ss)) (length-drop z left) ∙ laid_next.rest;
          as_long = ap length e ∙ length_laid out at (report_of report) (omega (arith, long, room_next)) ∙ w.as_long;
          room = omega (arith, w.room, length-drop z left, laid_next.fits);
          laid =
              (λ j. laid_over (e j) (at + sym long j) (body_of rest))
              ∙ sym (laid_append out at (report_of report) (body_of rest) (omega (arith, long, room_next)))
              ∙ ap (λ l. laid_over out at (body_of l)) (sym listed_next)
              ∙ w.laid;
        }

    -- as the loop tells it
    pub laid_turn : (number size : ℕ) (front back next : List ℕ) (j : ℕ) → number ≡ n → size ≡ z → front ≡ take size left → back ≡ drop size left
        → next ≡ laid_over out at (head_of number (length front) ++ front) → j ≡ i + 1 → Laid ns ss b o next back (at + (5 + size)) j
    unfolding report_of
    laid_turn number size front back next j en ez ef eb e ej =
        let here : front ≡ take z left = ef ∙ ap (λ m. take m left) ez in
        rw (ej, eb, ez) (laid_on next (e ∙ (λ k. laid_over out at (head_of (en k) (length (here k)) ++ here k))))

  pub laid_done : length ss ≤ i → out ≡ laid_over o 0 (body_of (list_of ns ss b))
  unfolding body_of
  laid_done h =
      sym (ap (λ l. laid_over out at (body_of l)) (none_listed (drop i ns) (drop i ss) left (lib.ListN.drop_of_length-le ss h)) ∙ laid_none out at)
      ∙ w.laid

pub laid_begun : (ns ss b o : List ℕ) → length ns ≡ length ss → are_sized ss (length b) ≡ true → length b + 5 * length ss ≤ length o → Laid ns ss b o o b 0 0
laid_begun ns ss b o h e k = record { paired = h; here = omega arith; sized = e; as_long = refl; room = omega arith; laid = refl }

-- ---- what writing gives

-- what is told of it, and what the lent room holds
pub record Outcome (out : List ℕ) (x w : Written) : Type 0 where
  pub told : writing_told w ≡ writing_told x
  pub held : left_by out w ≡ left_by out x

pub outcome : (out : List ℕ) (x w : Written) → x ≡ w → Outcome out x w
outcome out x w e = record { told = ap writing_told (sym e); held = ap (left_by out) (sym e) }

one_test : (w : Written) (x y : Bool) → pick x (pick y w (refused Argument)) (refused Argument) ≡ pick (pick x y false) w (refused Argument)
one_test w true y = refl
one_test w false y = refl

module _ (ns ss b : List ℕ) (room : ℕ) where
  pub not_paired : (length ns ≡ length ss → ⊥) → write_lent ns ss b room ≡ refused Argument
  unfolding write_lent is_list
  not_paired h = rw (ne_eqb (length ns) (length ss) h)

  module _ (h : length ns ≡ length ss) where
    abbrev l : List Report
    l = list_of ns ss b

    lent_opened : write_lent ns ss b room
        ≡ pick (are_sized ss (length b)) (pick (is_within l) (pick (leb (length (file_of l)) room) (file (file_of l)) (refused Room)) (refused Limit)) (refused Argument)
    unfolding write_lent is_list write_of
    lent_opened =
        let within : Written = pick (is_within l) (pick (leb (length (file_of l)) room) (file (file_of l)) (refused Room)) (refused Limit) in
        ap (λ t. pick (pick t (eqb (sum_of ss) (length b)) false) (pick (all_sized l) within (refused Argument)) (refused Argument)) (eq-eqb (length ns) (length ss) h)
        ∙ one_test within (eqb (sum_of ss) (length b)) (all_sized l)
        ∙ ap (λ t. pick t within (refused Argument)) (sym (sized_list ns ss b h))

    pub not_sized : are_sized ss (length b) ≡ false → write_lent ns ss b room ≡ refused Argument
    not_sized e = lent_opened ∙ rw e

    module _ (e : are_sized ss (length b) ≡ true) where
      pub lent_over : is_within l ≡ false → write_lent ns ss b room ≡ refused Limit
      lent_over k = lent_opened ∙ rw (e, k)

      module _ (k : is_within l ≡ true) where
        pub no_room_lent : room < length (file_of l) → write_lent ns ss b room ≡ refused Room
        no_room_lent m = lent_opened ∙ rw (e, k, lt-leb (length (file_of l)) room m)

        pub lent_written : length (file_of l) ≤ room → write_lent ns ss b room ≡ file (file_of l)
        lent_written m = lent_opened ∙ rw (e, k, le-leb (length (file_of l)) room m)
