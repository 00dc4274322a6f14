-- The trailer, compared and written. The idea: both loops pass over the reports that stand before the trailer, and what
-- is left to compare or to write belongs to the reports that are left; the distance of the first of them is the length of
-- what is left (`distances_next`, for both loops).
use mathlib.Core.Path.{◌≡◌, refl, sym, ◌∙◌, ap, subst}
use mathlib.Core.Bool.{Bool, true, false, ◌&&◌}
use mathlib.Core.List.{List, [], ◌∷◌, ◌++◌, append_assoc}
use mathlib.Core.Logic.{◌⊎◌, inl, inr, by_cases}
use Prim.Native.Nat.{ℕ, ◌+◌, ◌-◌, ◌*◌, ◌/◌, ◌%◌, ◌≤◌, ◌<◌}
use native.Mathlib.Omega.{arith}
use native.Mathlib.Decide.{ℕ_discrete, dec_le}
use native.Mathlib.Nat.{zero-add}
use lib.ListN.{length, get_or, take, drop, length-append, length-drop, take-append-drop, drop_of_length-le}
use lib.Seq.{length-take-le, take_all, drop-drop, get_or-drop, get_or-take}
use lib.Dec.{eqb, leb}
use borrow.Author.Tests.{eq-eqb, ne_eqb, le-leb, lt-leb, leb-true}
use Rattle.digest.specs.Pick.{pick}
use Rattle.digest.specs.Bytes.{bytes2, laid_over, laid_within}
use Rattle.digest.specs.Mac.{same_bytes}
use Rattle.digest.proofs.Same.{differ_same}
use Rattle.digest.proofs.Lay.{length_laid}
use Rattle.dayfile.specs.File.{Report, report_of, body_of, distances_of, trailer_of, file_of, is_within, Sound}
use Rattle.dayfile.specs.Runs.{pair_at, run_of, counted, size_within, RunStands}
use Rattle.std.specs.Prelude.{Option, Some, None}
use Rattle.std.specs.Bool.{then_some}
use Rattle.dayfile.specs.declared.run.Run.{Run}
use Rattle.dayfile.proofs.Laying.{pair_back, bytes2_of, laid_append, laid_at_front, laid_within_lem}
use Rattle.dayfile.proofs.Fronts.{short_nothing, length_report}
use Rattle.dayfile.proofs.Running.{Begins, begins, run_stop, run_body, run_sound}

-- ---- sizes

length_distances : (l : List Report) → length (distances_of l) ≡ 2 * length l
unfolding distances_of
length_distances [] = refl
length_distances (r ∷ l) = omega (arith, length_distances l)

pub length_trailer : (l : List Report) → length (trailer_of l) ≡ 3 + 2 * length l
unfolding trailer_of
length_trailer l = omega (arith, length-append (distances_of l) (bytes2 (length l)), length_distances l)

pub length_file : (l : List Report) → length (file_of l) ≡ length (body_of l) + (3 + 2 * length l)
unfolding file_of
length_file l = length-append (body_of l) (trailer_of l) ∙ ap (λ n. length (body_of l) + n) (length_trailer l)

-- the limits of a list, as one test
pub within_yes : (l : List Report) → length l ≤ 4096 → length (file_of l) ≤ 65536 → is_within l ≡ true
unfolding is_within
within_yes l h k = rw (le-leb (length l) 4096 h, le-leb (length (file_of l)) 65536 k)

pub within_is : (l : List Report) → is_within l ≡ true → (length l ≤ 4096) × (length (file_of l) ≤ 65536)
unfolding is_within
within_is l e = told (leb (length l) 4096) (leb (length (file_of l)) 65536) refl refl e
  where
    told : (x y : Bool) → leb (length l) 4096 ≡ x → leb (length (file_of l)) 65536 ≡ y → pick x y false ≡ true → (length l ≤ 4096) × (length (file_of l) ≤ 65536)
    told true true p q w = (leb-true (length l) 4096 p, leb-true (length (file_of l)) 65536 q)
    told true false p q w = absurd (cc)
    told false y p q w = absurd (cc)

pub within_not : (l : List Report) → is_within l ≡ false → (4096 < length l) ⊎ (65536 < length (file_of l))
within_not l e =
    by_cases (dec_le (length l) 4096)
    (λ h.
    by_cases (dec_le (length (file_of l)) 65536)
    (λ k. let w : true ≡ false = sym (within_yes l h k) ∙ e in absurd (cc)) (λ k. inr (omega arith)))
    (λ h. inl (omega arith))

pub over_many : (l : List Report) → 4096 < length l → is_within l ≡ false
unfolding is_within
over_many l h = rw (lt-leb (length l) 4096 h)

pub over_long : (l : List Report) → length l ≤ 4096 → 65536 < length (file_of l) → is_within l ≡ false
unfolding is_within
over_long l h k = rw (le-leb (length l) 4096 h, lt-leb (length (file_of l)) 65536 k)

-- the same of a run, which the code tests
module _ (run : Run) (l : List Report) (c : run ≡ counted l) where
  pub run_size : run.end + (3 + 2 * run.count) ≡ length (file_of l)
  run_size = (λ i. (c i).end + (3 + 2 * (c i).count)) ∙ sym (length_file l)

  many_in : run.count ≡ length l
  many_in = ap (λ r. r.count) c

  pub many_without : 4096 < run.count → None ≡ size_within l
  many_without h = ap (λ t. pick t (Some (length (file_of l))) None) (sym (over_many l (omega (arith, many_in))))

  pub long_without : run.count ≤ 4096 → 65536 < run.end + (3 + 2 * run.count) → None ≡ size_within l
  long_without few h =
      ap (λ t. pick t (Some (length (file_of l))) None) (sym (over_long l (omega (arith, many_in)) (omega (arith, run_size))))

  pub size_there : run.count ≤ 4096 → (n : ℕ) → n ≡ run.end + (3 + 2 * run.count) → then_some (leb n 65536) n ≡ size_within l
  size_there few n e =
      by_cases (dec_le n 65536)
      (λ h.
      ap (λ t. then_some t n) (le-leb n 65536 h) ∙ ap Some (e ∙ run_size)
      ∙ ap (λ t. pick t (Some (length (file_of l))) None) (sym (within_yes l (omega (arith, many_in)) (omega (arith, run_size)))))
      (λ h. ap (λ t. then_some t n) (lt-leb n 65536 (omega arith)) ∙ long_without few (omega arith))

-- what the size that is told says of the run and of its list
pub record Sized (run : Run) (l : List Report) (size : ℕ) : Type 0 where
  pub within : is_within l ≡ true
  pub exact : size ≡ length (file_of l)
  pub sum : run.end + (3 + 2 * run.count) ≡ size
  pub small : run.end < 65536

pub sized : (run : Run) (l : List Report) → run ≡ counted l → (size : ℕ) → size_within l ≡ Some size → Sized run l size
sized run l c size e = told (is_within l) refl e
  where
    told : (t : Bool) → is_within l ≡ t → pick t (Some (length (file_of l))) None ≡ Some size → Sized run l size
    told true p q =
        let exact : size ≡ length (file_of l) = cc in
        record {
          within = p;
          exact = exact;
          sum = run_size run l c ∙ sym exact;
          small = omega (arith, run_size run l c, (within_is l p).1);
        }
    told false p q = absurd (cc)

pub without_size : (l : List Report) → size_within l ≡ None → is_within l ≡ false
without_size l e = told (is_within l) refl e
  where
    told : (t : Bool) → is_within l ≡ t → ◌≡◌ {A = Option ℕ} (pick t (Some (length (file_of l))) None) None → is_within l ≡ false
    told true p q = absurd (cc)
    told false p q = p

-- a report has more than one byte
pub few_in : (l : List Report) → length l ≤ length (body_of l)
unfolding body_of
few_in [] = omega arith
few_in (r ∷ l) = omega (arith, few_in l, length-append (report_of r) (body_of l), length_report r)

-- ---- bytes compared

pub same_front : (a s t : List ℕ) → same_bytes (a ++ s) (a ++ t) ≡ same_bytes s t
unfolding same_bytes
same_front [] s t = refl
same_front (x ∷ a) s t = ap (λ b. b && same_bytes (a ++ s) (a ++ t)) (eq-eqb x x refl) ∙ same_front a s t

-- the number that two bytes spell is compared, and then what stands behind them
pub number_first : (n t : List ℕ) (k : ℕ) → ((i : ℕ) → get_or n i 0 < 256) → k < 65536 → 2 ≤ length n
    → same_bytes n (bytes2 k ++ t) ≡ pick (eqb (pair_at n 0) k) (same_bytes (drop 2 n) t) false
number_first [] t k below h m = absurd (omega arith)
number_first (x ∷ []) t k below h m = absurd (omega arith)
number_first (x ∷ y ∷ s) t k below h m =
    by_cases (ℕ_discrete (x * 256 + y) k)
    (λ e.
    ap (λ l. same_bytes (x ∷ y ∷ s) (l ++ t)) (ap bytes2 (sym e) ∙ bytes2_of x y (below 0) (below 1))
    ∙ same_front (x ∷ y ∷ []) s t
    ∙ sym (ap (λ b. pick b (same_bytes s t) false) (eq-eqb (x * 256 + y) k e)))
    (λ ne.
    differ_same (x ∷ y ∷ s) (bytes2 k ++ t)
    (λ e.
    let p : x ≡ k / 256 % 256 = ap (λ l. get_or l 0 0) e in
    let q : y ≡ k % 256 = ap (λ l. get_or l 1 0) e in
    ne ((λ i. p i * 256 + q i) ∙ pair_back k h))
    ∙ sym (ap (λ b. pick b (same_bytes s t) false) (ne_eqb (x * 256 + y) k ne)))

pub pair_first : (n d : List ℕ) → d ≡ take 2 n → get_or d 0 0 * 256 + get_or d 1 0 ≡ pair_at n 0
pair_first n d e =
    (λ i. get_or (e i) 0 0 * 256 + get_or (e i) 1 0)
    ∙ (λ i. get_or-take 2 n 0 0 (omega arith) i * 256 + get_or-take 2 n 1 0 (omega arith) i)

-- too few bytes for a number
pub number_missing : (n t : List ℕ) (k : ℕ) → length n < 2 → same_bytes n (bytes2 k ++ t) ≡ false
number_missing n t k h = differ_same n (bytes2 k ++ t) (λ e. absurd (omega (arith, ap length e)))

-- ---- the reports that are left

-- the first of the reports that are left ends where its head tells; its distance is the length of all that is left
pub record Step (s : List ℕ) (next : ℕ) : Type 0 where
  pub some : 5 ≤ next
  pub inside : next ≤ length s
  pub many : length (run_of s) ≡ 1 + length (run_of (drop next s))
  pub stands : body_of (run_of (drop next s)) ≡ drop next s
  pub distances : distances_of (run_of s) ≡ bytes2 (length s) ++ distances_of (run_of (drop next s))

distances_next : (l m : List Report) (r : Report) → l ≡ r ∷ m → distances_of l ≡ bytes2 (length (body_of l)) ++ distances_of m
unfolding distances_of
distances_next l m r e = ap distances_of e ∙ ap (λ x. bytes2 (length (body_of x)) ++ distances_of m) (sym e)

pub step : (s : List ℕ) (next : ℕ) → body_of (run_of s) ≡ s → 5 ≤ length s → next ≡ 5 + pair_at s 3 → Step s next
step s next e h told =
    let z : ℕ = pair_at s 3 in
    let w : Begins s z = begins s e (omega arith) in
    let first : Step s (5 + z) = record {
      some = omega arith;
      inside = w.inside;
      many = omega (arith, ap length w.next);
      stands = w.stands;
      distances =
          distances_next (run_of s) (run_of (drop (5 + z) s)) w.report w.next
          ∙ ap (λ n. bytes2 n ++ distances_of (run_of (drop (5 + z) s))) (ap length e);
    } in
    subst (Step s) (sym told) first

-- where none is left, no distance is
pub none_left : (s : List ℕ) → length s < 5 → distances_of (run_of s) ≡ []
unfolding distances_of
none_left s h = ap distances_of (run_stop s (short_nothing s h))

-- ---- the numbers that are compared: `numbers` and `left` are left of all the numbers and of the body

pub record Matching (all body : List ℕ) (count : ℕ) (numbers left : List ℕ) : Type 0 where
  pub below : (k : ℕ) → get_or numbers k 0 < 256
  pub small : length left < 65536
  pub stands : body_of (run_of left) ≡ left
  pub same : same_bytes all (distances_of (run_of body) ++ bytes2 count) ≡ same_bytes numbers (distances_of (run_of left) ++ bytes2 count)

module _ (all body : List ℕ) (count : ℕ) (numbers left : List ℕ) (w : Matching all body count numbers left) where
  module _ (next : ℕ) (x : Step left next) where
    opened : same_bytes all (distances_of (run_of body) ++ bytes2 count)
        ≡ same_bytes numbers (bytes2 (length left) ++ (distances_of (run_of (drop next left)) ++ bytes2 count))
    opened =
        w.same ∙ ap (same_bytes numbers)
        (ap (λ l. l ++ bytes2 count) x.distances ∙ append_assoc (bytes2 (length left)) (distances_of (run_of (drop next left))) (bytes2 count))

    pub match_missing : length numbers < 2 → false ≡ same_bytes all (distances_of (run_of body) ++ bytes2 count)
    match_missing h = sym (opened ∙ number_missing numbers (distances_of (run_of (drop next left)) ++ bytes2 count) (length left) h)

    module _ (h : 2 ≤ length numbers) where
      pub match_differs : (pair_at numbers 0 ≡ length left → ⊥) → false ≡ same_bytes all (distances_of (run_of body) ++ bytes2 count)
      match_differs ne =
          let rest : List ℕ = distances_of (run_of (drop next left)) ++ bytes2 count in
          sym (opened ∙ number_first numbers rest (length left) w.below w.small h
          ∙ ap (λ b. pick b (same_bytes (drop 2 numbers) rest) false) (ne_eqb (pair_at numbers 0) (length left) ne))

      pub match_next : pair_at numbers 0 ≡ length left → Matching all body count (drop 2 numbers) (drop next left)
      match_next q =
          let rest : List ℕ = distances_of (run_of (drop next left)) ++ bytes2 count in
          record {
            below = λ k. rw (get_or-drop 2 numbers k 0) (w.below (2 + k));
            small = omega (arith, length-drop next left, w.small);
            stands = x.stands;
            same =
                opened ∙ number_first numbers rest (length left) w.below w.small h
                ∙ ap (λ b. pick b (same_bytes (drop 2 numbers) rest) false) (eq-eqb (pair_at numbers 0) (length left) q);
          }

  module _ (e : length left < 5) where
    last : same_bytes all (distances_of (run_of body) ++ bytes2 count) ≡ same_bytes numbers (bytes2 count ++ [])
    last = w.same ∙ ap (λ l. same_bytes numbers (l ++ bytes2 count)) (none_left left e)

    pub match_not_one : (length numbers ≡ 2 → ⊥) → false ≡ same_bytes all (distances_of (run_of body) ++ bytes2 count)
    match_not_one ne = sym (last ∙ differ_same numbers (bytes2 count) (λ q. ne (ap length q)))

    pub match_done : count < 65536 → length numbers ≡ 2
        → eqb (pair_at numbers 0) count ≡ same_bytes all (distances_of (run_of body) ++ bytes2 count)
    unfolding same_bytes
    match_done few h =
        sym (last ∙ number_first numbers [] count w.below few (omega arith)
        ∙ ap (λ l. pick (eqb (pair_at numbers 0) count) (same_bytes l []) false) (gone numbers (omega arith))
        ∙ either (eqb (pair_at numbers 0) count))
      where
        gone : (n : List ℕ) → length n ≤ 2 → drop 2 n ≡ []
        gone n k = drop_of_length-le n k

        either : (b : Bool) → pick b (same_bytes [] []) false ≡ b
        either true = refl
        either false = refl

-- ---- a file compared with that of its run

-- bytes that begin with D2
pub opened_first : (s : List ℕ) → 1 ≤ length s → get_or s 0 0 ≡ 210 → s ≡ 210 ∷ drop 1 s
opened_first [] h e = absurd (omega arith)
opened_first (x ∷ s) h e = ap (λ y. y ∷ s) e

module _ (b : List ℕ) (run : Run) (w : RunStands b run) where
  abbrev end : ℕ
  end = run.end

  pub run_length : length (body_of (run_of b)) ≡ end
  run_length = ap length w.stands ∙ length-take-le end b w.inside

  pub file_length : length (file_of (run_of b)) ≡ end + (3 + 2 * run.count)
  file_length = length_file (run_of b) ∙ (λ i. run_length i + (3 + 2 * sym w.many i))

  -- another length behind the run than that of a trailer
  pub other_length : (length b - end ≡ 3 + 2 * run.count → ⊥) → false ≡ same_bytes b (file_of (run_of b))
  other_length h = sym (differ_same b (file_of (run_of b)) (λ e. h (omega (arith, ap length e, file_length, w.inside))))

  pub again : ((k : ℕ) → get_or b k 0 < 256) → run_of (take end b) ≡ run_of b
  again below = ap run_of (sym w.stands) ∙ run_body (run_of b) (run_sound b below)

  behind : same_bytes b (file_of (run_of b)) ≡ same_bytes (drop end b) (trailer_of (run_of b))
  unfolding file_of
  behind =
      ap (λ s. same_bytes s (file_of (run_of b))) (sym (take-append-drop end b) ∙ ap (λ s. s ++ drop end b) (sym w.stands))
      ∙ same_front (body_of (run_of b)) (drop end b) (trailer_of (run_of b))

  -- another byte than D2, or none, stands behind the run
  pub other_opening : ((rest : List ℕ) → drop end b ≡ 210 ∷ rest → ⊥) → false ≡ same_bytes b (file_of (run_of b))
  unfolding trailer_of
  other_opening ne = sym (behind ∙ differ_same (drop end b) (trailer_of (run_of b)) (λ e. ne (distances_of (run_of b) ++ bytes2 (length (run_of b))) e))

  pub opening_there : ((k : ℕ) → get_or b k 0 < 256) → (rest : List ℕ) → drop end b ≡ 210 ∷ rest
      → same_bytes rest (distances_of (run_of (take end b)) ++ bytes2 run.count) ≡ same_bytes b (file_of (run_of b))
  unfolding trailer_of
  opening_there below rest e =
      sym (behind ∙ ap (λ s. same_bytes s (trailer_of (run_of b))) e
      ∙ same_front (210 ∷ []) rest (distances_of (run_of b) ++ bytes2 (length (run_of b)))
      ∙ (λ i. same_bytes rest (distances_of (sym (again below) i) ++ bytes2 (sym w.many i))))

-- ---- the trailer that is written: o as it was lent, `out` as it is now

pub record Putting (o body : List ℕ) (count : ℕ) (out left : List ℕ) (place : ℕ) : Type 0 where
  pub small : length left < 65536
  pub as_long : length out ≡ length o
  pub stands : body_of (run_of left) ≡ left
  pub room : place + (2 * length (run_of left) + 2) ≤ length o
  pub laid : laid_over out place (distances_of (run_of left) ++ bytes2 count) ≡ laid_over o 0 (trailer_of (run_of body))

pub put_begun : (o body : List ℕ) (count : ℕ) (out : List ℕ) → body_of (run_of body) ≡ body → count ≡ length (run_of body) → length body < 65536
    → 3 + 2 * count ≤ length o → out ≡ laid_within o 0 (210 ∷ []) → Putting o body count out body 1
unfolding trailer_of
put_begun o body count out stands many small room e =
    let f : out ≡ laid_over o 0 (210 ∷ []) = e ∙ laid_within_lem o 0 (210 ∷ []) (omega arith) in
    record {
      small = small;
      as_long = ap length f ∙ length_laid o 0 (210 ∷ []) (omega arith);
      stands = stands;
      room = omega arith;
      laid = (λ i. laid_over (f i) 1 (distances_of (run_of body) ++ bytes2 (many i)))
          ∙ sym (laid_append o 0 (210 ∷ []) (distances_of (run_of body) ++ bytes2 (length (run_of body))) (omega arith));
    }

module _ (o body : List ℕ) (count : ℕ) (out left : List ℕ) (place : ℕ) (w : Putting o body count out left place) where
  pub put_next : (next : ℕ) → Step left next → (laid : List ℕ) → laid ≡ laid_within out place (bytes2 (length left))
      → Putting o body count laid (drop next left) (place + 2)
  put_next next x laid g =
      let rest : List ℕ = distances_of (run_of (drop next left)) in
      let fits : place + 2 ≤ length out = omega (arith, w.room, w.as_long) in
      let h : laid ≡ laid_over out place (bytes2 (length left)) = g ∙ laid_within_lem out place (bytes2 (length left)) fits in
      record {
        small = omega (arith, length-drop next left, w.small);
        as_long = ap length h ∙ length_laid out place (bytes2 (length left)) fits ∙ w.as_long;
        stands = x.stands;
        room = omega (arith, w.room, x.many);
        laid = ap (λ l. laid_over l (place + 2) (rest ++ bytes2 count)) h
            ∙ sym (laid_append out place (bytes2 (length left)) (rest ++ bytes2 count) fits)
            ∙ ap (laid_over out place) (sym (append_assoc (bytes2 (length left)) rest (bytes2 count)) ∙ ap (λ l. l ++ bytes2 count) (sym x.distances))
            ∙ w.laid;
      }

  pub put_done : length left < 5 → laid_within out place (bytes2 count) ≡ laid_over o 0 (trailer_of (run_of body))
  put_done e =
      laid_within_lem out place (bytes2 count) (omega (arith, w.room, w.as_long))
      ∙ ap (λ l. laid_over out place (l ++ bytes2 count)) (sym (none_left left e)) ∙ w.laid

-- ---- the trailer behind a body that was laid at the front: the whole file

pub count_in_lem : (b : List ℕ) (run : Run) → RunStands b run → run.count ≤ run.end
count_in_lem b run w = omega (arith, w.many, few_in (run_of b), run_length b run w)

-- what is laid at the front of the part behind a place is laid at that place
pub laid_in_part : (d : List ℕ) (at : ℕ) (s : List ℕ) → take at d ++ laid_over (drop at d) 0 s ≡ laid_over d at s
unfolding laid_over
laid_in_part d at s =
    let sum : at + (0 + length s) ≡ at + length s = omega arith in
    let same : drop (0 + length s) (drop at d) ≡ drop (at + length s) d = drop-drop (0 + length s) at d ∙ ap (λ n. drop n d) sum in
    (λ i. take at d ++ (s ++ same i)) ∙ sym (append_assoc (take at d) s (drop (at + length s) d))

-- the run of a file that is put at the front of a room is its body there
pub laid_run : (o b : List ℕ) (run : Run) → RunStands b run → (next : List ℕ) → run.end ≤ length o → next ≡ laid_within o 0 (take run.end b)
    → next ≡ laid_over o 0 (body_of (run_of b))
laid_run o b run w next room e =
    e ∙ laid_within_lem o 0 (take run.end b) (omega (arith, length-take-le run.end b w.inside)) ∙ ap (laid_over o 0) (sym w.stands)

module _ (o out : List ℕ) (l : List Report) (run : Run) (s : Sound l) (e : out ≡ laid_over o 0 (body_of l)) (c : run ≡ counted l) where
  many : run.count ≡ length l
  many = ap (λ r. r.count) c

  long : run.end ≡ length (body_of l)
  long = ap (λ r. r.end) c

  body_there : take run.end out ≡ body_of l
  body_there = ap (take run.end) e ∙ laid_at_front o (body_of l) run.end long

  body_run : run_of (take run.end out) ≡ l
  body_run = ap run_of body_there ∙ run_body l s

  pub laid_stands : RunStands (take run.end out) run
  laid_stands =
      record {
        many = many ∙ ap length (sym body_run);
        inside = omega (arith, long, ap length body_there);
        stands = ap body_of body_run ∙ sym body_there ∙ sym (take_all run.end (take run.end out) (omega (arith, long, ap length body_there)));
      }

  pub laid_file : run.end ≤ length o → laid_over out run.end (trailer_of (run_of (take run.end out))) ≡ laid_over o 0 (file_of l)
  unfolding file_of
  laid_file room =
      (λ i. laid_over (e i) ((long ∙ sym (zero-add (length (body_of l)))) i) (trailer_of (body_run i)))
      ∙ sym (laid_append o 0 (body_of l) (trailer_of l) (omega (arith, long)))
