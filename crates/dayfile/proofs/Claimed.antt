-- The claims of the day file, proved. The idea: what was written is found again as a run (`run_append`), so reading gives
-- the list back; what reads is by definition the file of its run, and a run is sound.
use mathlib.Core.Path.{◌≡◌, refl, sym, ◌∙◌, ap, subst}
use mathlib.Core.Bool.{Bool, true, false}
use mathlib.Core.List.{List, [], ◌∷◌, ◌++◌, append-nil}
use mathlib.Core.Logic.{◌⊎◌, inl, inr, ⊎_elim, by_cases}
use Prim.Native.Nat.{ℕ, suc, ◌+◌, ◌*◌, ◌≤◌, ◌<◌}
use native.Mathlib.Omega.{arith}
use native.Mathlib.Decide.{dec_le}
use lib.ListN.{length, drop, length-append}
use lib.Seq.{take_at, drop_at, drop-drop}
use lib.Dec.{eqb, ltb, leb}
use borrow.Author.Tests.{eq-eqb, eqb-true, ltb-true, leb-true, leb-false}
use Rattle.digest.specs.Pick.{pick}
use Rattle.digest.specs.Mac.{same_bytes}
use Rattle.digest.specs.Bytes.{bytes2}
use Rattle.digest.proofs.Same.{equal_same, same_equal}
use Rattle.dayfile.specs.File.{Report, report_of, body_of, trailer_of, distances_of, file_of, is_sized, all_sized, is_within, Sound, Writable}
use Rattle.dayfile.specs.Runs.{found_in, run_of}
use Rattle.dayfile.specs.Lent.{sum_of, is_list, list_of}
use Rattle.dayfile.specs.Writing.{file, refused, write_of, left_by}
use Rattle.dayfile.specs.Reading.{Read, reports, read_of}
use Rattle.dayfile.specs.Reading as reading
use Rattle.dayfile.specs.Claims.{AreBytes, Unsized, empty, long, later, ReadsBack, OneList, OnlyFiles, FoundInOrder, WritingExactly, RefusedWritesNothing, Lendable, ReadingExactly, size_of_reports, SizeOfFile}
use Rattle.dayfile.specs.declared.refusal.Refusal.{Refusal}
use Rattle.dayfile.specs.declared.refusal.Refusal.TheVariants.{Argument, Limit, Room, NoFile}
use Rattle.dayfile.proofs.Fronts.{length_report, other_nothing, sized_is}
use Rattle.dayfile.proofs.Running.{run_append, run_stop, run_next, run_sound}
use Rattle.dayfile.proofs.Trailing.{length_file}
use Rattle.dayfile.proofs.Looking.{read_long, read_is, read_many, read_not}

-- ---- files and runs

trailer_stops : (l : List Report) → run_of (trailer_of l) ≡ []
unfolding trailer_of
trailer_stops l =
    let rest : List ℕ = distances_of l ++ bytes2 (length l) in
    run_stop (210 ∷ rest) (other_nothing (210 ∷ rest) (λ e. omega arith))

pub file_run : (l : List Report) → Sound l → run_of (file_of l) ≡ l
unfolding file_of
file_run l s = run_append l (trailer_of l) s ∙ ap (λ m. l ++ m) (trailer_stops l) ∙ append-nil l

pub reads_back : ReadsBack
reads_back l w =
    let run : run_of (file_of l) ≡ l = file_run l w.sound in
    read_is (file_of l) w.short (omega (arith, ap length run, w.few))
    (equal_same (file_of l) (file_of (run_of (file_of l))) (ap file_of (sym run)))
    ∙ ap reports run

pub one_list : OneList
one_list l m s t e = sym (file_run l s) ∙ ap run_of e ∙ file_run m t

-- ---- what reading gives, by its tests

data ReadCase (b : List ℕ) : Type 0 where
  too_long : 65536 < length b → read_of b ≡ reading.refused Limit → ReadCase b
  no_file : length b ≤ 65536 → ((4096 < length (run_of b)) ⊎ (same_bytes b (file_of (run_of b)) ≡ false)) → read_of b ≡ reading.refused NoFile → ReadCase b
  a_file : length b ≤ 65536 → length (run_of b) ≤ 4096 → file_of (run_of b) ≡ b → read_of b ≡ reports (run_of b) → ReadCase b

read_case : (b : List ℕ) → ReadCase b
read_case b = told (same_bytes b (file_of (run_of b))) refl
  where
    told : (t : Bool) → same_bytes b (file_of (run_of b)) ≡ t → ReadCase b
    told t e =
        by_cases (dec_le (length b) 65536)
        (λ h.
        by_cases (dec_le (length (run_of b)) 4096)
        (λ k. same t e h k)
        (λ k. let many : 4096 < length (run_of b) = omega arith in no_file h (inl many) (read_many b h many)))
        (λ h. let big : 65536 < length b = omega arith in too_long big (read_long b big))
      where
        same : (t : Bool) → same_bytes b (file_of (run_of b)) ≡ t → length b ≤ 65536 → length (run_of b) ≤ 4096 → ReadCase b
        same true e h k = a_file h k (sym (same_equal b (file_of (run_of b)) e)) (read_is b h k e)
        same false e h k = no_file h (inr e) (read_not b h k e)

inner : (l m : List Report) → reports l ≡ reports m → l ≡ m
inner l m e = cc

pub read_whole : (b : List ℕ) (l : List Report) → read_of b ≡ reports l → (l ≡ run_of b) × (length (run_of b) ≤ 4096) × (file_of (run_of b) ≡ b) × (length b ≤ 65536)
read_whole b l e = told (read_case b)
  where
    told : ReadCase b → (l ≡ run_of b) × (length (run_of b) ≤ 4096) × (file_of (run_of b) ≡ b) × (length b ≤ 65536)
    told (too_long h g) = absurd (cc)
    told (no_file h k g) = absurd (cc)
    told (a_file h k f g) = (inner l (run_of b) (sym e ∙ g), k, f, h)

pub only_files : OnlyFiles
only_files b below l e =
    let w = read_whole b l e in
    let f : file_of l ≡ b = ap file_of w.0 ∙ w.2 in
    (record { sound = subst Sound (sym w.0) (run_sound b below); few = omega (arith, ap length w.0, w.1); short = omega (arith, ap length f, w.3) }, f)

pub found_in_order : FoundInOrder
found_in_order =
    record {
      whole = λ b l e. (read_whole b l e).0;
      next = λ b at f e. run_next (drop at b) f e ∙ ap (λ s. found_in (drop at b) f ∷ run_of s) (drop-drop (5 + f.size) at b);
      last = λ b at e. run_stop (drop at b) e;
    }

pub reading_exactly : (b : List ℕ) → AreBytes b → ReadingExactly b
reading_exactly b below =
    record {
      twenty_four = (λ e. long_told (read_case b) e, λ h. read_long b h);
      twenty_five = (λ e. none_told (read_case b) e, λ w. not_told (read_case b) w.0 w.1);
      read = λ l. (λ e. only_files b below l e, λ w. ap read_of (sym w.1) ∙ reads_back l w.0);
      no_sixteen = λ e. never Argument (read_case b) e (λ o. absurd (cc)) (λ o. absurd (cc));
      no_six = λ e. never Room (read_case b) e (λ o. absurd (cc)) (λ o. absurd (cc));
    }
  where
    long_told : ReadCase b → read_of b ≡ reading.refused Limit → 65536 < length b
    long_told (too_long h g) e = h
    long_told (no_file h k g) e = absurd (cc)
    long_told (a_file h k f g) e = absurd (cc)

    none_told : ReadCase b → read_of b ≡ reading.refused NoFile → (length b ≤ 65536) × ((l : List Report) → Writable l → file_of l ≡ b → ⊥)
    none_told (too_long h g) e = absurd (cc)
    none_told (no_file h k g) e = (h, λ l w f. absurd (let r : read_of b ≡ reports l = ap read_of (sym f) ∙ reads_back l w in cc))
    none_told (a_file h k f g) e = absurd (cc)

    not_told : ReadCase b → length b ≤ 65536 → ((l : List Report) → Writable l → file_of l ≡ b → ⊥) → read_of b ≡ reading.refused NoFile
    not_told (too_long h g) k not_so = absurd (omega arith)
    not_told (no_file h k g) m not_so = g
    not_told (a_file h k f g) m not_so =
        absurd (not_so (run_of b) (record { sound = run_sound b below; few = k; short = omega (arith, ap length f) }) f)

    never : (r : Refusal) → ReadCase b → read_of b ≡ reading.refused r → (r ≡ Limit → ⊥) → (r ≡ NoFile → ⊥) → ⊥
    never r (too_long h g) e x y = x (cc)
    never r (no_file h k g) e x y = y (cc)
    never r (a_file h k f g) e x y = absurd (cc)

-- ---- what writing gives

sized_told : (l : List Report) → all_sized l ≡ true → Unsized l → ⊥
unfolding all_sized
sized_told [] e x'' = elim x'' [ ]
sized_told (r ∷ l) e (empty h) = told (is_sized (length r.bytes)) refl e
  where
    told : (t : Bool) → is_sized (length r.bytes) ≡ t → pick t (all_sized l) false ≡ true → ⊥
    told true p q = let w = sized_is (length r.bytes) p in omega (arith, w.0)
    told false p q = absurd (let z : false ≡ true = q in cc)
sized_told (r ∷ l) e (long h) = told (is_sized (length r.bytes)) refl e
  where
    told : (t : Bool) → is_sized (length r.bytes) ≡ t → pick t (all_sized l) false ≡ true → ⊥
    told true p q = let w = sized_is (length r.bytes) p in omega (arith, w.1)
    told false p q = absurd (let z : false ≡ true = q in cc)
sized_told (r ∷ l) e (later u) = told (is_sized (length r.bytes)) e (λ q. sized_told l q u)
  where
    told : (t : Bool) → pick t (all_sized l) false ≡ true → (all_sized l ≡ true → ⊥) → ⊥
    told true q rest = rest q
    told false q rest = absurd (let z : false ≡ true = q in cc)

unsized_told : (l : List Report) → all_sized l ≡ false → Unsized l
unfolding all_sized
unsized_told [] e = absurd (let z : true ≡ false = e in cc)
unsized_told (r ∷ l) e = told (ltb (length r.bytes) 1) (ltb 1400 (length r.bytes)) refl refl e (λ q. unsized_told l q)
  where
    told : (x y : Bool) → ltb (length r.bytes) 1 ≡ x → ltb 1400 (length r.bytes) ≡ y
        → pick (pick x false (pick y false true)) (all_sized l) false ≡ false → (all_sized l ≡ false → Unsized l) → Unsized (r ∷ l)
    told true y p q w rest = empty (ltb-true (length r.bytes) 1 p)
    told false true p q w rest = long (ltb-true 1400 (length r.bytes) q)
    told false false p q w rest = later (rest w)

data WriteCase (l : List Report) (room : ℕ) : Type 0 where
  unsized : Unsized l → write_of l room ≡ refused Argument → WriteCase l room
  over : (Unsized l → ⊥) → (4096 < length l) ⊎ (65536 < length (file_of l)) → write_of l room ≡ refused Limit → WriteCase l room
  narrow : (Unsized l → ⊥) → length l ≤ 4096 → length (file_of l) ≤ 65536 → room < length (file_of l) → write_of l room ≡ refused Room → WriteCase l room
  fits : (Unsized l → ⊥) → length l ≤ 4096 → length (file_of l) ≤ 65536 → length (file_of l) ≤ room → write_of l room ≡ file (file_of l) → WriteCase l room

write_case : (l : List Report) (room : ℕ) → WriteCase l room
unfolding write_of is_within
write_case l room = told (all_sized l) (leb (length l) 4096) (leb (length (file_of l)) 65536) (leb (length (file_of l)) room) refl refl refl refl
  where
    told : (s m w r : Bool) → all_sized l ≡ s → leb (length l) 4096 ≡ m → leb (length (file_of l)) 65536 ≡ w → leb (length (file_of l)) room ≡ r → WriteCase l room
    told false m w r p q x y = unsized (unsized_told l p) (rw p refl)
    told true false w r p q x y = over (sized_told l p) (inl (leb-false (length l) 4096 q)) (rw (p, q) refl)
    told true true false r p q x y = over (sized_told l p) (inr (leb-false (length (file_of l)) 65536 x)) (rw (p, q, x) refl)
    told true true true false p q x y =
        narrow (sized_told l p) (leb-true (length l) 4096 q) (leb-true (length (file_of l)) 65536 x) (leb-false (length (file_of l)) room y) (rw (p, q, x, y) refl)
    told true true true true p q x y =
        fits (sized_told l p) (leb-true (length l) 4096 q) (leb-true (length (file_of l)) 65536 x) (leb-true (length (file_of l)) room y) (rw (p, q, x, y) refl)

file_inner : (f g : List ℕ) → file f ≡ file g → f ≡ g
file_inner f g e = cc

pub writing_exactly : (l : List Report) (room : ℕ) → WritingExactly l room
writing_exactly l room =
    record {
      sixteen = (λ e. is_unsized (write_case l room) e, λ u. of_unsized (write_case l room) u);
      twenty_four = (λ e. is_over (write_case l room) e, λ w. of_over (write_case l room) w.0 w.1);
      six = (λ e. is_narrow (write_case l room) e, λ w. of_narrow (write_case l room) w.0 w.1 w.2 w.3);
      written = λ f. (λ e. is_file (write_case l room) f e, λ w. of_file (write_case l room) w.0 w.1 w.2 w.3 ∙ ap file (sym w.4));
      no_other = λ e. no_file (write_case l room) e;
    }
  where
    is_unsized : WriteCase l room → write_of l room ≡ refused Argument → Unsized l
    is_unsized (unsized u g) e = u
    is_unsized (over n k g) e = absurd (cc)
    is_unsized (narrow n a b d g) e = absurd (cc)
    is_unsized (fits n a b d g) e = absurd (cc)

    of_unsized : WriteCase l room → Unsized l → write_of l room ≡ refused Argument
    of_unsized (unsized u g) v = g
    of_unsized (over n k g) v = absurd (n v)
    of_unsized (narrow n a b d g) v = absurd (n v)
    of_unsized (fits n a b d g) v = absurd (n v)

    is_over : WriteCase l room → write_of l room ≡ refused Limit → (Unsized l → ⊥) × ((4096 < length l) ⊎ (65536 < length (file_of l)))
    is_over (unsized u g) e = absurd (cc)
    is_over (over n k g) e = (n, k)
    is_over (narrow n a b d g) e = absurd (cc)
    is_over (fits n a b d g) e = absurd (cc)

    of_over : WriteCase l room → (Unsized l → ⊥) → (4096 < length l) ⊎ (65536 < length (file_of l)) → write_of l room ≡ refused Limit
    of_over (unsized u g) not_so k = absurd (not_so u)
    of_over (over n k g) not_so m = g
    of_over (narrow n a b d g) not_so m = ⊎_elim (λ x. absurd (omega arith)) (λ x. absurd (omega arith)) m
    of_over (fits n a b d g) not_so m = ⊎_elim (λ x. absurd (omega arith)) (λ x. absurd (omega arith)) m

    is_narrow : WriteCase l room → write_of l room ≡ refused Room → (Unsized l → ⊥) × (length l ≤ 4096) × (length (file_of l) ≤ 65536) × (room < length (file_of l))
    is_narrow (unsized u g) e = absurd (cc)
    is_narrow (over n k g) e = absurd (cc)
    is_narrow (narrow n a b d g) e = (n, a, b, d)
    is_narrow (fits n a b d g) e = absurd (cc)

    of_narrow : WriteCase l room → (Unsized l → ⊥) → length l ≤ 4096 → length (file_of l) ≤ 65536 → room < length (file_of l) → write_of l room ≡ refused Room
    of_narrow (unsized u g) not_so a b d = absurd (not_so u)
    of_narrow (over n k g) not_so a b d = ⊎_elim (λ x. absurd (omega arith)) (λ x. absurd (omega arith)) k
    of_narrow (narrow n x y z g) not_so a b d = g
    of_narrow (fits n x y z g) not_so a b d = absurd (omega arith)

    is_file : WriteCase l room → (f : List ℕ) → write_of l room ≡ file f → (Unsized l → ⊥) × (length l ≤ 4096) × (length (file_of l) ≤ 65536) × (length (file_of l) ≤ room) × (f ≡ file_of l)
    is_file (unsized u g) f e = absurd (cc)
    is_file (over n k g) f e = absurd (cc)
    is_file (narrow n a b d g) f e = absurd (cc)
    is_file (fits n a b d g) f e = (n, a, b, d, file_inner f (file_of l) (sym e ∙ g))

    of_file : WriteCase l room → (Unsized l → ⊥) → length l ≤ 4096 → length (file_of l) ≤ 65536 → length (file_of l) ≤ room → write_of l room ≡ file (file_of l)
    of_file (unsized u g) not_so a b d = absurd (not_so u)
    of_file (over n k g) not_so a b d = ⊎_elim (λ x. absurd (omega arith)) (λ x. absurd (omega arith)) k
    of_file (narrow n x y z g) not_so a b d = absurd (omega arith)
    of_file (fits n x y z g) not_so a b d = g

    no_file : WriteCase l room → write_of l room ≡ refused NoFile → ⊥
    no_file (unsized u g) e = absurd (cc)
    no_file (over n k g) e = absurd (cc)
    no_file (narrow n a b d g) e = absurd (cc)
    no_file (fits n a b d g) e = absurd (cc)

pub refused_writes_nothing : RefusedWritesNothing
refused_writes_nothing out w r e = ap (left_by out) e

-- ---- how long a file is

size_body : (l : List Report) → length (body_of l) ≡ size_of_reports l
unfolding body_of size_of_reports
size_body [] = refl
size_body (r ∷ l) = length-append (report_of r) (body_of l) ∙ (λ i. length_report r i + size_body l i)

pub size_of_file : SizeOfFile
size_of_file l = length_file l ∙ ap (λ n. n + (3 + 2 * length l)) (size_body l)

-- ---- every list can be lent

lent_tests : (ns ss b : List ℕ) → is_list ns ss b ≡ true → (length ns ≡ length ss) × (sum_of ss ≡ length b)
unfolding is_list
lent_tests ns ss b e = told (eqb (length ns) (length ss)) refl e
  where
    told : (t : Bool) → eqb (length ns) (length ss) ≡ t → pick t (eqb (sum_of ss) (length b)) false ≡ true → (length ns ≡ length ss) × (sum_of ss ≡ length b)
    told true p q = (eqb-true (length ns) (length ss) p, eqb-true (sum_of ss) (length b) q)
    told false p q = absurd (let z : false ≡ true = q in cc)

pub lendable : (l : List Report) → Lendable l
unfolding is_list list_of sum_of
lendable [] = record { numbers = []; sizes = []; bytes = []; is_list_lem = refl; same = refl }
lendable (r ∷ l) =
    let w : Lendable l = lendable l in
    let tests = lent_tests w.numbers w.sizes w.bytes w.is_list_lem in
    record {
      numbers = r.number ∷ w.numbers;
      sizes = length r.bytes ∷ w.sizes;
      bytes = r.bytes ++ w.bytes;
      is_list_lem =
          rw (eq-eqb (length (r.number ∷ w.numbers)) (length (length r.bytes ∷ w.sizes)) (ap suc tests.0), eq-eqb (length r.bytes + sum_of w.sizes) (length (r.bytes ++ w.bytes)) (ap (λ n. length r.bytes + n) tests.1 ∙ sym (length-append r.bytes w.bytes))) refl;
      same =
          (λ i. record { number = r.number; bytes = take_at r.bytes w.bytes (length r.bytes) refl i } ∷ list_of w.numbers w.sizes (drop_at r.bytes w.bytes (length r.bytes) refl i))
          ∙ ap (λ m. r ∷ m) w.same;
    }
