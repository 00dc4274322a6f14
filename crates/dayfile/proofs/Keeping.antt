-- The claims of mending, proved. The idea: what mending writes is the file of the run, so P9's laws hold of it; and a cut
-- of a written file ends the run at the first report that it passes, since the length of that report still says so.
use mathlib.Core.Path.{◌≡◌, refl, sym, ◌∙◌, ap}
use mathlib.Core.Bool.{Bool, true, false, not}
use mathlib.Core.List.{List, [], ◌∷◌, ◌++◌, append_assoc, append-nil}
use mathlib.Core.Logic.{◌⊎◌, inl, inr, ⊎_elim, by_cases}
use Prim.Native.Nat.{ℕ, zero, suc, ◌+◌, ◌*◌, ◌-◌, ◌≤◌, ◌<◌}
use native.Mathlib.Omega.{arith}
use native.Mathlib.Nat.{zero-add}
use native.Mathlib.Decide.{dec_le}
use lib.ListN.{length, get_or, take, drop, length-append, length-take}
use lib.Seq.{take_at, take-append-add, get_or-take}
use lib.Dec.{leb}
use borrow.Author.Tests.{le-leb, lt-leb}
use Rattle.digest.specs.Pick.{pick}
use Rattle.digest.specs.Bytes.{bytes2}
use Rattle.digest.specs.Mac.{same_bytes}
use Rattle.digest.proofs.Same.{equal_same, same_equal}
use Rattle.dayfile.specs.File.{Report, report_of, body_of, distances_of, trailer_of, file_of, is_within, Sound, none, more}
use Rattle.dayfile.specs.Runs.{front_of, run_of}
use Rattle.dayfile.specs.Reading.{read_of}
use Rattle.dayfile.specs.Claims.{AreBytes}
use Rattle.dayfile.specs.Mending.{mended, refused, said_of, mend_of, mend_left}
use Rattle.dayfile.specs.Kept.{SoundUnchanged, MendedReads, ChangedExactly, Longest, InPlace, ending_by, CutKeeps, CutNever24, MendingExactly, RefusedMendsNothing}
use Rattle.dayfile.specs.declared.refusal.Refusal.{Refusal}
use Rattle.dayfile.specs.declared.refusal.Refusal.TheVariants.{Limit, Room}
use Rattle.dayfile.specs.declared.mend.Mended.{Mended}
use Rattle.dayfile.specs.declared.report.Found.{Found}
use Rattle.std.specs.Prelude.{Option, Some, None}
use Rattle.dayfile.proofs.Fronts.{FrontIs, front_is, other_nothing, length_report, told_of, report_front}
use Rattle.dayfile.proofs.Running.{run_append, run_stop, run_none, run_sound, run_front}
use Rattle.dayfile.proofs.Trailing.{length_file, within_is, within_not, within_yes}
use Rattle.dayfile.proofs.Mendings.{mend_long, mend_over, mend_narrow, mend_done}
use Rattle.dayfile.proofs.Claimed.{reads_back, read_whole}

-- ---- what mending gives, by its tests

data MendCase (b : List ℕ) (room : ℕ) : Type 0 where
  over : (65536 < length b) ⊎ ((4096 < length (run_of b)) ⊎ (65536 < length (file_of (run_of b)))) → mend_of b room ≡ refused Limit → MendCase b room
  narrow : length b ≤ 65536 → length (run_of b) ≤ 4096 → length (file_of (run_of b)) ≤ 65536 → room < length (file_of (run_of b)) → mend_of b room ≡ refused Room → MendCase b room
  done : length b ≤ 65536 → length (run_of b) ≤ 4096 → length (file_of (run_of b)) ≤ 65536 → length (file_of (run_of b)) ≤ room → mend_of b room ≡ mended (file_of (run_of b)) (said_of b) → MendCase b room

mend_case : (b : List ℕ) (room : ℕ) → MendCase b room
mend_case b room =
    by_cases (dec_le (length b) 65536) (told (is_within (run_of b)) refl)
    (λ h. let long : 65536 < length b = omega arith in over (inl long) (mend_long b room long))
  where
    told : (t : Bool) → is_within (run_of b) ≡ t → length b ≤ 65536 → MendCase b room
    told true e h =
        let w = within_is (run_of b) e in
        by_cases (dec_le (length (file_of (run_of b))) room) (λ n. done h w.0 w.1 n (mend_done b room h e n))
        (λ n. let less : room < length (file_of (run_of b)) = omega arith in narrow h w.0 w.1 less (mend_narrow b room h e less))
    told false e h = over (inr (within_not (run_of b) e)) (mend_over b room h e)

same_file : (f g : List ℕ) (s t : Mended) → mended f s ≡ mended g t → f ≡ g
same_file f g s t e = cc

same_said : (f g : List ℕ) (s t : Mended) → mended f s ≡ mended g t → s ≡ t
same_said f g s t e = cc

pub record Done (b f : List ℕ) (said : Mended) : Type 0 where
  pub file : f ≡ file_of (run_of b)
  pub what : said ≡ said_of b
  pub few : length (run_of b) ≤ 4096
  pub short : length (file_of (run_of b)) ≤ 65536

is_done : (b : List ℕ) (room : ℕ) (f : List ℕ) (said : Mended) → mend_of b room ≡ mended f said → Done b f said
is_done b room f said e = told (mend_case b room)
  where
    told : MendCase b room → Done b f said
    told (over k g) = absurd (cc)
    told (narrow h k m n g) = absurd (cc)
    told (done h k m n g) =
        record { file = same_file f (file_of (run_of b)) said (said_of b) (sym e ∙ g); what = same_said f (file_of (run_of b)) said (said_of b) (sym e ∙ g); few = k; short = m }

-- ---- what it writes

pub mended_reads : MendedReads
mended_reads b below room f said e =
    let d : Done b f said = is_done b room f said e in
    (ap read_of d.file ∙ reads_back (run_of b) (record { sound = run_sound b below; few = d.few; short = d.short }), d.what, d.file)

pub sound_unchanged : SoundUnchanged
unfolding said_of
sound_unchanged b l room e h =
    let w = read_whole b l e in
    let f : file_of (run_of b) ≡ b = w.2 in
    let many : length (run_of b) ≡ length l = ap length (sym w.0) in
    let size : length b ≡ length (body_of (run_of b)) + (3 + 2 * length (run_of b)) = ap length (sym f) ∙ length_file (run_of b) in
    let after : length b - length (body_of (run_of b)) ≡ 3 + 2 * length l = omega arith in
    let same : same_bytes b (file_of (run_of b)) ≡ true = equal_same b (file_of (run_of b)) (sym f) in
    mend_done b room w.3 (within_yes (run_of b) w.1 (omega (arith, ap length f, w.3))) (omega (arith, ap length f))
    ∙ (λ i. mended (f i) (record { kept = many i; after = after i; changed = not (same i) }))

pub changed_exactly : ChangedExactly
unfolding said_of
changed_exactly b room f said e =
    let d : Done b f said = is_done b room f said e in
    let changed : said.changed ≡ not (same_bytes b (file_of (run_of b))) = ap (λ s. s.changed) d.what in (
      λ z. d.file ∙ sym (same_equal b (file_of (run_of b)) (unsaid (same_bytes b (file_of (run_of b))) (sym changed ∙ z))),
      λ z. changed ∙ ap not (equal_same b (file_of (run_of b)) (sym z ∙ d.file)),
    )
  where
    unsaid : (t : Bool) → not t ≡ false → t ≡ true
    unsaid true q = refl
    unsaid false q = absurd (let z : true ≡ false = q in cc)

pub longest : (b : List ℕ) → AreBytes b → Longest b
longest b below = record { whole = run_sound b below; there = run_front b below; all = λ m rest s e. ap run_of e ∙ run_append m rest s }

pub in_place : InPlace
unfolding file_of
in_place b below room f said e =
    let n : ℕ = length (body_of (run_of b)) in
    let d : Done b f said = is_done b room f said e in
    ap (take n) d.file ∙ take_at (body_of (run_of b)) (trailer_of (run_of b)) n refl
    ∙ sym (ap (take n) (sym (run_front b below)) ∙ take_at (body_of (run_of b)) (drop n b) n refl)

-- ---- a cut of a written file

-- where no end is at or before the cut, nothing is kept
ends_none : (at cut : ℕ) (l : List Report) → cut < at → ending_by at cut l ≡ []
unfolding ending_by
ends_none at cut [] h = refl
ends_none at cut (r ∷ l) h =
    rw (lt-leb (at + (5 + length r.bytes)) cut (omega arith)) (ends_none (at + (5 + length r.bytes)) cut l (omega arith))

-- a report that the cut passes is not whole
cut_nothing : (r : Report) (rest : List ℕ) (k : ℕ) → length r.bytes ≤ 1400 → 1 ≤ length r.bytes → r.number < 65536
    → k < 5 + length r.bytes → front_of (take k (report_of r ++ rest)) ≡ None
cut_nothing r rest k small some numbered h = told (front_of (take k s)) refl
  where
    s : List ℕ
    s = report_of r ++ rest

    told : (front : Option Found) → front_of (take k s) ≡ front → front_of (take k s) ≡ None
    told None e = e
    told (Some f) e =
        let w : FrontIs (take k s) f = front_is (take k s) f e in
        let g : FrontIs s (told_of r) = report_front r rest some small numbered in
        let in_cut : 5 + f.size ≤ k = omega (arith, w.inside, length-take k s) in
        let three : get_or (take k s) 3 0 ≡ get_or s 3 0 = get_or-take k s 3 0 (omega arith) in
        let four : get_or (take k s) 4 0 ≡ get_or s 4 0 = get_or-take k s 4 0 (omega arith) in
        let size : f.size ≡ length r.bytes = w.sized ∙ (λ i. three i * 256 + four i) ∙ sym g.sized in
        absurd (omega arith)

trailer_nothing : (l : List Report) (k : ℕ) → run_of (take k (trailer_of l)) ≡ []
unfolding trailer_of
trailer_nothing l zero = run_none
trailer_nothing l (suc k) =
    let rest : List ℕ = take k (distances_of l ++ bytes2 (length l)) in
    run_stop (210 ∷ rest) (other_nothing (210 ∷ rest) (λ e. omega arith))

one_run : (r : Report) (t : List ℕ) → 1 ≤ length r.bytes → length r.bytes ≤ 1400 → r.number < 65536 → run_of (report_of r ++ t) ≡ r ∷ run_of t
unfolding body_of
one_run r t h k m =
    ap (λ s. run_of (s ++ t)) (sym (append-nil (report_of r))) ∙ run_append (r ∷ []) t (more h k m none)

cut_keeps_from : (l all : List Report) (at k : ℕ) → Sound l → run_of (take k (body_of l ++ trailer_of all)) ≡ ending_by at (at + k) l
unfolding body_of ending_by
cut_keeps_from [] all at k s = trailer_nothing all k
cut_keeps_from (r ∷ l) all at k (more some small numbered s) =
    let z : ℕ = length r.bytes in
    let t : List ℕ = body_of l ++ trailer_of all in
    let split : (report_of r ++ body_of l) ++ trailer_of all ≡ report_of r ++ t = append_assoc (report_of r) (body_of l) (trailer_of all) in
    by_cases (dec_le (5 + z) k)
    (λ h.
    let left : ℕ = k - (5 + z) in
    let whole : k ≡ length (report_of r) + left = omega (arith, length_report r) in
    let sum : at + (5 + z) + left ≡ at + k = omega arith in
    ap (λ x. run_of (take k x)) split
    ∙ ap (λ n. run_of (take n (report_of r ++ t))) whole
    ∙ ap run_of (take-append-add (report_of r) t left)
    ∙ one_run r (take left t) some small numbered
    ∙ ap (λ m. r ∷ m) (cut_keeps_from l all (at + (5 + z)) left s ∙ ap (λ n. ending_by (at + (5 + z)) n l) sum)
    ∙ sym (ap (λ b. pick b (r ∷ ending_by (at + (5 + z)) (at + k) l) (ending_by (at + (5 + z)) (at + k) l)) (le-leb (at + (5 + z)) (at + k) (omega arith))))
    (λ h.
    ap (λ x. run_of (take k x)) split
    ∙ run_stop (take k (report_of r ++ t)) (cut_nothing r t k small some numbered (omega arith))
    ∙ sym (ap (λ b. pick b (r ∷ ending_by (at + (5 + z)) (at + k) l) (ending_by (at + (5 + z)) (at + k) l)) (lt-leb (at + (5 + z)) (at + k) (omega arith))
    ∙ ends_none (at + (5 + z)) (at + k) l (omega arith)))

pub cut_keeps : CutKeeps
unfolding file_of
cut_keeps l cut w =
    let kept : run_of (take cut (file_of l)) ≡ ending_by 0 cut l
    = cut_keeps_from l l 0 cut w.sound ∙ ap (λ n. ending_by 0 n l) (zero-add cut) in
    (kept, λ room f said e. (is_done (take cut (file_of l)) room f said e).file ∙ ap file_of kept)

-- what is kept is no longer than what was written
ends_few : (at cut : ℕ) (l : List Report) → (length (ending_by at cut l) ≤ length l) × (length (body_of (ending_by at cut l)) ≤ length (body_of l))
unfolding ending_by body_of
ends_few at cut [] = (omega arith, omega arith)
ends_few at cut (r ∷ l) =
    told (leb (at + (5 + length r.bytes)) cut) (ends_few (at + (5 + length r.bytes)) cut l)
  where
    told : (b : Bool) → (length (ending_by (at + (5 + length r.bytes)) cut l) ≤ length l) × (length (body_of (ending_by (at + (5 + length r.bytes)) cut l)) ≤ length (body_of l))
        → (length (pick b (r ∷ ending_by (at + (5 + length r.bytes)) cut l) (ending_by (at + (5 + length r.bytes)) cut l)) ≤ suc (length l))
        × (length (body_of (pick b (r ∷ ending_by (at + (5 + length r.bytes)) cut l) (ending_by (at + (5 + length r.bytes)) cut l))) ≤ length (report_of r ++ body_of l))
    told true w = (
      omega (arith, w.0),
      omega (arith, w.1, length-append (report_of r) (body_of (ending_by (at + (5 + length r.bytes)) cut l)), length-append (report_of r) (body_of l)),
    )
    told false w = (omega (arith, w.0), omega (arith, w.1, length-append (report_of r) (body_of l)))

pub cut_never_24 : CutNever24
cut_never_24 l cut room w e = told (mend_case b room)
  where
    b : List ℕ
    b = take cut (file_of l)

    kept : run_of b ≡ ending_by 0 cut l
    kept = (cut_keeps l cut w).0

    few : length (run_of b) ≤ length l
    few = omega (arith, ap length kept, (ends_few 0 cut l).0)

    body : length (body_of (run_of b)) ≤ length (body_of l)
    body = omega (arith, ap (λ m. length (body_of m)) kept, (ends_few 0 cut l).1)

    told : MendCase b room → ⊥
    told (over k g) =
        ⊎_elim (λ x. omega (arith, w.short, length-take cut (file_of l)))
        (λ y. ⊎_elim (λ x. omega (arith, w.few, few)) (λ x. omega (arith, w.short, few, body, length_file (run_of b), length_file l)) y) k
    told (narrow h k m n g) = absurd (cc)
    told (done h k m n g) = absurd (cc)

-- ---- the refusals

pub mending_exactly : (b : List ℕ) (room : ℕ) → MendingExactly b room
mending_exactly b room =
    record {
      twenty_four = (λ e. is_over (mend_case b room) e, λ k. of_over (mend_case b room) k);
      six = (λ e. is_narrow (mend_case b room) e, λ w. of_narrow (mend_case b room) w.0 w.1 w.2 w.3);
      no_other = λ r e. other (mend_case b room) r e;
    }
  where
    is_over : MendCase b room → mend_of b room ≡ refused Limit → (65536 < length b) ⊎ ((4096 < length (run_of b)) ⊎ (65536 < length (file_of (run_of b))))
    is_over (over k g) e = k
    is_over (narrow h k m n g) e = absurd (cc)
    is_over (done h k m n g) e = absurd (cc)

    of_over : MendCase b room → (65536 < length b) ⊎ ((4096 < length (run_of b)) ⊎ (65536 < length (file_of (run_of b)))) → mend_of b room ≡ refused Limit
    of_over (over k g) x = g
    of_over (narrow h k m n g) x = ⊎_elim (λ y. absurd (omega arith)) (λ y. ⊎_elim (λ z. absurd (omega arith)) (λ z. absurd (omega arith)) y) x
    of_over (done h k m n g) x = ⊎_elim (λ y. absurd (omega arith)) (λ y. ⊎_elim (λ z. absurd (omega arith)) (λ z. absurd (omega arith)) y) x

    is_narrow : MendCase b room → mend_of b room ≡ refused Room → (length b ≤ 65536) × (length (run_of b) ≤ 4096) × (length (file_of (run_of b)) ≤ 65536) × (room < length (file_of (run_of b)))
    is_narrow (over k g) e = absurd (cc)
    is_narrow (narrow h k m n g) e = (h, k, m, n)
    is_narrow (done h k m n g) e = absurd (cc)

    of_narrow : MendCase b room → length b ≤ 65536 → length (run_of b) ≤ 4096 → length (file_of (run_of b)) ≤ 65536 → room < length (file_of (run_of b)) → mend_of b room ≡ refused Room
    of_narrow (over x g) h k m n = ⊎_elim (λ y. absurd (omega arith)) (λ y. ⊎_elim (λ z. absurd (omega arith)) (λ z. absurd (omega arith)) y) x
    of_narrow (narrow p q r s g) h k m n = g
    of_narrow (done p q r s g) h k m n = absurd (omega arith)

    other : MendCase b room → (r : Refusal) → mend_of b room ≡ refused r → (r ≡ Limit) ⊎ (r ≡ Room)
    other (over k g) r e = inl (cc)
    other (narrow h k m n g) r e = inr (cc)
    other (done h k m n g) r e = absurd (cc)

pub refused_mends_nothing : RefusedMendsNothing
refused_mends_nothing out m r e = ap (mend_left out) e
