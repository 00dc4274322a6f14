-- The laws of the two editions of the list of MAC kinds (02, P11).
use Rattle.std.proofs.Common.{◌≡◌, ℕ, ◌<◌, ◌≤◌, Bool, true, false, eqb, ◌⊎◌, Option, Some, None, Result, Ok, Err, length, sym, refl, ap, ◌∙◌, subst, inl, inr, arith}
use Rattle.std.specs.Option.{MatchOption}
use Rattle.std.specs.Bool.{then_some}
use mathlib.Core.Logic.{by_cases}
use native.Mathlib.Decide.{dec_le}
use Rattle.digest.proofs.Picks.{picks}
use Rattle.digest.specs.Pick.{pick}
use Rattle.digest.specs.Named.{Told, sha_xor40}
use Rattle.digest.specs.Edition.{entry_of, named_in, named, where_listed, name_in, sizes_in}
use Rattle.digest.specs.declared.edition.Entry.{Entry}
use Rattle.digest.specs.declared.named.Unnamed.{Unnamed}
use Rattle.digest.specs.declared.named.Unnamed.TheVariants.{Unlisted, UnknownEdition}
use Rattle.digest.specs.Mac.{number_of, size_of, secret_size, listed_as}
use Rattle.digest.specs.declared.mac.Mac.{Mac}
use Rattle.digest.specs.declared.mac.Mac.TheVariants.{Sha80, Sha}

-- The entry of a number that is known.
pub row_at : (k n : ℕ) (r : Option Entry) → n ≡ k → r ≡ entry_of k → r ≡ entry_of n
row_at k n r h e = e ∙ ap entry_of (sym h)

-- What each edition says, from the entry.
pub older_by : (n : ℕ) → named_in 1 n ≡ named (where_listed (λ e. e.older) (entry_of n))
unfolding named_in
older_by n = refl

pub later_by : (n : ℕ) → named_in 2 n ≡ named (where_listed (λ e. e.later) (entry_of n))
unfolding named_in
later_by n = refl

-- The entry as the older edition lists it, and as that of April 2001 does.
pub in_older : (r : Result Told Unnamed) (e : Option Entry) (edition n : ℕ) → e ≡ entry_of n → r ≡ named (where_listed (λ e. e.older) e) → edition ≡ 1
    → r ≡ named_in edition n
in_older r e edition n ee er one =
    er ∙ ap (λ x. named (where_listed (λ e. e.older) x)) ee ∙ sym (older_by n) ∙ ap (λ x. named_in x n) (sym one)

pub in_later : (r : Result Told Unnamed) (e : Option Entry) (edition n : ℕ) → e ≡ entry_of n → r ≡ named (where_listed (λ e. e.later) e) → edition ≡ 2
    → r ≡ named_in edition n
in_later r e edition n ee er two =
    er ∙ ap (λ x. named (where_listed (λ e. e.later) x)) ee ∙ sym (later_by n) ∙ ap (λ x. named_in x n) (sym two)

-- An entry filtered by whether an edition has it.
pub filtered : (lists : Entry → Bool) (P : Entry → Bool → Type 0) (row r : Option Entry) → ((e : Entry) (b : Bool) → P e b → b ≡ lists e)
    → MatchOption row (r ≡ None) (λ e. (b : Bool) × P e b × (r ≡ then_some b e)) → r ≡ where_listed lists row
filtered lists P None r says h = h
filtered lists P (Some e) r says (b, p, h) = h ∙ ap (λ x. then_some x e) (says e b p) ∙ by_flag (lists e)
  where
    by_flag : (x : Bool) → then_some x e ≡ pick x (Some e) None
    by_flag true = refl
    by_flag false = refl

-- Eight numbers one by one.
below_8 : (P : ℕ → Type 0) → P 0 → P 1 → P 2 → P 3 → P 4 → P 5 → P 6 → P 7 → (n : ℕ) → n < 8 → P n
below_8 P p0 p1 p2 p3 p4 p5 p6 p7 n h =
    by_cases (dec_le n 0) (λ a. subst P (at 0 n (omega arith) a) p0)
    (λ n0. by_cases (dec_le n 1) (λ a. subst P (at 1 n (omega arith) a) p1)
    (λ n1. by_cases (dec_le n 2) (λ a. subst P (at 2 n (omega arith) a) p2)
    (λ n2. by_cases (dec_le n 3) (λ a. subst P (at 3 n (omega arith) a) p3)
    (λ n3. by_cases (dec_le n 4) (λ a. subst P (at 4 n (omega arith) a) p4)
    (λ n4. by_cases (dec_le n 5) (λ a. subst P (at 5 n (omega arith) a) p5)
    (λ n5. by_cases (dec_le n 6) (λ a. subst P (at 6 n (omega arith) a) p6)
    (λ n6. subst P (at 7 n (omega arith) (omega arith)) p7)))))))
  where
    at : (k n : ℕ) → k ≤ n → n ≤ k → k ≡ n
    at k n a b = omega arith

-- A number above the table is in no edition.
pub none_above : (n : ℕ) → 8 ≤ n → None ≡ entry_of n
unfolding entry_of
none_above n h =
    let n0 : n ≡ 0 → ⊥ = λ e. omega arith in
    let n1 : n ≡ 1 → ⊥ = λ e. omega arith in
    let n2 : n ≡ 2 → ⊥ = λ e. omega arith in
    let n3 : n ≡ 3 → ⊥ = λ e. omega arith in
    let n4 : n ≡ 4 → ⊥ = λ e. omega arith in
    let n5 : n ≡ 5 → ⊥ = λ e. omega arith in
    let n6 : n ≡ 6 → ⊥ = λ e. omega arith in
    let n7 : n ≡ 7 → ⊥ = λ e. omega arith in
    search picks

unlisted_by : (n : ℕ) (lists : Entry → Bool) → 8 ≤ n → named (where_listed lists (entry_of n)) ≡ Err Unlisted
unlisted_by n lists h = ap (λ e. named (where_listed lists e)) (sym (none_above n h))

-- 02: "the two agree on all other entries".
pub editions_agree : (n : ℕ) → (n ≡ 4 → ⊥) → named_in 1 n ≡ named_in 2 n
unfolding named_in entry_of
editions_agree n h =
    by_cases (dec_le 8 n)
    (λ big. unlisted_by n (λ e. e.older) big ∙ sym (unlisted_by n (λ e. e.later) big))
    (λ small.
    below_8 (λ k. (k ≡ 4 → ⊥) → named_in 1 k ≡ named_in 2 k)
    (λ x. refl) (λ x. refl) (λ x. refl) (λ x. refl) (λ x. absurd (x refl)) (λ x. refl) (λ x. refl) (λ x. refl)
    n (omega arith) h)

-- "SHA_XOR_40 has the number that Table 6 now skips, its sizes unshown".
pub older_lists_4 : named_in 1 4 ≡ Ok (record { name = sha_xor40; sizes = None })
unfolding named_in entry_of
older_lists_4 = refl

pub later_skips_4 : named_in 2 4 ≡ Err Unlisted
unfolding named_in entry_of
later_skips_4 = refl

-- "an unlisted number has no name", and above 7 there is none.
pub unlisted_above : (edition n : ℕ) → (edition ≡ 1) ⊎ (edition ≡ 2) → 8 ≤ n → named_in edition n ≡ Err Unlisted
unlisted_above edition n (inl e) h = ap (λ x. named_in x n) e ∙ older_by n ∙ unlisted_by n (λ e. e.older) h
unlisted_above edition n (inr e) h = ap (λ x. named_in x n) e ∙ later_by n ∙ unlisted_by n (λ e. e.later) h

-- The MAC kinds of connections: their sizes stand in both editions, under their numbers,
pub kind_sizes : (edition : ℕ) (kind : Mac) → (edition ≡ 1) ⊎ (edition ≡ 2)
    → sizes_in (named_in edition (number_of kind)) ≡ Some (record { key = secret_size; code = size_of kind })
unfolding named_in entry_of
kind_sizes edition Sha80 (inl e) = ap (λ x. sizes_in (named_in x 2)) e
kind_sizes edition Sha80 (inr e) = ap (λ x. sizes_in (named_in x 2)) e
kind_sizes edition Sha (inl e) = ap (λ x. sizes_in (named_in x 3)) e
kind_sizes edition Sha (inr e) = ap (λ x. sizes_in (named_in x 3)) e

-- and "Neither edition lets that kind be chosen for a connection": only 2 and 3 are chosen, whatever the edition.
pub only_2_and_3 : (n : ℕ) → (n ≡ 2 → ⊥) → (n ≡ 3 → ⊥) → None ≡ listed_as n
unfolding listed_as
only_2_and_3 n not2 not3 = search picks

-- A name has ten bytes at most, in whichever edition.
of_either : {A : Type 0} (P : A → Type 0) (b : Bool) {x y : A} → P x → P y → P (pick b x y)
of_either P true px py = px
of_either P false px py = py

abbrev RowFits : Option Entry → Type 0
RowFits row = (lists : Entry → Bool) → length (name_in (named (where_listed lists row))) ≤ 10

row_fits : (n : ℕ) → RowFits (entry_of n)
unfolding entry_of
row_fits n =
    of_either RowFits (eqb n 0) (some _ (omega arith)) (of_either RowFits (eqb n 1) (some _ (omega arith))
    (of_either RowFits (eqb n 2) (some _ (omega arith)) (of_either RowFits (eqb n 3) (some _ (omega arith))
    (of_either RowFits (eqb n 4) (some _ (omega arith)) (of_either RowFits (eqb n 5) (some _ (omega arith))
    (of_either RowFits (eqb n 6) (some _ (omega arith)) (of_either RowFits (eqb n 7) (some _ (omega arith)) (λ lists. omega arith))))))))
  where
    some : (e : Entry) → length e.named.name ≤ 10 → RowFits (Some e)
    some e h lists = of_either (λ l. length (name_in (named l)) ≤ 10) (lists e) h (omega arith)

pub name_fits : (edition n : ℕ) → length (name_in (named_in edition n)) ≤ 10
unfolding named_in
name_fits edition n =
    let P : Result Told Unnamed → Type 0 = λ said. length (name_in said) ≤ 10 in
    of_either P (eqb edition 1) (row_fits n (λ e. e.older)) (of_either P (eqb edition 2) (row_fits n (λ e. e.later)) (omega arith))

-- "an unknown edition": any but 1 and 2.
pub unknown_edition : (edition n : ℕ) → (edition ≡ 1 → ⊥) → (edition ≡ 2 → ⊥) → Err UnknownEdition ≡ named_in edition n
unfolding named_in
unknown_edition edition n not1 not2 = search picks
