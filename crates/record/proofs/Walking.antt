-- The walk's loop. The idea: after `n` records, the framing of the whole datagram is those records in front of the framing
-- of the part that is left; one more record moves both one on (`go_on`), and each way out of the loop ends it.
use mathlib.Core.Path.{◌≡◌, refl, sym, ap, ◌∙◌}
use mathlib.Core.List.{List, [], ◌∷◌, ◌++◌, append_assoc, append-nil}
use Prim.Native.Nat.{ℕ, zero, suc, ◌+◌, ◌-◌, ◌≤◌, ◌<◌}
use native.Mathlib.Nat.{le_of_eq}
use native.Mathlib.Numerals.{add-one}
use native.Mathlib.Omega.{arith}
use lib.ListN.{length, take, drop, set, replicate, length-drop, length-set, take-append-drop}
use lib.Seq.{take-suc-set, drop-set-lt, drop-drop, length-take-le, take_all}
use borrow.Author.Tests.{eq-eqb, ne_eqb, lt-ltb, le-ltb}
use Rattle.record.specs.Reader.{read_of}
use Rattle.record.specs.Datagram.{Framing, framed, faulty, after, placed_at, ahead, framing_from, framing_of, blank, found_all}
use Rattle.record.specs.declared.reader.Record.{Record}
use Rattle.record.specs.declared.reader.Fault.{Fault}
use Rattle.record.specs.declared.reader.Fault.TheVariants as F
use Rattle.record.proofs.Standing.{Stands, stands}
use Rattle.std.specs.Prelude.{Err, Ok, Result}

-- where the loop stands: `n` records of `d` in `rs`, and the next begins at `at`
pub record Walked (d : List ℕ) (rs : List Record) (n at : ℕ) : Type 0 where
  pub inside : at ≤ length d
  pub few : n ≤ 8
  pub eight : length rs ≡ 8
  pub rest : drop n rs ≡ replicate (8 - n) blank
  pub so_far : framing_from 8 0 d ≡ after (take n rs) (framing_from (8 - n) at (drop at d))

-- ---- one step of the definition

pub none_left : (room at : ℕ) (s : List ℕ) → length s ≡ 0 → framing_from room at s ≡ framed []
unfolding framing_from
none_left zero at s h = rw (eq-eqb (length s) 0 h)
none_left (suc room) at s h = rw (eq-eqb (length s) 0 h)

pub ninth_begins : (at : ℕ) (s : List ℕ) → 0 < length s → framing_from 0 at s ≡ faulty F.Ninth at
unfolding framing_from
ninth_begins at s h = rw (ne_eqb (length s) 0 (λ e. omega arith))

pub next_read : (room at : ℕ) (s : List ℕ) → 0 < length s → framing_from (suc room) at s ≡ ahead at (read_of s) (λ r. framing_from room (at + r.used) (drop r.used s))
unfolding framing_from
next_read room at s h = rw (ne_eqb (length s) 0 (λ e. omega arith))

after_after : (a b : List Record) (f : Framing) → after a (after b f) ≡ after (a ++ b) f
after_after a b (framed more) = ap framed (sym (append_assoc a b more))
after_after a b (faulty fault at) = refl

after_none : (f : Framing) → f ≡ after [] f
after_none (framed more) = refl
after_none (faulty fault at) = refl

-- ---- the loop

pub begun : (d : List ℕ) (rs : List Record) → rs ≡ replicate 8 blank → Walked d rs 0 0
begun d rs e =
    rw e (record { inside = omega arith; few = omega arith; eight = refl; rest = refl; so_far = after_none (framing_from 8 0 d) })

module _ (d : List ℕ) (rs : List Record) (n at : ℕ) (w : Walked d rs n at) where
  left_over : at < length d → 0 < length (drop at d)
  left_over h = omega (arith, length-drop at d)

  pub ninth : at < length d → n ≡ 8 → framing_from 8 0 d ≡ faulty F.Ninth at
  ninth h e = w.so_far ∙ rw (e, ninth_begins at (drop at d) (left_over h))

  room_left : (n ≡ 8 → ⊥) → 8 - n ≡ suc (7 - n)
  room_left k = omega (arith, w.few)

  stepped : at < length d → (n ≡ 8 → ⊥) → framing_from 8 0 d ≡ after (take n rs) (ahead at (read_of (drop at d)) (λ r. framing_from (7 - n) (at + r.used) (drop r.used (drop at d))))
  stepped h k =
      w.so_far ∙ ap (λ (m : ℕ). after (take n rs) (framing_from m at (drop at d))) (room_left k)
      ∙ ap (after (take n rs)) (next_read (7 - n) at (drop at d) (left_over h))

  pub fault : at < length d → (n ≡ 8 → ⊥) → (f : Fault) → read_of (drop at d) ≡ Err f → framing_from 8 0 d ≡ faulty f at
  fault h k f e = stepped h k ∙ rw e

  pub go_on : at < length d → (n ≡ 8 → ⊥) → (r : Record) → read_of (drop at d) ≡ Ok r → Walked d (set rs n (placed_at r at)) (n + 1) (at + r.used)
  go_on h k r e =
      let s : Stands (drop at d) r = stands (drop at d) r e in
      let v : Record = placed_at r at in
      let fits : n < length rs = omega (arith, w.few, w.eight) in
      let less : 7 - n ≡ 8 - (n + 1) = omega arith in
      let more : take (n + 1) (set rs n v) ≡ take n rs ++ (v ∷ []) = rw add-one (take-suc-set rs n v fits) in
      record {
        inside = omega (arith, s.inside, length-drop at d);
        few = omega (arith, w.few);
        eight = length-set rs n v ∙ w.eight;
        rest =
            drop-set-lt (n + 1) rs n v (omega arith) ∙ sym (drop-drop 1 n rs)
            ∙ ap (drop 1) (w.rest ∙ ap (λ (m : ℕ). replicate m blank) (room_left k))
            ∙ ap (λ (m : ℕ). replicate m blank) less;
        so_far =
            stepped h k
            ∙ ap (λ (x : Result Record Fault). after (take n rs) (ahead at x (λ q. framing_from (7 - n) (at + q.used) (drop q.used (drop at d))))) e
            ∙ after_after (take n rs) (v ∷ []) (framing_from (7 - n) (at + r.used) (drop r.used (drop at d)))
            ∙ cc (more, less, drop-drop r.used at d);
      }

  pub done : length d ≤ at → framing_from 8 0 d ≡ framed (take n rs)
  done h =
      w.so_far ∙ ap (after (take n rs)) (none_left (8 - n) at (drop at d) (omega (arith, length-drop at d, w.inside)))
      ∙ ap framed (append-nil (take n rs))

  pub found : found_all (take n rs) ≡ record { count = n; records = rs }
  unfolding found_all
  found =
      let l : length (take n rs) ≡ n = length-take-le n rs (omega (arith, w.few, w.eight)) in
      let all : take n rs ++ replicate (8 - n) blank ≡ rs = rw (sym w.rest) (take-append-drop n rs) in
      rw l (ap (λ (x : List Record). record { count = n; records = x }) all)

-- ---- the whole datagram

pub part_on : (d : List ℕ) (at : ℕ) → take (length d - at) (drop at d) ≡ drop at d
part_on d at = take_all (length d - at) (drop at d) (le_of_eq (length-drop at d))

-- what is read of the part is read of what is left
pub read_here : (d : List ℕ) (at : ℕ) (r x : Result Record Fault) → r ≡ read_of (take (length d - at) (drop at d)) → r ≡ x → read_of (drop at d) ≡ x
read_here d at r x e f = ap read_of (sym (part_on d at)) ∙ sym e ∙ f

pub no_bytes : (d : List ℕ) → length d ≡ 0 → framing_of d ≡ faulty F.Size 0
unfolding framing_of
no_bytes d h = rw (eq-eqb (length d) 0 h)

pub too_long : (d : List ℕ) → 1400 < length d → framing_of d ≡ faulty F.Size 0
unfolding framing_of
too_long d h = rw (ne_eqb (length d) 0 (λ e. omega arith), lt-ltb 1400 (length d) h)

pub sized : (d : List ℕ) → (length d ≡ 0 → ⊥) → length d ≤ 1400 → framing_of d ≡ framing_from 8 0 d
unfolding framing_of
sized d h k = rw (ne_eqb (length d) 0 h, le-ltb 1400 (length d) k)
