-- Laws of the hello's own fields, and of its reading: one for a field that is there, one for a field that is not, and one
-- for all of them together.
use mathlib.Core.Path.{◌≡◌, refl, sym, ◌∙◌, ap}
use mathlib.Core.List.{List}
use mathlib.Core.Bool.{true, false}
use Prim.Native.Nat.{ℕ, ◌%◌, ◌≤◌, ◌<◌}
use native.Mathlib.Nat.{ne_of_lt}
use native.Mathlib.Omega.{arith}
use lib.ListN.{length, get_or}
use lib.Dec.{eqb}
use borrow.Author.Tests.{eq-eqb, ne_eqb, le-leb, lt-leb}
use Rattle.digest.specs.Pick.{pick}
use Rattle.message.specs.Field.{told_end, field_end, short_end}
use Rattle.message.specs.Keys.{keys_end}
use Rattle.message.specs.Handshake.{fills, client_hello}
use Rattle.message.specs.Hello.{suites_end, placed, walk_on, walk_of, read_of}
use Rattle.message.specs.declared.hello.Hello.{Hello}
use Rattle.message.specs.declared.hello.Field.{Field}
use Rattle.message.specs.declared.hello.Field.TheVariants.{Header, Size, Version, Random, SessionId, ClientKeyIds, TrustedKeyIds, CipherSuites, CompressionMethods, SequenceNumberMode, KeyRefresh, Rest}
use Rattle.message.proofs.Fields.{refused_by, end_none, end_some, short_cut, pick_same}
use Rattle.std.specs.Prelude.{Err, Ok, Result, None, Some, Option, ok_or}

pub suites_cut : (m : List ℕ) (at : ℕ) → length m ≤ at → 0 ≡ suites_end m at
unfolding suites_end
suites_cut m at h = rw (short_cut 2 255 m at h) (pick_same (eqb (get_or m at 0 % 2) 0) 0)

pub suites_odd : (m : List ℕ) (at : ℕ) → (get_or m at 0 % 2 ≡ 0 → ⊥) → 0 ≡ suites_end m at
unfolding suites_end
suites_odd m at h = rw (ne_eqb (get_or m at 0 % 2) 0 h) refl

pub suites_even : (m : List ℕ) (at end : ℕ) → get_or m at 0 % 2 ≡ 0 → end ≡ short_end 2 255 m at → end ≡ suites_end m at
unfolding suites_end
suites_even m at end h e = rw (eq-eqb (get_or m at 0 % 2) 0 h) e

-- a field that is not there is at fault; behind one that is there the reading goes on
module _ (o : Option ℕ) (end : ℕ) (fault : Field) (next : ℕ → Result Hello Field) (h : o ≡ told_end end) where
  pub missing : (f : Field) → Err f ≡ ok_or o fault → Err f ≡ walk_on end fault next
  unfolding walk_on
  missing f e =
      let w = refused_by o f fault e in
      rw (end_none end (sym w.0 ∙ h)) (ap Err w.1)

  pub there : (e : ℕ) (r : Result Hello Field) → Ok e ≡ ok_or o fault → r ≡ next e → r ≡ walk_on end fault next
  unfolding walk_on
  there e r g q = go o h g
    where
      go : (a : Option ℕ) → a ≡ told_end end → Ok e ≡ ok_or a fault → r ≡ walk_on end fault next
      go None k z = let y : ◌≡◌ {A = ℕ} 0 1 = cc in absurd (omega arith)
      go (Some x) k z =
          let w = end_some x end k in
          let s : e ≡ x = cc in
          rw (ne_eqb end 0 w.1) (q ∙ ap next (s ∙ w.0))

-- the last field ends the message, or bytes are left over
pub whole : (end size : ℕ) (h : Hello) → end ≡ size → Ok h ≡ pick (eqb end size) (Ok h) (Err Rest)
whole end size h e = rw (eq-eqb end size e) refl

pub left_over : (end size : ℕ) (h : Hello) → end < size → Err Rest ≡ pick (eqb end size) (Ok h) (Err Rest)
left_over end size h e = rw (ne_eqb end size (ne_of_lt e)) refl

-- the reading of a message
pub no_hello : (m : List ℕ) → fills client_hello m ≡ false → Err Header ≡ read_of m
unfolding read_of
no_hello m h = rw h refl

pub over_size : (m : List ℕ) → fills client_hello m ≡ true → 256 < length m → Err Size ≡ read_of m
unfolding read_of
over_size m h l = rw (h, lt-leb (length m) 256 l) refl

pub walked : (m : List ℕ) (r : Result Hello Field) → fills client_hello m ≡ true → length m ≤ 256 → r ≡ walk_of m → r ≡ read_of m
unfolding read_of
walked m r h l e = rw (h, le-leb (length m) 256 l) e

-- all ends given
abbrev pub told_by : ℕ → ℕ → ℕ → ℕ → ℕ → ℕ → ℕ → ℕ → ℕ → ℕ → Result Hello Field
told_by v r s c t p z n k size =
    pick (eqb v 0) (Err Version)
    (pick (eqb r 0) (Err Random)
    (pick (eqb s 0) (Err SessionId)
    (pick (eqb c 0) (Err ClientKeyIds)
    (pick (eqb t 0) (Err TrustedKeyIds)
    (pick (eqb p 0) (Err CipherSuites)
    (pick (eqb z 0) (Err CompressionMethods)
    (pick (eqb n 0) (Err SequenceNumberMode)
    (pick (eqb k 0) (Err KeyRefresh)
    (pick (eqb k size) (Ok (placed v r s c t p z n k)) (Err Rest))))))))))

pub by_ends : (m : List ℕ) (v r s c t p z n k : ℕ) (reading : Result Hello Field)
    → fills client_hello m ≡ true
    → length m ≤ 256
    → v ≡ field_end m 3 1
    → r ≡ field_end m v 16
    → s ≡ short_end 0 8 m r
    → c ≡ keys_end m s
    → t ≡ keys_end m c
    → p ≡ suites_end m t
    → z ≡ short_end 1 255 m p
    → n ≡ field_end m z 1
    → k ≡ field_end m n 1
    → reading ≡ told_by v r s c t p z n k (length m)
    → reading ≡ read_of m
unfolding walk_on
by_ends m v r s c t p z n k reading h l ev er es ec et ep ez en ek e =
    let dr = er ∙ ap (λ (a : ℕ). field_end m a 16) ev in
    let ds = es ∙ ap (short_end 0 8 m) dr in
    let dc = ec ∙ ap (keys_end m) ds in
    let dt = et ∙ ap (keys_end m) dc in
    let dp = ep ∙ ap (suites_end m) dt in
    let dz = ez ∙ ap (short_end 1 255 m) dp in
    let dn = en ∙ ap (λ (a : ℕ). field_end m a 1) dz in
    let dk = ek ∙ ap (λ (a : ℕ). field_end m a 1) dn in
    walked m reading h l (e ∙ (λ i. told_by (ev i) (dr i) (ds i) (dc i) (dt i) (dp i) (dz i) (dn i) (dk i) (length m)))
