-- What a sound record is, read off from the bytes: each field, and that it lies inside them. The idea: a reading that is
-- sound has passed every test of the definition, so each pick is undone by the value it gave.
use mathlib.Core.Path.{◌≡◌, refl, sym}
use mathlib.Core.Bool.{Bool, true, false}
use mathlib.Core.List.{List}
use Prim.Native.Nat.{ℕ, ◌+◌, ◌-◌, ◌≤◌, ◌<◌}
use native.Mathlib.Omega.{arith}
use lib.ListN.{length, get_or}
use lib.Dec.{eqb, ltb}
use borrow.Author.Tests.{eqb-false, ltb-false}
use Rattle.digest.specs.Pick.{pick}
use Rattle.record.specs.Header.{kind_of, sound_kind, content_of}
use Rattle.record.specs.Reader.{read_of, read_as, framed_of, head_of, size_of, pair_at}
use Rattle.record.specs.declared.header.Kind.{Kind}
use Rattle.record.specs.declared.reader.Record.{Record}
use Rattle.record.specs.declared.reader.Fault.{Fault}
use Rattle.record.specs.declared.reader.Fault.TheVariants as F
use Rattle.std.specs.Prelude.{Err, Ok, Result}

-- r is the record at the front of s
pub record Stands (s : List ℕ) (r : Record) : Type 0 where
  pub kind : sound_kind (kind_of (get_or s 0 0)) ≡ true
  pub byte : r.byte ≡ get_or s 0 0
  pub content : r.content ≡ content_of (kind_of (get_or s 0 0)).content
  pub protected : r.protected ≡ (kind_of (get_or s 0 0)).protected
  pub number : r.number ≡ pair_at s 1
  pub start : r.start ≡ 0
  pub head : r.head ≡ head_of (kind_of (get_or s 0 0))
  pub size : r.size ≡ size_of s (kind_of (get_or s 0 0))
  pub used : r.used ≡ r.head + r.size
  pub inside : r.used ≤ length s
  pub some : 0 < r.size

passed_no : (b : Bool) (f : Fault) (y : Result Record Fault) (r : Record) → pick b (Err f) y ≡ Ok r → (b ≡ false) × (y ≡ Ok r)
passed_no true f y r e = let z : ◌≡◌ {A = ℕ} 0 1 = cc in absurd (omega arith)
passed_no false f y r e = (refl, e)

passed_yes : (b : Bool) (f : Fault) (y : Result Record Fault) (r : Record) → pick b y (Err f) ≡ Ok r → (b ≡ true) × (y ≡ Ok r)
passed_yes true f y r e = (refl, e)
passed_yes false f y r e = let z : ◌≡◌ {A = ℕ} 0 1 = cc in absurd (omega arith)

inner : (a b : Record) → ◌≡◌ {A = Result Record Fault} (Ok a) (Ok b) → a ≡ b
inner a b e = cc

-- the record that `framed_of` makes
abbrev made : ℕ → Kind → ℕ → ℕ → ℕ → Record
made byte kind number head size =
    record { byte = byte; content = content_of kind.content; protected = kind.protected; number = number; start = 0; head = head; size = size; used = head + size }

framed_sound : (byte : ℕ) (kind : Kind) (number head size left : ℕ) (r : Record) → framed_of byte kind number head size left ≡ Ok r → (0 < size) × (size ≤ left) × (made byte kind number head size ≡ r)
unfolding framed_of
framed_sound byte kind number head size left r e =
    let full : Result Record Fault = Ok (made byte kind number head size) in
    let one = passed_no (eqb size 0) F.Fragment (pick (ltb left size) (Err F.Fragment) full) r e in
    let two = passed_no (ltb left size) F.Fragment full r one.1 in
    (omega (arith, eqb-false size 0 one.0), ltb-false left size two.0, inner (made byte kind number head size) r two.1)

read_sound : (s : List ℕ) (byte : ℕ) (kind : Kind) (r : Record) → read_as s byte kind ≡ Ok r → (sound_kind kind ≡ true) × (head_of kind ≤ length s) × (framed_of byte kind (pair_at s 1) (head_of kind) (size_of s kind) (length s - head_of kind) ≡ Ok r)
unfolding read_as
read_sound s byte kind r e =
    let rest : Result Record Fault = framed_of byte kind (pair_at s 1) (head_of kind) (size_of s kind) (length s - head_of kind) in
    let one = passed_yes (sound_kind kind) F.Kind (pick (ltb (length s) (head_of kind)) (Err F.Header) rest) r e in
    let two = passed_no (ltb (length s) (head_of kind)) F.Header rest r one.1 in
    (one.0, ltb-false (length s) (head_of kind) two.0, two.1)

pub stands : (s : List ℕ) (r : Record) → read_of s ≡ Ok r → Stands s r
unfolding read_of
stands s r e =
    let byte : ℕ = get_or s 0 0 in
    let kind : Kind = kind_of byte in
    let one = passed_no (eqb (length s) 0) F.Header (read_as s byte kind) r e in
    let two = read_sound s byte kind r one.1 in
    let three = framed_sound byte kind (pair_at s 1) (head_of kind) (size_of s kind) (length s - head_of kind) r two.2 in
    let same : made byte kind (pair_at s 1) (head_of kind) (size_of s kind) ≡ r = three.2 in
    rw (sym same) (record { kind = two.0; byte = refl; content = refl; protected = refl; number = refl; start = refl; head = refl; size = refl; used = refl; inside = omega (arith, two.1, three.1); some = three.0 })

-- a record takes at least one byte, and none past the end
pub takes : (s : List ℕ) (r : Record) → read_of s ≡ Ok r → (0 < r.used) × (r.used ≤ length s)
takes s r e = let h : Stands s r = stands s r e in (omega (arith, h.some, h.used), h.inside)
