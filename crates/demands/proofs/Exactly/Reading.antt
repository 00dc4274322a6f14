-- One record at a place of a datagram, byte by byte. The idea: what the reader tests of the part where the record
-- begins are the bytes of the datagram from there on.
use mathlib.Core.Path.{◌≡◌, refl, ap, ap₂, ◌∙◌}
use mathlib.Core.Logic.{◌⊎◌, inl, inr}
use mathlib.Core.Bool.{Bool, true, false}
use mathlib.Core.List.{List}
use Prim.Native.Nat.{ℕ, ◌+◌, ◌-◌, ◌*◌, ◌≤◌, ◌<◌}
use native.Mathlib.Omega.{arith}
use lib.ListN.{length, get_or, drop, length-drop}
use lib.Seq.{get_or-drop}
use lib.Dec.{eqb, ltb, leb}
use borrow.Author.Tests.{eq-eqb, ne_eqb, le-ltb, lt-ltb, le-leb, lt-leb, ltb-true, ltb-false, eqb-true, eqb-false, leb-true, leb-false}
use Rattle.digest.specs.Pick.{pick}
use Rattle.record.specs.Header.{bit, kind_of, sound_kind, content_of}
use Rattle.record.specs.Reader.{read_of, read_as, framed_of, head_of, size_of, pair_at}
use Rattle.record.specs.declared.header.Kind.{Kind}
use Rattle.record.specs.declared.reader.Record.{Record}
use Rattle.record.specs.declared.reader.Fault.TheVariants as F
use Rattle.demands.specs.Exactly.Whole.{type_at, long_at, numbered_at, reserved_at, content_at, head_at, size_at, WrongType, RightType, HeaderPasses, WrongFragment, SoundAt}
use Rattle.demands.proofs.Exactly.Reasons.{decide}
use Rattle.std.specs.Prelude.{Err, Ok}

-- ---- the reader's tests, over the part alone

abbrev kind_at : List ℕ → Kind
kind_at s = kind_of (get_or s 0 0)

-- the record that is read
abbrev pub made_of : List ℕ → Record
made_of s =
    record {
      byte = get_or s 0 0;
      content = content_of (kind_at s).content;
      protected = (kind_at s).protected;
      number = pair_at s 1;
      start = 0;
      head = head_of (kind_at s);
      size = size_of s (kind_at s);
      used = head_of
          (kind_at s) + size_of s (kind_at s);
    }

module _ (s : List ℕ) (some : 0 < length s) where
  part_type : sound_kind (kind_at s) ≡ false → read_of s ≡ Err F.Kind
  unfolding read_of read_as
  part_type k = rw (ne_eqb (length s) 0 (λ e. omega arith), k) refl

  part-head : sound_kind (kind_at s) ≡ true → length s < head_of (kind_at s) → read_of s ≡ Err F.Header
  unfolding read_of read_as
  part-head k l = rw (ne_eqb (length s) 0 (λ e. omega arith), k, lt-ltb (length s) (head_of (kind_at s)) l) refl

  part-empty : sound_kind (kind_at s) ≡ true → head_of (kind_at s) ≤ length s → size_of s (kind_at s) ≡ 0
      → read_of s ≡ Err F.Fragment
  unfolding read_of read_as framed_of
  part-empty k l z =
      rw (
        ne_eqb (length s) 0 (λ e. omega arith),
        k,
        le-ltb (length s) (head_of (kind_at s)) l,
        eq-eqb
            (size_of s (kind_at s)) 0 z,
      ) refl

  part_past : sound_kind (kind_at s) ≡ true → head_of (kind_at s) ≤ length s → 0 < size_of s (kind_at s)
      → length s < head_of (kind_at s) + size_of s (kind_at s) → read_of s ≡ Err F.Fragment
  unfolding read_of read_as framed_of
  part_past k l z p =
      let h : ℕ = head_of (kind_at s) in
      let n : ℕ = size_of s (kind_at s) in
      rw (
        ne_eqb (length s) 0 (λ e. omega arith),
        k,
        le-ltb (length s) h l,
        ne_eqb n 0 (λ e. omega arith),
        lt-ltb
            (length s - h) n (omega arith),
      ) refl

  part_sound : sound_kind (kind_at s) ≡ true → head_of (kind_at s) ≤ length s → 0 < size_of s (kind_at s)
      → head_of (kind_at s) + size_of s (kind_at s) ≤ length s → read_of s ≡ Ok (made_of s)
  unfolding read_of read_as framed_of
  part_sound k l z p =
      let h : ℕ = head_of (kind_at s) in
      let n : ℕ = size_of s (kind_at s) in
      rw (
        ne_eqb (length s) 0 (λ e. omega arith),
        k,
        le-ltb (length s) h l,
        ne_eqb n 0 (λ e. omega arith),
        le-ltb
            (length s - h) n (omega arith),
      ) refl

-- ---- the type byte

-- 3, over its parts
tested : Bool → Bool → ℕ → Bool
tested numbered reserved content = pick numbered
    (pick reserved false (pick (leb 1 content) (leb content 4) false)) false

tested-right : (numbered reserved : Bool) (content : ℕ) → reserved ≡ false → numbered ≡ true → 1 ≤ content → content ≤ 4
    → tested numbered reserved content ≡ true
unfolding tested
tested-right numbered reserved content r n a b = rw (n, r, le-leb 1 content a, le-leb content 4 b) refl

tested-reserved : (numbered reserved : Bool) (content : ℕ) → reserved ≡ true → tested numbered reserved content ≡ false
unfolding tested
tested-reserved true reserved content r = rw r refl
tested-reserved false reserved content r = refl

tested-unnumbered : (numbered reserved : Bool) (content : ℕ) → numbered ≡ false
    → tested numbered reserved content ≡ false
unfolding tested
tested-unnumbered numbered reserved content n = rw n refl

tested-content : (numbered reserved : Bool) (content : ℕ) → (content ≡ 0) ⊎ (4 < content)
    → tested numbered reserved content ≡ false
unfolding tested
tested-content false reserved content w = refl
tested-content true true content w = refl
tested-content true false content (inl z) = rw (lt-leb 1 content (omega arith)) refl
tested-content true false content (inr l) = rw (le-leb 1 content (omega arith), lt-leb content 4 l) refl

long_of : (byte : ℕ) → (kind_of byte).long ≡ bit 0 byte
unfolding kind_of
long_of byte = refl

module _ (d : List ℕ) (at : ℕ) where
  abbrev part : List ℕ
  part = drop at d

  pub byte-is : get_or part 0 0 ≡ type_at d at
  byte-is = let z : at + 0 ≡ at = omega arith in get_or-drop at d 0 0 ∙ ap (λ n. get_or d n 0) z

  kind-is : kind_at part ≡ kind_of (type_at d at)
  kind-is = ap kind_of byte-is

  sound-is : sound_kind (kind_of (type_at d at)) ≡ tested (numbered_at d at) (reserved_at d at) (content_at d at)
  unfolding sound_kind kind_of tested
  sound-is = refl

  right-type : RightType d at → sound_kind (kind_at part) ≡ true
  right-type (r, n, a, b) =
      ap sound_kind kind-is ∙ sound-is ∙ tested-right (numbered_at d at) (reserved_at d at) (content_at d at) r n a b

  pub wrong_type : WrongType d at → sound_kind (kind_at part) ≡ false
  wrong_type w = ap sound_kind kind-is ∙ sound-is ∙ go w
    where
      go : WrongType d at → tested (numbered_at d at) (reserved_at d at) (content_at d at) ≡ false
      go (inl r) = tested-reserved (numbered_at d at) (reserved_at d at) (content_at d at) r
      go (inr (inl n)) = tested-unnumbered (numbered_at d at) (reserved_at d at) (content_at d at) n
      go (inr (inr c)) = tested-content (numbered_at d at) (reserved_at d at) (content_at d at) c

  -- one or the other
  pub by-type : {P : Type 0} → (WrongType d at → P) → (RightType d at → P) → P
  by-type bad good =
      decide (reserved_at d at) (λ r. bad (inl r))
      (λ r. decide (numbered_at d at)
      (λ n. decide (leb 1 (content_at d at))
      (λ a. decide (leb (content_at d at) 4) (λ b. good
      (r, n, leb-true 1 (content_at d at) a, leb-true (content_at d at) 4 b))
      (λ b. bad (inr (inr (inr (leb-false (content_at d at) 4 b))))))
      (λ a. bad (inr (inr (inl (omega (arith, leb-false 1 (content_at d at) a)))))))
      (λ n. bad (inr (inl n))))

  -- the header and the fragment
  long_is : (kind_at part).long ≡ long_at d at
  long_is = ap (λ k. k.long) kind-is ∙ long_of (type_at d at)

  pub head-is : head_of (kind_at part) ≡ head_at d at
  head-is = ap (λ b. pick b 5 3) long_is

  left_is : length part ≡ length d - at
  left_is = length-drop at d

  pair_is : pair_at part 3 ≡ pair_at d (at + 3)
  pair_is =
      let four : at + 4 ≡ at + 3 + 1 = omega arith in
      ap₂ (λ x y. x * 256 + y) (get_or-drop at d 3 0) (get_or-drop at d 4 0 ∙ ap (λ n. get_or d n 0) four)

  pub number_is : pair_at part 1 ≡ pair_at d (at + 1)
  number_is =
      let two : at + 2 ≡ at + 1 + 1 = omega arith in
      ap₂ (λ x y. x * 256 + y) (get_or-drop at d 1 0) (get_or-drop at d 2 0 ∙ ap (λ n. get_or d n 0) two)

  pub size_is : size_of part (kind_at part) ≡ size_at d at
  size_is =
      let rest : length part - 3 ≡ length d - (at + 3) = omega (arith, left_is) in
      (λ i. pick (long_is i) (pair_is i) (rest i))

  -- ---- the record there

  module _ (begins : at < length d) where
    some_left : 0 < length part
    some_left = omega (arith, left_is)

    pub read-type : WrongType d at → read_of part ≡ Err F.Kind
    read-type w = part_type part some_left (wrong_type w)

    pub read_head : RightType d at → HeaderPasses d at → read_of part ≡ Err F.Header
    read_head r p = part-head part some_left (right-type r) (omega (arith, left_is, head-is))

    pub read-fragment : RightType d at → at + head_at d at ≤ length d → WrongFragment d at
        → read_of part ≡ Err F.Fragment
    read-fragment r l (inl z) = part-empty part some_left (right-type r) (omega (arith, left_is, head-is)) (size_is ∙ z)
    read-fragment r l (inr p) =
        decide (eqb (size_at d at) 0)
        (λ e. part-empty part some_left (right-type r) (omega (arith, left_is, head-is))
        (size_is ∙ eqb-true (size_at d at) 0 e))
        (λ e.
        part_past part some_left (right-type r) (omega (arith, left_is, head-is))
        (omega (arith, size_is, eqb-false (size_at d at) 0 e))
        (omega (arith, left_is, head-is, size_is)))

    pub read_sound : RightType d at → at + head_at d at ≤ length d → 0 < size_at d at
        → at + head_at d at + size_at d at ≤ length d
        → read_of part ≡ Ok (made_of part)
    read_sound r l z p =
        part_sound part some_left (right-type r) (omega (arith, left_is, head-is)) (omega (arith, size_is))
        (omega (arith, left_is, head-is, size_is))

    pub used-is : (made_of part).used ≡ head_at d at + size_at d at
    used-is = ap₂ (λ x y. x + y) head-is size_is

    -- what the record there is, with the bytes that say so
    pub by-record : {P : Type 0} → (WrongType d at → P) → (RightType d at → HeaderPasses d at → P)
        → (RightType d at → at + head_at d at ≤ length d → WrongFragment d at → P) → (SoundAt d at → P) → P
    by-record three two four sound =
        by-type three
        (λ r. decide (ltb (length d) (at + head_at d at)) (λ e. two r (ltb-true (length d) (at + head_at d at) e))
        (λ e. decide (eqb (size_at d at) 0) (λ z. four r (ltb-false (length d) (at + head_at d at) e)
        (inl (eqb-true (size_at d at) 0 z)))
        (λ z. decide (ltb (length d) (at + head_at d at + size_at d at))
        (λ p. four r (ltb-false (length d) (at + head_at d at) e)
        (inr (ltb-true (length d) (at + head_at d at + size_at d at) p)))
        (λ p. sound (record {
          begins = begins;
          right = r;
          head = ltb-false (length d) (at + head_at d at) e;
          some = omega (arith, eqb-false (size_at d at) 0 z);
          inside = ltb-false (length d) (at + head_at d at + size_at d at) p;
        })))))
