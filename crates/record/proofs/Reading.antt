-- What a record with a sound type byte and a whole header is read as, by the size of its fragment.
use mathlib.Core.Path.{◌≡◌, sym, ◌∙◌}
use mathlib.Core.Bool.{true}
use mathlib.Core.List.{List}
use Prim.Native.Nat.{ℕ, ◌+◌, ◌-◌, ◌≤◌, ◌<◌}
use native.Mathlib.Omega.{arith}
use lib.ListN.{length}
use borrow.Author.Tests.{eq-eqb, ne_eqb, lt-ltb, le-ltb}
use Rattle.record.specs.Header.{sound_kind, content_of}
use Rattle.record.specs.Reader.{read_as, framed_of, head_of, size_of, pair_at}
use Rattle.record.specs.declared.header.Content.{Content}
use Rattle.record.specs.declared.header.Kind.{Kind}
use Rattle.record.specs.declared.reader.Fault.TheVariants as F
use Rattle.std.specs.Prelude.{Err, Ok}

module _ (s : List ℕ) (byte : ℕ) (kind : Kind) (head size : ℕ) (is : true ≡ sound_kind kind) (h : head ≡ head_of kind)
    (z : size ≡ size_of s kind) (fits : head ≤ length s) where
  framed_as : read_as s byte kind ≡ framed_of byte kind (pair_at s 1) head size (length s - head)
  unfolding read_as
  framed_as = rw (sym is, sym h, sym z, le-ltb (length s) head fits)

  pub empty : size ≡ 0 → Err F.Fragment ≡ read_as s byte kind
  unfolding framed_of
  empty e = sym (framed_as ∙ rw (eq-eqb size 0 e))

  pub past_end : length s - head < size → Err F.Fragment ≡ read_as s byte kind
  unfolding framed_of
  past_end l = sym (framed_as ∙ rw (ne_eqb size 0 (λ e. omega arith), lt-ltb (length s - head) size l))

  pub whole : (content : Content) (number : ℕ) → (size ≡ 0 → ⊥) → size ≤ length s - head → content ≡ content_of kind.content → number ≡ pair_at s 1
      → Ok record { byte = byte; content = content; protected = kind.protected; number = number; start = 0; head = head; size = size; used = head + size } ≡ read_as s byte kind
  unfolding framed_of
  whole content number n l e f =
      sym (framed_as ∙ rw (ne_eqb size 0 n, le-ltb (length s - head) size l, e, f))
