-- The ways to a reason, each as an equation with the definition: the tests on the way, and what the calls gave.
use mathlib.Core.Path.{◌≡◌, sym, ◌∙◌, ap}
use mathlib.Core.Bool.{Bool, true, false}
use mathlib.Core.List.{List}
use Prim.Native.Nat.{ℕ, ◌+◌, ◌-◌}
use native.Mathlib.Omega.{arith}
use lib.ListN.{length, take, drop}
use Rattle.digest.specs.Mac.{size_of}
use Rattle.digest.proofs.Picks.{pick_yes, pick_no}
use Rattle.message.specs.declared.hello.Field.{Field}
use Rattle.record.specs.declared.reader.Record.{Record}
use Rattle.connection.specs.Judge.{fragment_of, kind_in}
use Rattle.connection.specs.Point.{point_of}
use Rattle.connection.specs.declared.asked.Whom.{Whom}
use Rattle.connection.specs.declared.handshake.Handshake.{Handshake}
use Rattle.connection.specs.declared.connection.Connection.{Connection}
use Rattle.connection.specs.declared.point.Point.{Point}
use Rattle.why.specs.Contents.{first_of, second_of, bad_protected}
use Rattle.why.specs.Hello.{field_of}
use Rattle.why.specs.Opening.{under_of}
use Rattle.why.specs.Why.{is_hello, malformed_by, is_edition, why_taken, why_whole, why_of}
use Rattle.why.specs.declared.reason.Under.{Under}
use Rattle.why.specs.declared.reason.Reason.{Reason}
use Rattle.why.specs.declared.reason.Reason.TheVariants as R
use Rattle.why.specs.declared.reason.Why.{Why}

-- the part of a datagram that a record's fragment is
pub fragment_is : (d : List ℕ) (r : Record) → take (r.start + r.head + r.size - (r.start + r.head)) (drop (r.start + r.head) d) ≡ fragment_of d r
fragment_is d r =
    let at = r.start + r.head in
    let back : at + r.size - at ≡ r.size = omega arith in
    ap (λ n. take n (drop at d)) back

module _ (asked : Handshake) (whom : Whom) (d : List ℕ) (r : Record) (fragment : List ℕ) (is : fragment ≡ fragment_of d r) where
  pub malformed_protected : (under : Under) (code : ℕ) (m : List ℕ) (x : Reason) → r.protected ≡ true → under ≡ under_of whom
      → code ≡ size_of asked.protection.keys.mac → m ≡ take (length fragment - code) fragment
      → x ≡ bad_protected under r.number r.content m → x ≡ malformed_by asked whom d r
  unfolding malformed_by
  malformed_protected under code m x p u s e f =
      let m-is : m ≡ take (length (fragment_of d r) - size_of asked.protection.keys.mac) (fragment_of d r)
      = e ∙ (λ i. take (length (is i) - s i) (is i)) in
      pick_yes Reason x _ _ r.protected p (f ∙ (λ i. bad_protected (u i) r.number r.content (m-is i)))

  pub malformed_hello : (b : Bool) (field : Field) → r.protected ≡ false → b ≡ is_hello (kind_in d r) → b ≡ true → field ≡ field_of fragment
      → R.BadHello field ≡ malformed_by asked whom d r
  unfolding malformed_by
  malformed_hello b field p e t f =
      pick_no Reason _ _ _ r.protected p
      (pick_yes Reason _ _ _ (is_hello (kind_in d r)) (sym e ∙ t) (ap R.BadHello (f ∙ ap field_of is)))

  pub malformed_clear : (b : Bool) (one two : ℕ) → r.protected ≡ false → b ≡ is_hello (kind_in d r) → b ≡ false
      → one ≡ first_of r.content fragment → two ≡ second_of r.content fragment
      → R.BadClear (length fragment) one two ≡ malformed_by asked whom d r
  unfolding malformed_by
  malformed_clear b one two p e t f g =
      pick_no Reason _ _ _ r.protected p
      (pick_no Reason _ _ _ (is_hello (kind_in d r)) (sym e ∙ t)
      (λ i. R.BadClear (length (is i)) ((f ∙ ap (first_of r.content) is) i) ((g ∙ ap (second_of r.content) is) i)))

module _ (edition : ℕ) (c : Connection) (d random : List ℕ) (index : ℕ) (w : Why) where
  pub why_unknown : is_edition edition ≡ false → w ≡ why_whole c R.Argument → w ≡ why_of edition c d random index
  unfolding why_of
  why_unknown k e = pick_no Why w _ _ (is_edition edition) k e

  pub why_known : (p : Point) → is_edition edition ≡ true → p ≡ point_of c d random index → w ≡ why_taken p d index p.taken
      → w ≡ why_of edition c d random index
  unfolding why_of
  why_known p k is e =
      pick_yes Why w _ _ (is_edition edition) k (e ∙ ap (λ (x : Point). why_taken x d index x.taken) is)
