-- Parts of lists, the rule of a record, and the size of a ServerHello that is agreed on.
use mathlib.Core.Path.{◌≡◌, refl, sym, ◌∙◌, ap}
use mathlib.Core.List.{List, [], ◌∷◌}
use Prim.Native.Nat.{ℕ, zero, suc, ◌+◌, ◌-◌, ◌≤◌}
use native.Mathlib.Omega.{arith}
use lib.ListN.{length, take, drop, get_or}
use lib.Seq.{take-nil}
use Rattle.record.specs.declared.reader.Record.{Record}
use Rattle.message.specs.Agreement.{agreement_of, agreed_as}
use Rattle.message.specs.ServerHello.{server_read}
use Rattle.message.specs.declared.acceptance.Plan.{Plan}
use Rattle.message.specs.declared.agreement.Disagreed.TheVariants as G
use Rattle.message.specs.declared.offer.Offer.{Offer}
use Rattle.message.proofs.ServerHellos.{formed}
use Rattle.connection.specs.Judge.{fragment_of}
use Rattle.unit.specs.State.{kind_of, rule_of}
use Rattle.unit.specs.Judge.{judged_record, ruled_by, kind_in}
use Rattle.unit.specs.declared.state.Kind.{Kind}
use Rattle.unit.specs.declared.state.Rule.{Rule}
use Rattle.unit.specs.declared.agree.Judged.{Judged}
use Rattle.unit.specs.declared.unit.Unit.{Unit}
use Rattle.std.specs.Prelude.{None, Ok, Option, Some}

-- a part behind the front of a front
drop_take : (a n : ℕ) (f : List ℕ) → drop a (take n f) ≡ take (n - a) (drop a f)
drop_take zero n f = let e : n ≡ n - 0 = omega arith in ap (λ k. take k f) e
drop_take (suc a) zero f = let e : 0 ≡ 0 - suc a = omega arith in ap (λ k. take k (drop (suc a) f)) e
drop_take (suc a) (suc n) [] = sym (take-nil (suc n - suc a))
drop_take (suc a) (suc n) (x ∷ f) =
    let e : n - a ≡ suc n - suc a = omega arith in drop_take a n f ∙ ap (λ k. take k (drop a f)) e

-- what stands behind the first six bytes
pub later_part : (f : List ℕ) (n m : ℕ) → n ≡ m → take (24 + n - 6) (drop 6 f) ≡ drop 6 (take (24 + m) f)
later_part f n m e = ap (λ k. take (24 + k - 6) (drop 6 f)) e ∙ sym (drop_take 6 (24 + m) f)

-- the rule of a record, from what its fragment is
pub ruled_as : (u : Unit) (d : List ℕ) (r : Record) (f : List ℕ) (kind : Kind) (rule : Rule) (j : Judged)
    → f ≡ fragment_of d r → kind ≡ kind_of r.content r.protected (get_or f 0 0) → rule ≡ rule_of u.state kind
    → j ≡ ruled_by u rule kind r.byte r.number r.start (r.start + r.head) f → j ≡ judged_record u d r
unfolding judged_record
ruled_as u d r f kind rule j ef ek er ej =
    let kind-is : kind ≡ kind_in d r = ek ∙ ap (λ x. kind_of r.content r.protected (get_or x 0 0)) ef in
    let rule-is : rule ≡ rule_of u.state (kind_in d r) = er ∙ ap (rule_of u.state) kind-is in
    ej ∙ (λ i. ruled_by u (rule-is i) (kind-is i) r.byte r.number r.start (r.start + r.head) (ef i))

-- a ServerHello that is agreed on has a whole random
pub agreed_long : (m id : List ℕ) (offer : Offer) (plan : Plan) → agreement_of m id offer ≡ Ok plan → 20 ≤ length m
unfolding agreement_of
agreed_long m id offer plan e = go (server_read m) refl e
  where
    go : (r : Option ℕ) → server_read m ≡ r → agreed_as m id offer r ≡ Ok plan → 20 ≤ length m
    go (Some end) q h = omega (arith, (formed m end q).size)
    go None q h = let z : ◌≡◌ {A = ℕ} 0 1 = cc in absurd (omega arith)
