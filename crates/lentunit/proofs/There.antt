-- Bytes that load are exactly those that saving writes: one unit, one string of bytes.
use mathlib.Core.Path.{◌≡◌, refl, sym, ◌∙◌, ap}
use mathlib.Core.Bool.{Bool, true, false}
use mathlib.Core.List.{List, [], ◌∷◌}
use Prim.Native.Nat.{ℕ, zero, suc}
use native.Mathlib.Omega.{arith}
use lib.ListN.{length, get_or}
use lib.Seq.{take_all}
use lib.Dec.{eqb, ltb}
use borrow.Author.Tests.{eqb-true, ltb-false}
use Rattle.digest.specs.Pick.{pick}
use Rattle.digest.specs.Bytes.{bytes4, word_at}
use Rattle.digest.specs.Mac.{number_of}
use Rattle.digest.specs.declared.mac.Mac.TheVariants.{Sha80, Sha}
use Rattle.lent.specs.Fields.{joined, bytes_in}
use Rattle.lent.specs.Saved.{Bytes, mac_numbered, sent_in}
use Rattle.lent.proofs.Calling.{both_true}
use Rattle.lent.proofs.Numbers.{byte_part, two_there, four_there, eight_there}
use Rattle.lent.proofs.Back.{cuts, total, cut_joined}
use Rattle.unit.specs.declared.unit.Unit.{Unit}
use Rattle.lentunit.specs.Saved.{unit_size, state_place, mark, state_number, kinds_number, unit_fields, saved_of, is_saved, state_numbered, kinds_numbered, keys_in, offer_in, window_in, protection_in, unit_in, Is, No, loaded}
use Rattle.lentunit.proofs.Back.{unit_sizes}

state_there : (n : ℕ) → ltb 7 n ≡ false → state_number (state_numbered n) ≡ n
unfolding state_numbered
state_there zero h = refl
state_there (suc zero) h = refl
state_there (suc (suc zero)) h = refl
state_there (suc (suc (suc zero))) h = refl
state_there (suc (suc (suc (suc zero)))) h = refl
state_there (suc (suc (suc (suc (suc zero))))) h = refl
state_there (suc (suc (suc (suc (suc (suc zero)))))) h = refl
state_there (suc (suc (suc (suc (suc (suc (suc zero))))))) h = refl
state_there (suc (suc (suc (suc (suc (suc (suc (suc n)))))))) h =
    absurd (omega (arith, ltb-false 7 (suc (suc (suc (suc (suc (suc (suc (suc n)))))))) h))

kinds_there : (n : ℕ) → ltb 3 n ≡ false → kinds_number (kinds_numbered n) ≡ n
unfolding kinds_numbered
kinds_there zero h = refl
kinds_there (suc zero) h = refl
kinds_there (suc (suc zero)) h = refl
kinds_there (suc (suc (suc zero))) h = refl
kinds_there (suc (suc (suc (suc n)))) h = absurd (omega (arith, ltb-false 3 (suc (suc (suc (suc n)))) h))

mac_there : (n : ℕ) → pick (eqb n 2) true (eqb n 3) ≡ true → number_of (mac_numbered n) ≡ n
unfolding mac_numbered
mac_there n h = told (eqb n 2) refl h
  where
    told : (t : Bool) → eqb n 2 ≡ t → pick t true (eqb n 3) ≡ true → number_of (pick t Sha80 Sha) ≡ n
    told true e h = sym (eqb-true n 2 e)
    told false e h = sym (eqb-true n 3 h)

unless_true : (t x : Bool) → pick t false x ≡ true → (t ≡ false) × (x ≡ true)
unless_true true x h = (sym h, cc)
unless_true false x h = (refl, h)

-- the tests of a saved unit
record Tested (b : List ℕ) : Type 0 where
  size : length b ≡ unit_size
  marked : word_at b 0 ≡ mark
  state : ltb 7 (get_or b state_place 0) ≡ false
  kinds : ltb 3 (get_or b 115 0) ≡ false
  mac : pick (eqb (get_or b 101 0) 2) true (eqb (get_or b 101 0) 3) ≡ true

tested : (b : List ℕ) → is_saved b ≡ true → Tested b
unfolding is_saved
tested b h =
    let mac = pick (eqb (get_or b 101 0) 2) true (eqb (get_or b 101 0) 3) in
    let kinds = pick (ltb 3 (get_or b 115 0)) false mac in
    let state = pick (ltb 7 (get_or b state_place 0)) false kinds in
    let one = both_true (eqb (length b) unit_size) (pick (eqb (word_at b 0) mark) state false) h in
    let two = both_true (eqb (word_at b 0) mark) state one.1 in
    let three = unless_true (ltb 7 (get_or b state_place 0)) kinds two.1 in
    let four = unless_true (ltb 3 (get_or b 115 0)) mac three.1 in
    record {
      size = eqb-true (length b) unit_size one.0;
      marked = eqb-true (word_at b 0) mark two.0;
      state = three.0;
      kinds = four.0;
      mac = four.1;
    }

there : (b : List ℕ) → Bytes b → Tested b → saved_of (unit_in b) ≡ b
unfolding saved_of unit_in offer_in protection_in keys_in window_in sent_in cuts total
there b all t =
    let room : length b ≡ unit_size = t.size in
    let marked : bytes4 mark ≡ bytes_in b 0 4 = ap bytes4 (sym t.marked) ∙ four_there b 0 all (omega arith) in
    let state : state_number (state_numbered (get_or b 40 0)) ∷ [] ≡ bytes_in b 40 1
    = ap (λ x. x ∷ []) (state_there (get_or b 40 0) t.state) ∙ sym (byte_part b 40 (omega arith)) in
    let mac : number_of (mac_numbered (get_or b 101 0)) ∷ [] ≡ bytes_in b 101 1
    = ap (λ x. x ∷ []) (mac_there (get_or b 101 0) t.mac) ∙ sym (byte_part b 101 (omega arith)) in
    let refresh : get_or b 102 0 ∷ [] ≡ bytes_in b 102 1 = sym (byte_part b 102 (omega arith)) in
    let kinds : kinds_number (kinds_numbered (get_or b 115 0)) ∷ [] ≡ bytes_in b 115 1
    = ap (λ x. x ∷ []) (kinds_there (get_or b 115 0) t.kinds) ∙ sym (byte_part b 115 (omega arith)) in
    let offered : get_or b 116 0 ∷ [] ≡ bytes_in b 116 1 = sym (byte_part b 116 (omega arith)) in
    let width : get_or b 161 0 ∷ [] ≡ bytes_in b 161 1 = sym (byte_part b 161 (omega arith)) in
    let fields : ◌≡◌ {A = List (List ℕ)} (unit_fields (unit_in b)) (cuts unit_sizes 0 b)
    = λ i.
    marked i ∷ four_there b 4 all (omega arith) i ∷ four_there b 8 all (omega arith) i ∷ four_there b 12 all (omega arith) i
    ∷ four_there b 16 all (omega arith) i ∷ four_there b 20 all (omega arith) i ∷ four_there b 24 all (omega arith) i
    ∷ four_there b 28 all (omega arith) i ∷ four_there b 32 all (omega arith) i ∷ four_there b 36 all (omega arith) i
    ∷ state i ∷ bytes_in b 41 8 ∷ bytes_in b 49 20 ∷ bytes_in b 69 16 ∷ bytes_in b 85 16 ∷ mac i ∷ refresh i ∷ bytes_in b 103 12
    ∷ kinds i ∷ offered i ∷ bytes_in b 117 44 ∷ width i ∷ two_there b 162 all (omega arith) i
    ∷ eight_there b 164 all (omega arith) i ∷ four_there b 172 all (omega arith) i ∷ four_there b 176 all (omega arith) i ∷ [] in
    ap joined fields ∙ cut_joined unit_sizes 0 b ∙ take_all unit_size b (omega (arith, room))

is_loaded : (b : List ℕ) (u : Unit) → loaded b ≡ Is u → (is_saved b ≡ true) × (unit_in b ≡ u)
unfolding loaded
is_loaded b u e = told (is_saved b) (unit_in b) u e
  where
    told : (t : Bool) (x u : Unit) → pick t (Is x) No ≡ Is u → (t ≡ true) × (x ≡ u)
    told true x u e = (refl, cc)
    told false x u e = (cc, cc)

pub loads_saved : (b : List ℕ) (u : Unit) → Bytes b → loaded b ≡ Is u → saved_of u ≡ b
loads_saved b u all e =
    let is = is_loaded b u e in
    ap saved_of (sym is.1) ∙ there b all (tested b is.0)
