-- The reference that a header of bytes names is a byte.
use mathlib.Core.Path.{◌≡◌, refl}
use mathlib.Core.List.{List, [], ◌∷◌}
use Prim.Native.Nat.{ℕ, zero, suc, ◌+◌, ◌-◌, ◌<◌}
use native.Mathlib.Omega.{arith}
use lib.ListN.{length, get_or, take, drop}
use lib.Dec.{eqb, ltb}
use Rattle.std.specs.Prelude.{Option, Some, None, Result, Ok, Err}
use Rattle.gather.specs.Header.{nothing, element_of, onward, elements_from, walked_of, placed_of, judged_by, heading_by, heading_of}
use Rattle.gather.specs.Map.{Bytes}
use Rattle.gather.proofs.Always.{either_way}
use Rattle.gather.specs.declared.header.Ports.{Ports}
use Rattle.gather.specs.declared.header.Place.{Place}
use Rattle.gather.specs.declared.header.Noted.{Noted}
use Rattle.gather.specs.declared.header.Heading.{Heading}
use Rattle.gather.specs.declared.header.Heading.TheVariants.{Alone, Part}
use Rattle.gather.specs.declared.refusal.Refusal.{Refusal}

front_bytes : (n : ℕ) (s : List ℕ) → Bytes s → Bytes (take n s)
unfolding Bytes
front_bytes zero s b = refl
front_bytes (suc n) [] b = refl
front_bytes (suc n) (x ∷ s) b = (b.0, front_bytes n s b.1)

rest_bytes : (n : ℕ) (s : List ℕ) → Bytes s → Bytes (drop n s)
unfolding Bytes
rest_bytes zero s b = b
rest_bytes (suc n) [] b = refl
rest_bytes (suc n) (x ∷ s) b = rest_bytes n s b.1

get_byte : (s : List ℕ) (i : ℕ) → Bytes s → get_or s i 0 < 256
unfolding Bytes
get_byte [] i b = omega arith
get_byte (x ∷ s) zero b = b.0
get_byte (x ∷ s) (suc i) b = get_byte s i b.1

-- a place that is noted names a byte
pub data SmallPlace : Option Place → Type 0 where
  no_place : SmallPlace None
  place_byte : {p : Place} → p.reference < 256 → SmallPlace (Some p)

pub data Small : Result Noted Refusal → Type 0 where
  no_elements : {refusal : Refusal} → Small (Err refusal)
  a_byte : {n : Noted} → SmallPlace n.place → Small (Ok n)

element_small : (n : Noted) (number : ℕ) (b : List ℕ) → SmallPlace n.place → Bytes b → Small (element_of n number b)
unfolding element_of
element_small n number b h bytes =
    either_way (Result Noted Refusal) Small (eqb number 5) _ _
    (either_way (Result Noted Refusal) Small (eqb (length b) 4) _ _ (a_byte h) no_elements)
    (either_way (Result Noted Refusal) Small (eqb number 0) _ _
    (either_way (Result Noted Refusal) Small (eqb (length b) 3) _ _ (a_byte (place_byte (get_byte b 0 bytes))) no_elements)
    (a_byte h))

onward_small : (w : Result Noted Refusal) (rest : Noted → Result Noted Refusal) → Small w
    → ((n : Noted) → SmallPlace n.place → Small (rest n)) → Small (onward w rest)
onward_small (Err refusal) rest no_elements f = no_elements
onward_small (Ok n) rest (a_byte h) f = f n h

elements_small : (most : ℕ) (n : Noted) (h : List ℕ) → SmallPlace n.place → Bytes h → Small (elements_from most n h)
unfolding elements_from
elements_small zero n h b bytes = either_way (Result Noted Refusal) Small (eqb (length h) 0) _ _ (a_byte b) no_elements
elements_small (suc most) n h b bytes =
    either_way (Result Noted Refusal) Small (eqb (length h) 0) _ _ (a_byte b)
    (either_way (Result Noted Refusal) Small (ltb (length h) 2) _ _ no_elements
    (either_way (Result Noted Refusal) Small (ltb (length h - 2) (get_or h 1 0)) _ _ no_elements
    (onward_small (element_of n (get_or h 0 0) (take (get_or h 1 0) (drop 2 h))) _
    (element_small n (get_or h 0 0) (take (get_or h 1 0) (drop 2 h)) b (front_bytes (get_or h 1 0) (drop 2 h) (rest_bytes 2 h bytes)))
    (λ m c. elements_small most m (drop (2 + get_or h 1 0) h) c (rest_bytes (2 + get_or h 1 0) h bytes)))))

pub data Named : Result Heading Refusal → Type 0 where
  no_heading : {refusal : Refusal} → Named (Err refusal)
  by_itself : {ports : Ports} {start : ℕ} → Named (Ok (Alone ports start))
  one_byte : {ports : Ports} {start : ℕ} {p : Place} → p.reference < 256 → Named (Ok (Part ports start p))

judged_named : (ports : Option Ports) (place : Option Place) (start : ℕ) → SmallPlace place → Named (judged_by ports place start)
unfolding placed_of
judged_named None place start h = no_heading
judged_named (Some ports) None start no_place = by_itself
judged_named (Some ports) (Some p) start (place_byte h) =
    either_way (Result Heading Refusal) Named (ltb 11 p.total) _ _ no_heading
    (either_way (Result Heading Refusal) Named (eqb p.place 0) _ _ no_heading
    (either_way (Result Heading Refusal) Named (ltb p.total p.place) _ _ no_heading
    (either_way (Result Heading Refusal) Named (eqb p.total 1) _ _ by_itself (one_byte h))))

heading_named : (w : Result Noted Refusal) (start : ℕ) → Small w → Named (heading_by w start)
heading_named (Err refusal) start no_elements = no_heading
heading_named (Ok n) start (a_byte h) = judged_named n.ports n.place start h

named : (m : List ℕ) → Bytes m → Named (heading_of m)
unfolding heading_of walked_of
named m bytes =
    either_way (Result Heading Refusal) Named (eqb (length m) 0) _ _ no_heading
    (either_way (Result Heading Refusal) Named (ltb (length m) (get_or m 0 0 + 1)) _ _ no_heading
    (heading_named _ (get_or m 0 0 + 1)
    (elements_small _ nothing (take (get_or m 0 0) (drop 1 m)) no_place (front_bytes (get_or m 0 0) (drop 1 m) (rest_bytes 1 m bytes)))))

byte_of : (ports : Ports) (start : ℕ) (p : Place) → Named (Ok (Part ports start p)) → p.reference < 256
byte_of ports start p (one_byte h) = h

pub reference_byte : (m : List ℕ) (ports : Ports) (start : ℕ) (p : Place) → Bytes m → heading_of m ≡ Ok (Part ports start p) → p.reference < 256
reference_byte m ports start p bytes e = byte_of ports start p (rw e at (named m bytes))
