-- What is written of entries is walked to its end, and the same entries stand in it: by what is left of the list after each
-- part of an entry.
use mathlib.Core.Path.{◌≡◌, refl, sym, ◌∙◌, ap, subst}
use mathlib.Core.List.{List, [], ◌∷◌, ◌++◌, append_assoc}
use mathlib.Core.Bool.{true}
use Prim.Native.Nat.{ℕ, zero, suc, ◌+◌, ◌*◌, ◌/◌, ◌%◌, ◌≤◌, ◌<◌}
use native.Mathlib.Omega.{arith}
use lib.ListN.{length, get_or, length-append}
use lib.Dec.{leb, ltb}
use borrow.Author.Tests.{lt-ltb, le-ltb, leb-true, ltb-true, eq-eqb, ne_eqb, eqb-true}
use Rattle.digest.specs.Bytes.{bytes2}
use Rattle.message.specs.Field.{field_end, short_end, long_end, two_at, part_of, short, long, both}
use Rattle.message.specs.Keys.{specifier_end, identifier_end, entry_end, entries_from, key_list}
use Rattle.message.specs.Set.{ParameterSet, set_bytes, set_allowed, set_sound, set_in}
use Rattle.message.specs.Entry.{Identifier, null, text, binary, hash, x509, Parameters, indexed, explicit, Entry, identifier_bytes, parameters_bytes, entry_bytes, list_bytes, name_allowed, identifier_allowed, parameters_allowed, list_allowed, identifier_at, parameters_at, entry_at, entries_at, entries_in}
use Rattle.message.proofs.Rests as rests
use Rattle.message.proofs.Rests.{rest_byte, front_end, front_part, front_rest, short_end_lem, short_part, long_end_lem, long_part}
use Rattle.message.proofs.Fields.{both_split}
use Rattle.message.proofs.SetsWritten.{set_written}

-- a name that is allowed
name_floor : (name : List ℕ) → name_allowed name ≡ true → 1 ≤ length name
name_floor name h = leb-true 1 (length name) (both_split (leb 1 (length name)) _ h).0

name_ceiling : (name : List ℕ) → name_allowed name ≡ true → length name ≤ 255
name_ceiling name h = leb-true (length name) 255 (both_split (leb 1 (length name)) _ h).1

-- an identifier that stands at a place: where it ends, and that it is the one found there
pub record IdentifierIs (s : List ℕ) (a : ℕ) (i : Identifier) : Type 0 where
  pub ends : identifier_end s a ≡ a + length (identifier_bytes i)
  pub is : identifier_at s a ≡ i

module _ (s : List ℕ) (a : ℕ) (l : List ℕ) where
  -- by its type: the end that the walk has for it, and what is found up to an end
  is_as : (i : Identifier) (f : ℕ → Identifier) (e : ℕ) → identifier_end s a ≡ e → e ≡ a + length (identifier_bytes i)
      → identifier_at s a ≡ f (identifier_end s a) → f e ≡ i → IdentifierIs s a i
  is_as i f e p q r t = record { ends = p ∙ q; is = r ∙ ap f p ∙ t }

  null_is : rests.Rest s a (0 ∷ l) → IdentifierIs s a null
  unfolding identifier_end identifier_at identifier_bytes
  null_is w =
      let y = rest_byte s a 0 l w in
      record {
        ends = rw (lt-ltb a (length s) (omega (arith, w.size)), y) refl;
        is = rw y refl;
      }

  text_is : (set : ℕ) (name : List ℕ) → set < 65536 → name_allowed name ≡ true
      → rests.Rest s a (1 ∷ ((bytes2 set ++ short name) ++ l)) → IdentifierIs s a (text set name)
  unfolding identifier_end identifier_at identifier_bytes
  text_is set name small h w =
      let y = rest_byte s a 1 ((bytes2 set ++ short name) ++ l) w in
      let r1 = front_rest s a 1 (1 ∷ []) (set / 256 % 256 ∷ (set % 256 ∷ (short name ++ l))) w refl in
      let r2 = front_rest s a 2 (1 ∷ set / 256 % 256 ∷ []) (set % 256 ∷ (short name ++ l)) w refl in
      let r3 = front_rest s a 3 (1 ∷ bytes2 set) (short name ++ l) w refl in
      let e : short_end 1 255 s (a + 3) ≡ a + 3 + 1 + length name =
      short_end_lem 1 255 s (a + 3) name l r3 (name_floor name h) (name_ceiling name h) in
      let z : a + 1 + 1 ≡ a + 2 = omega arith in
      let t : two_at s (a + 1) ≡ set =
      ap (λ (k : ℕ). get_or s (a + 1) 0 * 256 + get_or s k 0) z
      ∙ omega (arith, rest_byte s (a + 1) (set / 256 % 256) (set % 256 ∷ (short name ++ l)) r1, rest_byte s (a + 2) (set % 256) (short name ++ l) r2) in
      let q : a + 3 + 1 ≡ a + 4 = omega arith in
      let n : part_of s (a + 4) (a + 3 + 1 + length name) ≡ name =
      ap (λ (k : ℕ). part_of s k (a + 3 + 1 + length name)) (sym q) ∙ short_part 1 255 s (a + 3) name l r3 in
      let p : identifier_end s a ≡ short_end 1 255 s (a + 3) = rw (lt-ltb a (length s) (omega (arith, w.size)), y) refl in
      is_as (text set name) (λ k. text (two_at s (a + 1)) (part_of s (a + 4) k)) (a + 3 + 1 + length name) (p ∙ e) (omega arith) (rw y refl)
      (λ i. text (t i) (n i))

  hash_is : (key : List ℕ) → length key ≡ 20 → rests.Rest s a (254 ∷ (key ++ l)) → IdentifierIs s a (hash key)
  unfolding identifier_end identifier_at identifier_bytes
  hash_is key h w =
      let y = rest_byte s a 254 (key ++ l) w in
      let r1 = front_rest s a 1 (254 ∷ []) (key ++ l) w refl in
      let e : field_end s (a + 1) 20 ≡ a + 1 + 20 = front_end s (a + 1) 20 key l r1 h in
      let p : identifier_end s a ≡ field_end s (a + 1) 20 = rw (lt-ltb a (length s) (omega (arith, w.size)), y) refl in
      is_as (hash key) (λ k. hash (part_of s (a + 1) k)) (a + 1 + 20) (p ∙ e) (omega arith) (rw y refl)
      (ap hash (front_part s (a + 1) 20 key l r1 h))

  -- binary and x509_name
  module _ (kind : ℕ) (name : List ℕ) (h : name_allowed name ≡ true) (w : rests.Rest s a (kind ∷ (short name ++ l))) where
    opaque_end : short_end 1 255 s (a + 1) ≡ a + 1 + 1 + length name
    opaque_end =
        short_end_lem 1 255 s (a + 1) name l (front_rest s a 1 (kind ∷ []) (short name ++ l) w refl) (name_floor name h) (name_ceiling name h)

    opaque_part : part_of s (a + 2) (a + 1 + 1 + length name) ≡ name
    opaque_part =
        let q : a + 1 + 1 ≡ a + 2 = omega arith in
        ap (λ (k : ℕ). part_of s k (a + 1 + 1 + length name)) (sym q)
        ∙ short_part 1 255 s (a + 1) name l (front_rest s a 1 (kind ∷ []) (short name ++ l) w refl)

  binary_is : (name : List ℕ) → name_allowed name ≡ true → rests.Rest s a (2 ∷ (short name ++ l)) → IdentifierIs s a (binary name)
  unfolding identifier_end identifier_at identifier_bytes
  binary_is name h w =
      let y = rest_byte s a 2 (short name ++ l) w in
      let p : identifier_end s a ≡ short_end 1 255 s (a + 1) = rw (lt-ltb a (length s) (omega (arith, w.size)), y) refl in
      is_as (binary name) (λ k. binary (part_of s (a + 2) k)) (a + 1 + 1 + length name) (p ∙ opaque_end 2 name h w) (omega arith) (rw y refl)
      (ap binary (opaque_part 2 name h w))

  x509_is : (name : List ℕ) → name_allowed name ≡ true → rests.Rest s a (255 ∷ (short name ++ l)) → IdentifierIs s a (x509 name)
  unfolding identifier_end identifier_at identifier_bytes
  x509_is name h w =
      let y = rest_byte s a 255 (short name ++ l) w in
      let p : identifier_end s a ≡ short_end 1 255 s (a + 1) = rw (lt-ltb a (length s) (omega (arith, w.size)), y) refl in
      is_as (x509 name) (λ k. x509 (part_of s (a + 2) k)) (a + 1 + 1 + length name) (p ∙ opaque_end 255 name h w) (omega arith) (rw y refl)
      (ap x509 (opaque_part 255 name h w))

  identifier_is : (i : Identifier) → identifier_allowed i ≡ true → rests.Rest s a (identifier_bytes i ++ l) → IdentifierIs s a i
  unfolding identifier_bytes identifier_allowed
  identifier_is null h w = null_is w
  identifier_is (text set name) h w =
      let p = both_split (ltb set 65536) _ h in
      text_is set name (ltb-true set 65536 p.0) p.1 w
  identifier_is (binary name) h w = binary_is name h w
  identifier_is (hash key) h w = hash_is key (eqb-true (length key) 20 h) w
  identifier_is (x509 name) h w = x509_is name h w

-- a parameter specifier likewise
pub record ParametersAre (s : List ℕ) (a suite : ℕ) (p : Parameters) : Type 0 where
  pub ends : specifier_end s a suite ≡ a + length (parameters_bytes p)
  pub are : parameters_at s a suite ≡ p

module _ (s : List ℕ) (a suite : ℕ) (l : List ℕ) where
  indexed_are : (index : ℕ) → index < 255 → rests.Rest s a (index ∷ l) → ParametersAre s a suite (indexed index)
  unfolding specifier_end parameters_at parameters_bytes
  indexed_are index h w =
      let y = rest_byte s a index l w in
      let n = ne_eqb index 255 (λ q. omega arith) in
      record {
        ends = rw (lt-ltb a (length s) (omega (arith, w.size)), y, n) refl;
        are = rw (y, n) refl;
      }

  explicit_are : (set : ParameterSet) → set_allowed suite set ≡ true → length (set_bytes set) < 65536
      → rests.Rest s a (255 ∷ (long (set_bytes set) ++ l)) → ParametersAre s a suite (explicit set)
  unfolding specifier_end parameters_at parameters_bytes
  explicit_are set g h w =
      let x = set_bytes set in
      let y = rest_byte s a 255 (long x ++ l) w in
      let r1 = front_rest s a 1 (255 ∷ []) (long x ++ l) w refl in
      let e : long_end s (a + 1) ≡ a + 1 + 2 + length x = long_end_lem s (a + 1) x l r1 h in
      let q : a + 1 + 2 ≡ a + 3 = omega arith in
      let n : part_of s (a + 3) (long_end s (a + 1)) ≡ x =
      ap (λ (k : ℕ). part_of s (a + 3) k) e
      ∙ ap (λ (k : ℕ). part_of s k (a + 1 + 2 + length x)) (sym q)
      ∙ long_part s (a + 1) x l r1 in
      let v = set_written suite set g in
      let u : set_sound suite (part_of s (a + 3) (long_end s (a + 1))) ≡ true = ap (set_sound suite) n ∙ v.0 in
      let p : specifier_end s a suite ≡ long_end s (a + 1) = rw (lt-ltb a (length s) (omega (arith, w.size)), y, u) refl in
      let z : a + 1 + 2 + length x ≡ a + length (255 ∷ long x) = omega arith in
      let f : parameters_at s a suite ≡ explicit (set_in suite (part_of s (a + 3) (long_end s (a + 1)))) = rw y refl in
      record { ends = p ∙ e ∙ z; are = f ∙ ap (λ (k : List ℕ). explicit (set_in suite k)) n ∙ ap explicit v.1 }

  parameters_are : (p : Parameters) → parameters_allowed suite p ≡ true → rests.Rest s a (parameters_bytes p ++ l) → ParametersAre s a suite p
  unfolding parameters_bytes parameters_allowed
  parameters_are (indexed index) h w = indexed_are index (ltb-true index 255 h) w
  parameters_are (explicit set) h w =
      let p = both_split (set_allowed suite set) _ h in
      explicit_are set p.0 (ltb-true (length (set_bytes set)) 65536 p.1) w

-- an entry
pub record EntryIs (s : List ℕ) (a : ℕ) (e : Entry) (l : List ℕ) : Type 0 where
  pub ends : entry_end s a ≡ a + length (entry_bytes e)
  pub is : entry_at s a ≡ e
  pub rest : rests.Rest s (a + length (entry_bytes e)) l
  pub some : 1 ≤ length (entry_bytes e)

parameters_some : (p : Parameters) → 1 ≤ length (parameters_bytes p)
unfolding parameters_bytes
parameters_some (indexed index) = omega arith
parameters_some (explicit set) = omega arith

entry_is : (s : List ℕ) (a : ℕ) (e : Entry) (l : List ℕ) → parameters_allowed e.suite e.parameters ≡ true
    → identifier_allowed e.identifier ≡ true
    → rests.Rest s a (entry_bytes e ++ l) → EntryIs s a e l
unfolding entry_end entry_bytes
entry_is s a e l g h w =
    let ps = parameters_bytes e.parameters in
    let is = identifier_bytes e.identifier in
    let y = rest_byte s a e.suite ((ps ++ is) ++ l) w in
    let r1 : rests.Rest s (a + 1) ((ps ++ is) ++ l) = front_rest s a 1 (e.suite ∷ []) ((ps ++ is) ++ l) w refl in
    let r2 : rests.Rest s (a + 1) (ps ++ (is ++ l)) = subst (λ (t : List ℕ). rests.Rest s (a + 1) t) (append_assoc ps is l) r1 in
    let p = parameters_are s (a + 1) e.suite (is ++ l) e.parameters g r2 in
    let r3 : rests.Rest s (a + 1 + length ps) (is ++ l) = front_rest s (a + 1) (length ps) ps (is ++ l) r2 refl in
    let i = identifier_is s (a + 1 + length ps) l e.identifier h r3 in
    let k = length-append ps is in
    let v : specifier_end s (a + 1) (get_or s a 0) ≡ a + 1 + length ps = ap (specifier_end s (a + 1)) y ∙ p.ends in
    let n : a + 1 + length ps ≡ 0 → ⊥ = λ q. omega arith in
    let z : a + 1 + length ps + length is ≡ a + length (e.suite ∷ (ps ++ is)) = omega arith in
    record {
      ends = rw (lt-ltb a (length s) (omega (arith, w.size)), v, ne_eqb (a + 1 + length ps) 0 n) (i.ends ∙ z);
      is = λ j.
          record {
            suite = y j;
            parameters = (ap (parameters_at s (a + 1)) y ∙ p.are) j;
            identifier = (ap (identifier_at s) v ∙ i.is) j;
          };
      rest = front_rest s a (length (e.suite ∷ (ps ++ is))) (e.suite ∷ (ps ++ is)) l w refl;
      some = omega arith;
    }

-- the entries from a place on
list_is : (s : List ℕ) (es : List Entry) (a n : ℕ) → list_allowed es ≡ true → rests.Rest s a (list_bytes es) → length s ≤ a + n
    → (entries_from n s a ≡ true) × (entries_at n s a ≡ es)
unfolding list_bytes list_allowed entries_from entries_at
list_is s [] a zero h w l = (eq-eqb a (length s) (omega (arith, w.size)), refl)
list_is s [] a (suc n) h w l =
    let z : a ≡ length s = omega (arith, w.size) in
    (rw (le-ltb a (length s) (omega arith)) (eq-eqb a (length s) z), rw (le-ltb a (length s) (omega arith)) refl)
list_is s (e ∷ es) a zero h w l =
    let p = both_split (both (parameters_allowed e.suite e.parameters) (identifier_allowed e.identifier)) _ h in
    let q = both_split (parameters_allowed e.suite e.parameters) _ p.0 in
    let i = entry_is s a e (list_bytes es) q.0 q.1 w in
    absurd (omega (arith, i.rest.size, i.some))
list_is s (e ∷ es) a (suc n) h w l =
    let p = both_split (both (parameters_allowed e.suite e.parameters) (identifier_allowed e.identifier)) _ h in
    let q = both_split (parameters_allowed e.suite e.parameters) _ p.0 in
    let i = entry_is s a e (list_bytes es) q.0 q.1 w in
    let k : a < length s = omega (arith, i.rest.size, i.some) in
    let b = a + length (entry_bytes e) in
    let more = list_is s es b n p.1 i.rest (omega (arith, i.some)) in
    let z : b ≡ 0 → ⊥ = λ j. omega (arith, i.some) in (
      rw (lt-ltb a (length s) k, i.ends, ne_eqb b 0 z) more.0,
      rw (lt-ltb a (length s) k, i.ends) (λ j. i.is j ∷ more.1 j),
    )

-- what is written of entries is a list, and the entries stand in it
pub list_written : (es : List Entry) → list_allowed es ≡ true
    → (key_list (list_bytes es) ≡ true) × (entries_in (list_bytes es) ≡ es)
unfolding key_list entries_in
list_written es h =
    list_is (list_bytes es) es 0 (length (list_bytes es)) h (record { from = refl; size = omega arith }) (omega arith)
