-- A list of bytes that is walked to its end is the one that is written of its entries: each part of an entry that is there
-- is its bytes, and what is left after it.
use mathlib.Core.Path.{◌≡◌, refl, sym, ◌∙◌, ap, subst}
use mathlib.Core.List.{List, ◌∷◌, ◌++◌, append_assoc}
use mathlib.Core.Bool.{true, false}
use Prim.Native.Nat.{ℕ, zero, suc, ◌+◌, ◌≤◌, ◌<◌}
use native.Mathlib.Omega.{arith}
use lib.ListN.{length, get_or, drop}
use lib.Seq.{drop-length}
use lib.Dec.{ltb, eqb}
use borrow.Author.Tests.{le-leb, lt-ltb, ltb-true, eq-eqb, eqb-true, eqb-false}
use Rattle.message.specs.Field.{field_end, short_end, long_end, two_at, part_of, short, long, both}
use Rattle.message.specs.Keys.{specifier_end, identifier_end, entry_end, entries_from, key_list}
use Rattle.message.specs.Set.{set_bytes, set_sound, set_in}
use Rattle.message.specs.Entry.{Identifier, null, text, binary, hash, x509, Parameters, Entry, identifier_bytes, parameters_bytes, entry_bytes, list_bytes, name_allowed, identifier_allowed, parameters_allowed, list_allowed, identifier_at, parameters_at, entry_at, entries_at, entries_in}
use Rattle.message.proofs.Rests.{ShortThere, short_there, short_size, short_piece, long_at_lem, long_size, long_piece, bytes2_of, piece, piece_size, byte_piece, bytes_part}
use Rattle.message.proofs.Fields.{field_there, by_test, clash, both_true}
use Rattle.message.proofs.SetsRead.{set_read}

name_can : (name : List ℕ) → 1 ≤ length name → length name ≤ 255 → name_allowed name ≡ true
name_can name f g = rw (le-leb 1 (length name) f) (le-leb (length name) 255 g)

-- an identifier that is there: a hello can have it, and its bytes are those that are written of it
pub record IdentifierThere (s : List ℕ) (a e : ℕ) (i : Identifier) : Type 0 where
  pub can : identifier_allowed i ≡ true
  pub laid : drop a s ≡ identifier_bytes i ++ drop e s

module _ (s : List ℕ) (b : (i : ℕ) → get_or s i 0 < 256) (a : ℕ) (l : a < length s) where
  first_byte : (x : ℕ) → get_or s a 0 ≡ x → drop a s ≡ x ∷ drop (a + 1) s
  first_byte x y = byte_piece s a (omega arith) ∙ ap (λ (k : ℕ). k ∷ drop (a + 1) s) y

  null_there : get_or s a 0 ≡ 0 → IdentifierThere s a (a + 1) null
  unfolding identifier_bytes identifier_allowed
  null_there y = record { can = refl; laid = first_byte 0 y }

  hash_there : get_or s a 0 ≡ 254 → (field_end s (a + 1) 20 ≡ 0 → ⊥)
      → IdentifierThere s a (field_end s (a + 1) 20) (hash (part_of s (a + 1) (field_end s (a + 1) 20)))
  unfolding identifier_bytes identifier_allowed
  hash_there y h =
      let w = field_there s (a + 1) 20 h in
      rw w.0 (record {
        can = eq-eqb (length (part_of s (a + 1) (a + 1 + 20))) 20 (piece_size s (a + 1) 20 w.1);
        laid = first_byte 254 y ∙ ap (λ (t : List ℕ). 254 ∷ t) (piece s (a + 1) 20 w.1);
      })

  -- opaque<1..2^8-1> at a place
  module _ (k e : ℕ) (w : ShortThere 1 255 s k e) where
    opaque_can : name_allowed (part_of s (k + 1) e) ≡ true
    opaque_can =
        let n = short_size 1 255 s k e w in
        name_can (part_of s (k + 1) e) (omega (arith, n, w.above)) (omega (arith, n, w.below))

    -- where its contents begin, said otherwise
    opaque_piece : (j : ℕ) → k + 1 ≡ j → (name_allowed (part_of s j e) ≡ true) × (drop k s ≡ short (part_of s j e) ++ drop e s)
    opaque_piece j q =
        subst (λ (x : ℕ). (name_allowed (part_of s x e) ≡ true) × (drop k s ≡ short (part_of s x e) ++ drop e s)) q
        (opaque_can, short_piece 1 255 s k e w)

  name_there : (kind : ℕ) → get_or s a 0 ≡ kind → (short_end 1 255 s (a + 1) ≡ 0 → ⊥)
      → (name_allowed (part_of s (a + 2) (short_end 1 255 s (a + 1))) ≡ true)
      × (drop a s ≡ kind ∷ (short (part_of s (a + 2) (short_end 1 255 s (a + 1))) ++ drop (short_end 1 255 s (a + 1)) s))
  name_there kind y h =
      let e = short_end 1 255 s (a + 1) in
      let p = opaque_piece (a + 1) e (short_there 1 255 s (a + 1) h) (a + 2) (omega arith) in
      (p.0, first_byte kind y ∙ ap (λ (t : List ℕ). kind ∷ t) p.1)

  binary_there : get_or s a 0 ≡ 2 → (short_end 1 255 s (a + 1) ≡ 0 → ⊥)
      → IdentifierThere s a (short_end 1 255 s (a + 1)) (binary (part_of s (a + 2) (short_end 1 255 s (a + 1))))
  unfolding identifier_bytes identifier_allowed
  binary_there y h = record { can = (name_there 2 y h).0; laid = (name_there 2 y h).1 }

  x509_there : get_or s a 0 ≡ 255 → (short_end 1 255 s (a + 1) ≡ 0 → ⊥)
      → IdentifierThere s a (short_end 1 255 s (a + 1)) (x509 (part_of s (a + 2) (short_end 1 255 s (a + 1))))
  unfolding identifier_bytes identifier_allowed
  x509_there y h = record { can = (name_there 255 y h).0; laid = (name_there 255 y h).1 }

  text_there : get_or s a 0 ≡ 1 → (short_end 1 255 s (a + 3) ≡ 0 → ⊥)
      → IdentifierThere s a (short_end 1 255 s (a + 3)) (text (two_at s (a + 1)) (part_of s (a + 4) (short_end 1 255 s (a + 3))))
  unfolding identifier_bytes identifier_allowed
  text_there y h =
      let e = short_end 1 255 s (a + 3) in
      let w = short_there 1 255 s (a + 3) h in
      let p = opaque_piece (a + 3) e w (a + 4) (omega arith) in
      let x1 = get_or s (a + 1) 0 in
      let x2 = get_or s (a + 1 + 1) 0 in
      let z : a + 1 + 1 + 1 ≡ a + 3 = omega arith in
      let tail = short (part_of s (a + 4) e) ++ drop e s in
      record {
        can = rw (lt-ltb (two_at s (a + 1)) 65536 (omega (arith, b (a + 1), b (a + 1 + 1)))) p.0;
        laid = first_byte 1 y
            ∙ ap (λ (t : List ℕ). 1 ∷ t)
            (byte_piece s (a + 1) (omega (arith, w.ends, w.within))
            ∙ ap (λ (t : List ℕ). x1 ∷ t)
            (byte_piece s (a + 1 + 1) (omega (arith, w.ends, w.within))
            ∙ ap (λ (t : List ℕ). x2 ∷ t) (ap (λ (k : ℕ). drop k s) z ∙ p.1))
            ∙ ap (λ (t : List ℕ). t ++ tail) (sym (bytes2_of x1 x2 (b (a + 1)) (b (a + 1 + 1)))));
      }

  -- the end and the identifier of a place, told by its type
  told_as : (f : ℕ → Identifier) (e : ℕ) → identifier_end s a ≡ e → identifier_at s a ≡ f (identifier_end s a)
      → IdentifierThere s a e (f e) → IdentifierThere s a (identifier_end s a) (identifier_at s a)
  told_as f e p q w =
      subst (λ (j : Identifier). IdentifierThere s a (identifier_end s a) j) (sym q)
      (subst (λ (k : ℕ). IdentifierThere s a k (f k)) (sym p) w)

identifier_there : (s : List ℕ) → ((i : ℕ) → get_or s i 0 < 256) → (a : ℕ) → a < length s → (identifier_end s a ≡ 0 → ⊥)
    → IdentifierThere s a (identifier_end s a) (identifier_at s a)
unfolding identifier_end identifier_at
identifier_there s b a l h =
    let x = get_or s a 0 in
    let C = IdentifierThere s a (identifier_end s a) (identifier_at s a) in
    let t = lt-ltb a (length s) l in
    by_test C (eqb x 0) (λ e0. told_as s b a l (λ k. null) (a + 1) (rw (t, e0) refl) (rw e0 refl) (null_there s b a l (eqb-true x 0 e0)))
    (λ e0. by_test C (eqb x 1)
    (λ e1.
    let p : identifier_end s a ≡ short_end 1 255 s (a + 3) = rw (t, e0, e1) refl in
    told_as s b a l (λ k. text (two_at s (a + 1)) (part_of s (a + 4) k)) (short_end 1 255 s (a + 3)) p (rw (e0, e1) refl)
    (text_there s b a l (eqb-true x 1 e1) (λ z. h (p ∙ z))))
    (λ e1. by_test C (eqb x 2)
    (λ e2.
    let p : identifier_end s a ≡ short_end 1 255 s (a + 1) = rw (t, e0, e1, e2) refl in
    told_as s b a l (λ k. binary (part_of s (a + 2) k)) (short_end 1 255 s (a + 1)) p (rw (e0, e1, e2) refl)
    (binary_there s b a l (eqb-true x 2 e2) (λ z. h (p ∙ z))))
    (λ e2. by_test C (eqb x 254)
    (λ e3.
    let p : identifier_end s a ≡ field_end s (a + 1) 20 = rw (t, e0, e1, e2, e3) refl in
    told_as s b a l (λ k. hash (part_of s (a + 1) k)) (field_end s (a + 1) 20) p (rw (e0, e1, e2, e3) refl)
    (hash_there s b a l (eqb-true x 254 e3) (λ z. h (p ∙ z))))
    (λ e3. by_test C (eqb x 255)
    (λ e4.
    let p : identifier_end s a ≡ short_end 1 255 s (a + 1) = rw (t, e0, e1, e2, e3, e4) refl in
    told_as s b a l (λ k. x509 (part_of s (a + 2) k)) (short_end 1 255 s (a + 1)) p (rw (e0, e1, e2, e3) refl)
    (x509_there s b a l (eqb-true x 255 e4) (λ z. h (p ∙ z))))
    (λ e4. absurd (h (rw (t, e0, e1, e2, e3, e4) refl)))))))

-- a parameter specifier likewise
pub record ParametersThere (s : List ℕ) (a suite e : ℕ) (p : Parameters) : Type 0 where
  pub can : parameters_allowed suite p ≡ true
  pub laid : drop a s ≡ parameters_bytes p ++ drop e s

parameters_there : (s : List ℕ) → ((i : ℕ) → get_or s i 0 < 256) → (a suite : ℕ) → a < length s → (specifier_end s a suite ≡ 0 → ⊥)
    → ParametersThere s a suite (specifier_end s a suite) (parameters_at s a suite)
unfolding specifier_end parameters_at parameters_bytes parameters_allowed
parameters_there s b a suite l h =
    let x = get_or s a 0 in
    let C = ParametersThere s a suite (specifier_end s a suite) (parameters_at s a suite) in
    let t = lt-ltb a (length s) l in
    let part = part_of s (a + 3) (long_end s (a + 1)) in
    by_test C (eqb x 255)
    (λ e0. by_test C (set_sound suite part)
    (λ e1.
    let p : specifier_end s a suite ≡ long_end s (a + 1) = rw (t, e0, e1) refl in
    let w = long_at_lem s (a + 1) (λ z. h (p ∙ z)) in
    let n = long_size s (a + 1) (long_end s (a + 1)) w in
    let q : a + 1 + 2 ≡ a + 3 = omega arith in
    let v = set_read suite part (bytes_part s (a + 3) (long_end s (a + 1)) b) e1 in
    let size : length (set_bytes (set_in suite part)) ≡ two_at s (a + 1) =
    ap length v.1 ∙ ap (λ (k : ℕ). length (part_of s k (long_end s (a + 1)))) (sym q) ∙ n in
    rw (t, e0, e1) (record {
      can = both_true _ _ v.0
          (lt-ltb (length (set_bytes (set_in suite part))) 65536 (omega (arith, size, b (a + 1), b (a + 1 + 1))));
      laid = first_byte s b a l 255 (eqb-true x 255 e0)
          ∙ ap (λ (t : List ℕ). 255 ∷ t)
          (long_piece s (a + 1) (long_end s (a + 1)) (b (a + 1)) (b (a + 1 + 1)) w
          ∙ ap (λ (k : ℕ). long (part_of s k (long_end s (a + 1))) ++ drop (long_end s (a + 1)) s) q
          ∙ ap (λ (k : List ℕ). long k ++ drop (long_end s (a + 1)) s) (sym v.1));
    }))
    (λ e1. absurd (h (rw (t, e0, e1) refl))))
    (λ e0.
    let n : x < 255 = omega (arith, b a, eqb-false x 255 e0) in
    rw (t, e0) (record {
      can = lt-ltb x 255 n;
      laid = first_byte s b a l x refl;
    }))

-- an entry that is there
pub record EntryThere (s : List ℕ) (a e : ℕ) (n : Entry) : Type 0 where
  pub can : both (parameters_allowed n.suite n.parameters) (identifier_allowed n.identifier) ≡ true
  pub laid : drop a s ≡ entry_bytes n ++ drop e s

-- an identifier is there only within the list
identifier_within : (s : List ℕ) (a : ℕ) → (identifier_end s a ≡ 0 → ⊥) → a < length s
unfolding identifier_end
identifier_within s a h =
    by_test (a < length s) (ltb a (length s)) (λ t. ltb-true a (length s) t) (λ t. absurd (h (rw t refl)))

specifier_within : (s : List ℕ) (a suite : ℕ) → (specifier_end s a suite ≡ 0 → ⊥) → a < length s
unfolding specifier_end
specifier_within s a suite h =
    by_test (a < length s) (ltb a (length s)) (λ t. ltb-true a (length s) t) (λ t. absurd (h (rw t refl)))

entry_there : (s : List ℕ) → ((i : ℕ) → get_or s i 0 < 256) → (a : ℕ) → a < length s → (entry_end s a ≡ 0 → ⊥)
    → EntryThere s a (entry_end s a) (entry_at s a)
unfolding entry_end entry_bytes
entry_there s b a l h =
    let x = get_or s a 0 in
    let c = specifier_end s (a + 1) x in
    let t = lt-ltb a (length s) l in
    by_test (EntryThere s a (entry_end s a) (entry_at s a)) (eqb c 0)
    (λ e0. absurd (h (rw (t, e0) refl)))
    (λ e0.
    let p : entry_end s a ≡ identifier_end s c = rw (t, e0) refl in
    let n = eqb-false c 0 e0 in
    let i0 : identifier_end s c ≡ 0 → ⊥ = λ z. h (p ∙ z) in
    let g = parameters_there s b (a + 1) x (specifier_within s (a + 1) x n) n in
    let i = identifier_there s b c (identifier_within s c i0) i0 in
    subst (λ (k : ℕ). EntryThere s a k (entry_at s a)) (sym p)
    (record {
      can = both_true _ _ g.can i.can;
      laid = first_byte s b a l x refl
          ∙ ap (λ (t : List ℕ). x ∷ t)
          (g.laid
          ∙ ap (λ (t : List ℕ). parameters_bytes (parameters_at s (a + 1) x) ++ t) i.laid
          ∙ sym
          (append_assoc (parameters_bytes (parameters_at s (a + 1) x)) (identifier_bytes (identifier_at s c)) (drop (identifier_end s c) s)));
    }))

-- the entries from a place on
list_there : (s : List ℕ) → ((i : ℕ) → get_or s i 0 < 256) → (n a : ℕ) → entries_from n s a ≡ true
    → (list_allowed (entries_at n s a) ≡ true) × (list_bytes (entries_at n s a) ≡ drop a s)
unfolding list_bytes list_allowed entries_from entries_at
list_there s b zero a h = (refl, sym (ap (λ (k : ℕ). drop k s) (eqb-true a (length s) h) ∙ drop-length s))
list_there s b (suc n) a h =
    let C = (list_allowed (entries_at (suc n) s a) ≡ true) × (list_bytes (entries_at (suc n) s a) ≡ drop a s) in
    by_test C (ltb a (length s))
    (λ t. by_test C (eqb (entry_end s a) 0)
    (λ e0. let z : false ≡ true = rw (t, e0) at h in clash z)
    (λ e0.
    let m : entries_from n s (entry_end s a) ≡ true = rw (t, e0) at h in
    let i = entry_there s b a (ltb-true a (length s) t) (eqb-false (entry_end s a) 0 e0) in
    let more = list_there s b n (entry_end s a) m in
    rw t (both_true _ _ i.can more.0, ap (λ (r : List ℕ). entry_bytes (entry_at s a) ++ r) more.1 ∙ sym i.laid)))
    (λ t.
    let z : eqb a (length s) ≡ true = rw t at h in
    rw t (refl, sym (ap (λ (k : ℕ). drop k s) (eqb-true a (length s) z) ∙ drop-length s)))

-- a list of bytes that is walked to its end is what is written of its entries
pub list_read : (s : List ℕ) → ((i : ℕ) → get_or s i 0 < 256) → key_list s ≡ true
    → (list_allowed (entries_in s) ≡ true) × (list_bytes (entries_in s) ≡ s)
unfolding key_list entries_in
list_read s b h = list_there s b (length s) 0 h
