-- A sound set is the one that is written of the values that stand in it: each part that is there is its bytes, and what is
-- left after it.
use Rattle.std.specs.Prelude.{Option}
use mathlib.Core.Path.{◌≡◌, refl, sym, ◌∙◌, ap, subst}
use mathlib.Core.List.{List, [], ◌∷◌, ◌++◌, append-nil}
use mathlib.Core.Bool.{true, false}
use Prim.Native.Nat.{ℕ, ◌+◌, ◌≤◌, ◌<◌}
use native.Mathlib.Omega.{arith}
use native.Mathlib.Decide.{dec_le}
use mathlib.Core.Logic.{by_cases}
use lib.ListN.{length, get_or, drop}
use lib.Seq.{drop-length}
use lib.Dec.{ltb, eqb}
use borrow.Author.Tests.{le-leb, lt-ltb, eqb-true, eqb-false}
use Rattle.digest.specs.Bytes.{bytes2}
use Rattle.message.specs.Field.{short, long, field_end, short_end, long_end, two_at, part_of}
use Rattle.message.specs.Set.{Basis, onb, trinomial, pentanomial, polynomial, CurveField, prime, two, is_diffie_hellman, is_elliptic_curve, basis_bytes, field_bytes, set_bytes, vector_allowed, basis_allowed, field_allowed, vectors_allowed, curve_allowed, set_allowed, next_end, next_long, basis_end, curve_field_end, field_id_of, dh_placed, ec_placed, filling, read_dh, read_ec, read_of, well_formed, set_sound, field_at, set_at, set_in}
use Rattle.message.specs.declared.set.Set.{Set}
use Rattle.message.specs.declared.set.Set.TheVariants.{DiffieHellman, EllipticCurve}
use Rattle.message.proofs.Rests.{ShortThere, short_there, short_size, short_piece, long_at_lem, long_size, long_piece, bytes2_of, byte_piece}
use Rattle.message.proofs.Fields.{field_there, by_test, clash, both_true}
use Rattle.message.proofs.SetEnds.{next_none, next_some, long_none, long_empty, long_some, basis_onb, basis_trinomial, basis_pentanomial, basis_polynomial, basis_other, basis_cut, field_is_prime, field_is_two, field_other, field_cut, id_prime, id_onb, id_trinomial, id_pentanomial, id_polynomial, fill_whole, read_skipped, read_as_dh, read_as_ec}

vector_can : (floor ceiling : ℕ) (x : List ℕ) → floor ≤ length x → length x ≤ ceiling → vector_allowed floor ceiling x ≡ true
vector_can floor ceiling x f g = rw (le-leb floor (length x) f) (le-leb (length x) ceiling g)

short_can : (floor : ℕ) (s : List ℕ) (a e : ℕ) → ShortThere floor 255 s a e → vector_allowed floor 255 (part_of s (a + 1) e) ≡ true
short_can floor s a e w =
    let n = short_size floor 255 s a e w in
    vector_can floor 255 (part_of s (a + 1) e) (omega (arith, n, w.above)) (omega (arith, n, w.below))

-- a vector that is there, behind another part: that part is there too
pub record NextThere (floor : ℕ) (s : List ℕ) (a e : ℕ) : Type 0 where
  pub before : a ≡ 0 → ⊥
  pub can : vector_allowed floor 255 (part_of s (a + 1) e) ≡ true
  pub laid : drop a s ≡ short (part_of s (a + 1) e) ++ drop e s

next_there : (floor : ℕ) (s : List ℕ) (a : ℕ) → (next_end floor s a ≡ 0 → ⊥) → NextThere floor s a (next_end floor s a)
next_there floor s a h =
    let n : a ≡ 0 → ⊥ = λ z. h (sym (next_none floor s a z)) in
    let q = next_some floor s a n in
    let w = short_there floor 255 s a (λ z. h (q ∙ z)) in
    subst (λ (k : ℕ). NextThere floor s a k) (sym q)
    (record {
      before = n;
      can = short_can floor s a (short_end floor 255 s a) w;
      laid = short_piece floor 255 s a (short_end floor 255 s a) w;
    })

module _ (s : List ℕ) (b : (i : ℕ) → get_or s i 0 < 256) where
  -- a vector with a length of two bytes, likewise
  pub record LongNext (a e : ℕ) : Type 0 where
    pub before : a ≡ 0 → ⊥
    pub can : vector_allowed 1 65535 (part_of s (a + 2) e) ≡ true
    pub laid : drop a s ≡ long (part_of s (a + 2) e) ++ drop e s

  long_next : (a : ℕ) → (next_long s a ≡ 0 → ⊥) → LongNext a (next_long s a)
  long_next a h =
      let n : a ≡ 0 → ⊥ = λ z. h (sym (long_none s a z)) in
      let t : two_at s a ≡ 0 → ⊥ = λ z. h (sym (long_empty s a n z)) in
      let q = long_some s a n t in
      let w = long_at_lem s a (λ z. h (q ∙ z)) in
      let k = long_size s a (long_end s a) w in
      subst (λ (j : ℕ). LongNext a j) (sym q)
      (record {
        before = n;
        can = vector_can 1 65535 (part_of s (a + 2) (long_end s a)) (omega (arith, k, t)) (omega (arith, k, b a, b (a + 1)));
        laid = long_piece s a (long_end s a) (b a) (b (a + 1)) w;
      })

  -- a number of two bytes that is there
  two_piece : (a : ℕ) → a + 2 ≤ length s → drop a s ≡ bytes2 (two_at s a) ++ drop (a + 2) s
  two_piece a h =
      let z : a + 1 + 1 ≡ a + 2 = omega arith in
      byte_piece s a (omega arith)
      ∙ ap (λ (t : List ℕ). get_or s a 0 ∷ t) (byte_piece s (a + 1) (omega arith))
      ∙ ap (λ (j : ℕ). get_or s a 0 ∷ (get_or s (a + 1) 0 ∷ drop j s)) z
      ∙ ap (λ (t : List ℕ). t ++ drop (a + 2) s) (sym (bytes2_of (get_or s a 0) (get_or s (a + 1) 0) (b a) (b (a + 1))))

  two_small : (a : ℕ) → ltb (two_at s a) 65536 ≡ true
  two_small a = lt-ltb (two_at s a) 65536 (omega (arith, b a, b (a + 1)))

  first_byte : (a x : ℕ) → a < length s → get_or s a 0 ≡ x → drop a s ≡ x ∷ drop (a + 1) s
  first_byte a x l y = byte_piece s a (omega arith) ∙ ap (λ (k : ℕ). k ∷ drop (a + 1) s) y

  -- a basis that is there, behind the number of the field and m
  pub record BasisThere (e : ℕ) (v : Basis) : Type 0 where
    pub can : basis_allowed v ≡ true
    pub laid : drop 3 s ≡ basis_bytes v ++ drop e s

  -- and the field
  pub record FieldThere (e : ℕ) (f : CurveField) : Type 0 where
    pub can : field_allowed f ≡ true
    pub laid : s ≡ field_bytes f ++ drop e s

  onb_there : 3 < length s → get_or s 3 0 ≡ 1 → BasisThere 4 onb
  unfolding basis_bytes basis_allowed
  onb_there l y = record { can = refl; laid = first_byte 3 1 l y }

  trinomial_there : 3 < length s → get_or s 3 0 ≡ 2 → (field_end s 4 2 ≡ 0 → ⊥) → BasisThere (field_end s 4 2) (trinomial (two_at s 4))
  unfolding basis_bytes basis_allowed
  trinomial_there l y h =
      let w = field_there s 4 2 h in
      subst (λ (k : ℕ). BasisThere k (trinomial (two_at s 4))) (sym w.0)
      (record { can = two_small 4; laid = first_byte 3 2 l y ∙ ap (λ (t : List ℕ). 2 ∷ t) (two_piece 4 w.1) })

  pentanomial_there : 3 < length s → get_or s 3 0 ≡ 3 → (field_end s 4 6 ≡ 0 → ⊥)
      → BasisThere (field_end s 4 6) (pentanomial (two_at s 4) (two_at s 6) (two_at s 8))
  unfolding basis_bytes basis_allowed
  pentanomial_there l y h =
      let w = field_there s 4 6 h in
      let u : 10 ≤ length s = w.1 in
      subst (λ (k : ℕ). BasisThere k (pentanomial (two_at s 4) (two_at s 6) (two_at s 8))) (sym w.0)
      (record {
        can = both_true _ _ (two_small 4) (both_true _ _ (two_small 6) (two_small 8));
        laid = first_byte 3 3 l y
            ∙ ap (λ (t : List ℕ). 3 ∷ t)
            (two_piece 4 (omega arith)
            ∙ ap (λ (t : List ℕ). bytes2 (two_at s 4) ++ t)
            (two_piece 6 (omega arith) ∙ ap (λ (t : List ℕ). bytes2 (two_at s 6) ++ t) (two_piece 8 (omega arith))));
      })

  polynomial_there : 3 < length s → get_or s 3 0 ≡ 4 → (short_end 1 255 s 4 ≡ 0 → ⊥)
      → BasisThere (short_end 1 255 s 4) (polynomial (part_of s 5 (short_end 1 255 s 4)))
  unfolding basis_bytes basis_allowed
  polynomial_there l y h =
      let w = short_there 1 255 s 4 h in
      record {
        can = short_can 1 s 4 (short_end 1 255 s 4) w;
        laid = first_byte 3 4 l y ∙ ap (λ (t : List ℕ). 4 ∷ t) (short_piece 1 255 s 4 (short_end 1 255 s 4) w);
      }

  -- m and a basis make a field
  two_there : 3 ≤ length s → get_or s 0 0 ≡ 2 → (e : ℕ) (v : Basis) → BasisThere e v → FieldThere e (two (two_at s 1) v)
  unfolding field_bytes field_allowed
  two_there l y e v w =
      record {
        can = both_true _ _ (two_small 1) w.can;
        laid = first_byte 0 2 (omega arith) y
            ∙ ap (λ (t : List ℕ). 2 ∷ t)
            (two_piece 1 (omega arith) ∙ ap (λ (t : List ℕ). bytes2 (two_at s 1) ++ t) w.laid);
      }

  prime_there : 0 < length s → get_or s 0 0 ≡ 1 → (short_end 1 255 s 1 ≡ 0 → ⊥)
      → FieldThere (short_end 1 255 s 1) (prime (part_of s 2 (short_end 1 255 s 1)))
  unfolding field_bytes field_allowed
  prime_there l y h =
      let w = short_there 1 255 s 1 h in
      record {
        can = short_can 1 s 1 (short_end 1 255 s 1) w;
        laid = first_byte 0 1 l y ∙ ap (λ (t : List ℕ). 1 ∷ t) (short_piece 1 255 s 1 (short_end 1 255 s 1) w);
      }

  -- the end and the field, told by their numbers
  abbrev There : Type 0
  There = FieldThere (curve_field_end s) (field_at s (field_id_of s))

  told_as : (e : ℕ) (g : CurveField) → curve_field_end s ≡ e → field_at s (field_id_of s) ≡ g → FieldThere e g → There
  told_as e g p q w =
      subst (λ (f : CurveField). FieldThere (curve_field_end s) f) (sym q) (subst (λ (k : ℕ). FieldThere k g) (sym p) w)

  basis_there : (n : length s ≡ 0 → ⊥) → get_or s 0 0 ≡ 2 → 3 < length s → (basis_end s ≡ 0 → ⊥) → There
  basis_there n y l h =
      let x = get_or s 3 0 in
      let ne : get_or s 0 0 ≡ 1 → ⊥ = λ z. omega (arith, y) in
      let f = field_is_two s n y in
      let t = two_there (omega arith) y in
      by_test There (eqb x 1)
      (λ e1.
      let y3 = eqb-true x 1 e1 in
      told_as 4 (two (two_at s 1) onb) (f ∙ basis_onb s l y3) (ap (field_at s) (sym (id_onb s ne y3)))
      (t 4 onb (onb_there l y3)))
      (λ e1. by_test There (eqb x 2)
      (λ e2.
      let y3 = eqb-true x 2 e2 in
      let p = basis_trinomial s l y3 in
      told_as (field_end s 4 2) (two (two_at s 1) (trinomial (two_at s 4))) (f ∙ p) (ap (field_at s) (sym (id_trinomial s ne y3)))
      (t (field_end s 4 2) (trinomial (two_at s 4)) (trinomial_there l y3 (λ z. h (p ∙ z)))))
      (λ e2. by_test There (eqb x 3)
      (λ e3.
      let y3 = eqb-true x 3 e3 in
      let p = basis_pentanomial s l y3 in
      let v = pentanomial (two_at s 4) (two_at s 6) (two_at s 8) in
      told_as (field_end s 4 6) (two (two_at s 1) v) (f ∙ p) (ap (field_at s) (sym (id_pentanomial s ne y3)))
      (t (field_end s 4 6) v (pentanomial_there l y3 (λ z. h (p ∙ z)))))
      (λ e3. by_test There (eqb x 4)
      (λ e4.
      let y3 = eqb-true x 4 e4 in
      let p = basis_polynomial s l y3 in
      let k = short_end 1 255 s 4 in
      let i = id_polynomial s ne (eqb-false x 1 e1) (eqb-false x 2 e2) (eqb-false x 3 e3) in
      told_as k (two (two_at s 1) (polynomial (part_of s 5 k))) (f ∙ p)
      (ap (field_at s) (sym i) ∙ ap (λ (j : ℕ). two (two_at s 1) (polynomial (part_of s 5 j))) (f ∙ p))
      (t k (polynomial (part_of s 5 k)) (polynomial_there l y3 (λ z. h (p ∙ z)))))
      (λ e4. absurd (h (basis_other s l (eqb-false x 1 e1) (eqb-false x 2 e2) (eqb-false x 3 e3) (eqb-false x 4 e4)))))))

  pub curve_field_there : (curve_field_end s ≡ 0 → ⊥) → There
  curve_field_there h =
      let x = get_or s 0 0 in
      let n : length s ≡ 0 → ⊥ = λ z. h (field_cut s z) in
      by_test There (eqb x 1)
      (λ e1.
      let y = eqb-true x 1 e1 in
      let p = field_is_prime s n y in
      let k = short_end 1 255 s 1 in
      told_as k (prime (part_of s 2 k)) p
      (ap (field_at s) (sym (id_prime s y)) ∙ ap (λ (j : ℕ). prime (part_of s 2 j)) p)
      (prime_there (omega (arith, n)) y (λ z. h (p ∙ z))))
      (λ e1. by_test There (eqb x 2)
      (λ e2.
      let y = eqb-true x 2 e2 in
      let p = field_is_two s n y in
      by_cases (dec_le (length s) 3) (λ l. absurd (h (p ∙ basis_cut s l)))
      (λ l. basis_there n y (omega arith) (λ z. h (p ∙ z))))
      (λ e2. absurd (h (field_other s n (eqb-false x 1 e1) (eqb-false x 2 e2)))))

  -- a set that is well formed fills its bytes
  pub record Filled (end : ℕ) : Type 0 where
    pub some : end ≡ 0 → ⊥
    pub whole : end ≡ length s

  pub filled : (end : ℕ) (r : Set) → well_formed (filling end (length s) r) ≡ true → Filled end
  filled end r h =
      by_test (Filled end) (eqb end 0) (λ e. clash (rw e at h))
      (λ e. by_test (Filled end) (eqb end (length s))
      (λ w. record { some = eqb-false end 0 e; whole = eqb-true end (length s) w })
      (λ w. clash (rw (e, w) at h)))

  last : (e : ℕ) → e ≡ length s → drop e s ≡ []
  last e z = ap (λ (k : ℕ). drop k s) z ∙ drop-length s

  pub record SetThere (suite : ℕ) (r : Option Set) : Type 0 where
    pub can : set_allowed suite (set_at s r) ≡ true
    pub laid : set_bytes (set_at s r) ≡ s

  dh_there : (suite : ℕ) → is_diffie_hellman suite ≡ true → well_formed (read_dh s) ≡ true → SetThere suite (read_dh s)
  unfolding read_dh set_bytes set_allowed
  dh_there suite d h =
      let p = next_long s 1 in
      let g = next_long s p in
      let r = DiffieHellman (dh_placed (get_or s 0 0) p g) in
      let f = filled g r h in
      let wg = long_next p f.some in
      let wp = long_next 1 wg.before in
      let xp = part_of s 3 p in
      let xg = part_of s (p + 2) g in
      let tail : drop p s ≡ long xg =
      wg.laid ∙ ap (λ (t : List ℕ). long xg ++ t) (last g f.whole) ∙ append-nil (long xg) in
      let n : 0 < length s = omega (arith, f.some, f.whole) in
      let all : s ≡ get_or s 0 0 ∷ (long xp ++ long xg) =
      first_byte 0 (get_or s 0 0) n refl
      ∙ ap (λ (t : List ℕ). get_or s 0 0 ∷ t) (wp.laid ∙ ap (λ (t : List ℕ). long xp ++ t) tail) in
      subst (λ (q : Option Set). SetThere suite q) (fill_whole g (length s) r f.some f.whole)
      (record { can = both_true _ _ d (both_true _ _ wp.can wg.can); laid = sym all })

  ec_there : (suite : ℕ) → is_elliptic_curve suite ≡ true → well_formed (read_ec s) ≡ true → SetThere suite (read_ec s)
  unfolding read_ec set_bytes set_allowed curve_allowed vectors_allowed
  ec_there suite d h =
      let ef = curve_field_end s in
      let ea = next_end 1 s ef in
      let eb = next_end 1 s ea in
      let es = next_end 0 s eb in
      let ep = next_end 1 s es in
      let en = next_end 1 s ep in
      let eh = next_end 1 s en in
      let r = EllipticCurve (ec_placed (field_id_of s) ef ea eb es ep en eh) in
      let f = filled eh r h in
      let wh = next_there 1 s en f.some in
      let wn = next_there 1 s ep wh.before in
      let wp = next_there 1 s es wn.before in
      let ws = next_there 0 s eb wp.before in
      let wb = next_there 1 s ea ws.before in
      let wa = next_there 1 s ef wb.before in
      let wf = curve_field_there wa.before in
      let xa = part_of s (ef + 1) ea in
      let xb = part_of s (ea + 1) eb in
      let xs = part_of s (eb + 1) es in
      let xp = part_of s (es + 1) ep in
      let xn = part_of s (ep + 1) en in
      let xh = part_of s (en + 1) eh in
      let th : drop en s ≡ short xh =
      wh.laid ∙ ap (λ (t : List ℕ). short xh ++ t) (last eh f.whole) ∙ append-nil (short xh) in
      let tn = wn.laid ∙ ap (λ (t : List ℕ). short xn ++ t) th in
      let tp = wp.laid ∙ ap (λ (t : List ℕ). short xp ++ t) tn in
      let ts = ws.laid ∙ ap (λ (t : List ℕ). short xs ++ t) tp in
      let tb = wb.laid ∙ ap (λ (t : List ℕ). short xb ++ t) ts in
      let ta = wa.laid ∙ ap (λ (t : List ℕ). short xa ++ t) tb in
      let all = wf.laid ∙ ap (λ (t : List ℕ). field_bytes (field_at s (field_id_of s)) ++ t) ta in
      subst (λ (q : Option Set). SetThere suite q) (fill_whole eh (length s) r f.some f.whole)
      (record {
        can = both_true _ _ d
            (both_true _ _ wf.can
            (both_true _ _ wa.can
            (both_true _ _ wb.can
            (both_true _ _ ws.can (both_true _ _ wp.can (both_true _ _ wn.can wh.can))))));
        laid = sym all;
      })

  skipped_there : (suite : ℕ) → is_diffie_hellman suite ≡ false → is_elliptic_curve suite ≡ false → SetThere suite (read_of suite s)
  unfolding set_bytes set_allowed
  skipped_there suite d c =
      subst (λ (q : Option Set). SetThere suite q) (read_skipped suite s d c) (record { can = rw (d, c) refl; laid = refl })

  set_there : (suite : ℕ) → well_formed (read_of suite s) ≡ true → SetThere suite (read_of suite s)
  set_there suite h =
      let C = SetThere suite (read_of suite s) in
      by_test C (is_diffie_hellman suite)
      (λ d.
      let e = read_as_dh suite s d in
      subst (λ (q : Option Set). SetThere suite q) e (dh_there suite d (ap well_formed e ∙ h)))
      (λ d. by_test C (is_elliptic_curve suite)
      (λ c.
      let e = read_as_ec suite s d c in
      subst (λ (q : Option Set). SetThere suite q) e (ec_there suite c (ap well_formed e ∙ h)))
      (λ c. skipped_there suite d c))

-- a sound set is what is written of the values that stand in it
pub set_read : (suite : ℕ) (s : List ℕ) → ((i : ℕ) → get_or s i 0 < 256) → set_sound suite s ≡ true
    → (set_allowed suite (set_in suite s) ≡ true) × (set_bytes (set_in suite s) ≡ s)
unfolding set_sound set_in
set_read suite s b h = ((set_there s b suite h).can, (set_there s b suite h).laid)
