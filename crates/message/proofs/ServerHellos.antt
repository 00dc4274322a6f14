-- Laws of the ServerHello: where its session identifier ends; what reads as well-formed is exactly what is written of values.
use mathlib.Core.Path.{◌≡◌, refl, sym, ◌∙◌, ap}
use mathlib.Core.List.{List, [], ◌∷◌, ◌++◌}
use mathlib.Core.Bool.{Bool, true, false}
use Prim.Native.Nat.{ℕ, ◌+◌, ◌*◌, ◌≤◌, ◌<◌}
use native.Mathlib.Omega.{arith}
use lib.ListN.{length, get_or, drop, length-append, length-drop, drop_of_length-le}
use lib.Dec.{eqb, leb}
use borrow.Author.Tests.{leb-true, eqb-true, le-leb, eq-eqb}
use Rattle.digest.specs.Pick.{pick}
use Rattle.digest.specs.Bytes.{bytes2}
use Rattle.message.specs.Field.{short, part_of}
use Rattle.message.specs.Handshake.{fills, server_hello, message_of}
use Rattle.message.specs.ServerHello.{server_read, ServerValues, server_values_at, server_hello_from, server_allowed, ServerHellosAsWritten}
use Rattle.message.proofs.Fields.{both_split}
use Rattle.message.proofs.Givens.{Filled, filled, fills_of}
use Rattle.message.proofs.Rests.{Rest, rest_byte, front_part, front_rest, short_part, short_rest, piece, piece_size, byte_piece, bytes2_of}
use Rattle.std.specs.Prelude.{None, Some}

-- what a well-formed ServerHello satisfies
pub record Formed (m : List ℕ) (end : ℕ) : Type 0 where
  pub filled : fills server_hello m ≡ true
  pub short_enough : get_or m 20 0 ≤ 8
  pub size : length m ≡ 27 + get_or m 20 0
  pub end_is : end ≡ 21 + get_or m 20 0

pub formed : (m : List ℕ) (end : ℕ) → server_read m ≡ Some end → Formed m end
unfolding server_read
formed m end e =
    go (fills server_hello m) (leb (get_or m 20 0) 8) (eqb (length m) (27 + get_or m 20 0)) refl refl refl e
  where
    go : (a b c : Bool) → fills server_hello m ≡ a → leb (get_or m 20 0) 8 ≡ b → eqb (length m) (27 + get_or m 20 0) ≡ c
        → pick a (pick b (pick c (Some (21 + get_or m 20 0)) None) None) None ≡ Some end
        → Formed m end
    go true true true ea eb ec h =
        record {
          filled = ea;
          short_enough = leb-true (get_or m 20 0) 8 eb;
          size = eqb-true (length m) (27 + get_or m 20 0) ec;
          end_is = let z : 21 + get_or m 20 0 ≡ end = cc in sym z;
        }
    go true true false ea eb ec h = let z : ◌≡◌ {A = ℕ} 0 1 = cc in absurd (omega arith)
    go true false c ea eb ec h = let z : ◌≡◌ {A = ℕ} 0 1 = cc in absurd (omega arith)
    go false b c ea eb ec h = let z : ◌≡◌ {A = ℕ} 0 1 = cc in absurd (omega arith)

pub end_most : (m : List ℕ) (end : ℕ) → server_read m ≡ Some end → end ≤ 29
end_most m end e = let f = formed m end e in omega (arith, f.short_enough, f.end_is)

-- ---- what is written is read back

module _ (v : ServerValues) (lr : length v.random ≡ 16) (ls : length v.session ≤ 8) where
  abbrev tail : List ℕ
  tail = v.key ∷ v.cipher ∷ v.mac ∷ v.compression ∷ v.numbering ∷ v.refresh ∷ []

  abbrev m : List ℕ
  m = server_hello_from v

  abbrev n : ℕ
  n = length v.session

  size : length m ≡ 27 + n
  size = omega (arith, length-append v.random (short v.session ++ tail), length-append v.session tail, lr)

  -- what is left behind the version, the random and the session identifier
  at_random : Rest m 4 (v.random ++ (short v.session ++ tail))
  at_random = record { from = refl; size = omega arith }

  at_session : Rest m 20 (short v.session ++ tail)
  at_session = front_rest m 4 16 v.random (short v.session ++ tail) at_random lr

  at_key : Rest m (21 + n) tail
  at_key = short_rest 0 8 m 20 v.session tail at_session

  said : get_or m 20 0 ≡ n
  said = rest_byte m 20 n (v.session ++ tail) at_session

  fills_sent : fills server_hello m ≡ true
  fills_sent =
      fills_of server_hello m (record {
        long_enough = omega (arith, size);
        type = refl;
        size = omega (arith, size, ls);
      })

  read_written : server_read m ≡ Some (21 + n)
  unfolding server_read
  read_written =
      rw (fills_sent, said, le-leb n 8 ls, eq-eqb (length m) (27 + n) size) refl

  next : (a y : ℕ) (l : List ℕ) → Rest m a (y ∷ l) → Rest m (a + 1) l
  next a y l w = front_rest m a 1 (y ∷ []) l w refl

  values_back : server_values_at m (21 + n) ≡ v
  values_back =
      let c = next (21 + n) v.key (v.cipher ∷ v.mac ∷ v.compression ∷ v.numbering ∷ v.refresh ∷ []) at_key in
      let d = next (21 + n + 1) v.cipher (v.mac ∷ v.compression ∷ v.numbering ∷ v.refresh ∷ []) c in
      let e = next (21 + n + 1 + 1) v.mac (v.compression ∷ v.numbering ∷ v.refresh ∷ []) d in
      let f = next (21 + n + 1 + 1 + 1) v.compression (v.numbering ∷ v.refresh ∷ []) e in
      let g = next (21 + n + 1 + 1 + 1 + 1) v.numbering (v.refresh ∷ []) f in
      let at : (k j : ℕ) → k ≡ j → (y : ℕ) → get_or m j 0 ≡ y → get_or m k 0 ≡ y = λ k j z y h. ap (λ (i : ℕ). get_or m i 0) z ∙ h in
      let random-is = front_part m 4 16 v.random (short v.session ++ tail) at_random lr in
      let session_is = short_part 0 8 m 20 v.session tail at_session in
      let key-is = rest_byte m (21 + n) v.key _ at_key in
      let cipher-is = rest_byte m (21 + n + 1) v.cipher _ c in
      let mac-is = at (21 + n + 2) (21 + n + 1 + 1) (omega arith) v.mac (rest_byte m (21 + n + 1 + 1) v.mac _ d) in
      let compression-is = at (21 + n + 3) (21 + n + 1 + 1 + 1) (omega arith) v.compression (rest_byte m (21 + n + 1 + 1 + 1) v.compression _ e) in
      let numbering-is = at (21 + n + 4) (21 + n + 1 + 1 + 1 + 1) (omega arith) v.numbering (rest_byte m (21 + n + 1 + 1 + 1 + 1) v.numbering _ f) in
      let refresh-is = at (21 + n + 5) (21 + n + 1 + 1 + 1 + 1 + 1) (omega arith) v.refresh (rest_byte m (21 + n + 1 + 1 + 1 + 1 + 1) v.refresh _ g) in
      λ i. record {
        version = v.version;
        random = random-is i;
        session = session_is i;
        key = key-is i;
        cipher = cipher-is i;
        mac = mac-is i;
        compression = compression-is i;
        numbering = numbering-is i;
        refresh = refresh-is i;
      }

-- ---- what reads as well-formed is what is written of its values

module _ (m : List ℕ) (b : (i : ℕ) → get_or m i 0 < 256) (end : ℕ) (e : server_read m ≡ Some end) where
  f : Formed m end
  f = formed m end e

  head : Filled server_hello m
  head = filled server_hello m f.filled

  six : drop end m ≡ get_or m end 0 ∷ get_or m (end + 1) 0 ∷ get_or m (end + 2) 0 ∷ get_or m (end + 3) 0 ∷ get_or m (end + 4) 0 ∷ get_or m (end + 5) 0 ∷ []
  six =
      let at : (k j : ℕ) → k ≡ j → (l : List ℕ) → drop j m ≡ l → drop k m ≡ l = λ k j z l h. ap (λ (i : ℕ). drop i m) z ∙ h in
      let long : length m ≡ end + 6 = omega (arith, f.size, f.end_is) in
      let none : drop (end + 5 + 1) m ≡ [] = drop_of_length-le m {i = end + 5 + 1} (omega (arith, long)) in
      byte_piece m end (omega (arith, long))
      ∙ ap (λ (l : List ℕ). get_or m end 0 ∷ l) (byte_piece m (end + 1) (omega (arith, long))
      ∙ ap (λ (l : List ℕ). get_or m (end + 1) 0 ∷ l) (at (end + 1 + 1) (end + 2) (omega arith) _ (byte_piece m (end + 2) (omega (arith, long)))
      ∙ ap (λ (l : List ℕ). get_or m (end + 2) 0 ∷ l) (at (end + 2 + 1) (end + 3) (omega arith) _ (byte_piece m (end + 3) (omega (arith, long)))
      ∙ ap (λ (l : List ℕ). get_or m (end + 3) 0 ∷ l) (at (end + 3 + 1) (end + 4) (omega arith) _ (byte_piece m (end + 4) (omega (arith, long)))
      ∙ ap (λ (l : List ℕ). get_or m (end + 4) 0 ∷ l) (at (end + 4 + 1) (end + 5) (omega arith) _ (byte_piece m (end + 5) (omega (arith, long)))
      ∙ ap (λ (l : List ℕ). get_or m (end + 5) 0 ∷ l) none)))))

  random_size : length (part_of m 4 20) ≡ 16
  random_size = piece_size m 4 16 (omega (arith, f.size))

  session_size : length (part_of m 21 end) ≡ get_or m 20 0
  session_size = ap (λ (k : ℕ). length (part_of m 21 k)) f.end_is ∙ piece_size m 21 (get_or m 20 0) (omega (arith, f.size))

  -- the body, piece by piece
  body : drop 3 m ≡ get_or m 3 0 ∷ (part_of m 4 20 ++ (short (part_of m 21 end) ++ drop end m))
  body =
      byte_piece m 3 (omega (arith, f.size))
      ∙ ap (λ (l : List ℕ). get_or m 3 0 ∷ l) (piece m 4 16 (omega (arith, f.size))
      ∙ ap (λ (l : List ℕ). part_of m 4 20 ++ l) (byte_piece m 20 (omega (arith, f.size))
      ∙ ap (λ (l : List ℕ). get_or m 20 0 ∷ l) (piece m 21 (get_or m 20 0) (omega (arith, f.size))
      ∙ ap (λ (k : ℕ). part_of m 21 k ++ drop k m) (sym f.end_is))
      ∙ ap (λ (k : ℕ). k ∷ (part_of m 21 end ++ drop end m)) (sym session_size)))

  written_back : server_hello_from (server_values_at m end) ≡ m
  written_back =
      let all : server_hello_from (server_values_at m end) ≡ message_of server_hello (drop 3 m)
      = ap (message_of server_hello) (sym (body ∙ ap (λ (l : List ℕ). get_or m 3 0 ∷ (part_of m 4 20 ++ (short (part_of m 21 end) ++ l))) six)) in
      let size_is : length (drop 3 m) ≡ get_or m 1 0 * 256 + get_or m 2 0 = length-drop 3 m ∙ sym head.size in
      let length-is = ap bytes2 size_is ∙ bytes2_of (get_or m 1 0) (get_or m 2 0) (b 1) (b 2) in
      all
      ∙ ap (λ (l : List ℕ). server_hello ∷ (l ++ drop 3 m)) length-is
      ∙ ap (λ (k : ℕ). k ∷ get_or m 1 0 ∷ get_or m 2 0 ∷ drop 3 m) (sym head.type)
      ∙ sym (byte_piece m 0 (omega (arith, f.size))
      ∙ ap (λ (l : List ℕ). get_or m 0 0 ∷ l) (byte_piece m 1 (omega (arith, f.size))
      ∙ ap (λ (l : List ℕ). get_or m 1 0 ∷ l) (byte_piece m 2 (omega (arith, f.size)))))

  allowed_back : server_allowed (server_values_at m end) ≡ true
  allowed_back =
      rw (eq-eqb (length (part_of m 4 20)) 16 random_size)
      (le-leb (length (part_of m 21 end)) 8 (omega (arith, session_size, f.short_enough)))

pub server_hellos_as_written : ServerHellosAsWritten
server_hellos_as_written =
    record {
      written = λ v h.
          let s = both_split (eqb (length v.random) 16) _ h in
          let lr = eqb-true (length v.random) 16 s.0 in
          let ls = leb-true (length v.session) 8 s.1 in
          (read_written v lr ls, values_back v lr ls);
      read = λ m b end e. (allowed_back m b end e, written_back m b end e);
    }
