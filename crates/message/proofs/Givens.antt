-- Hellos whose lists are given as bytes: what is written is read back with the same lists, and a message that reads as
-- well-formed is the one that is written of its lists.
use mathlib.Core.Path.{◌≡◌, refl, sym, ◌∙◌, ap, subst}
use mathlib.Core.List.{List, [], ◌∷◌, ◌++◌}
use mathlib.Core.Bool.{Bool, true, false}
use Prim.Native.Nat.{ℕ, ◌+◌, ◌-◌, ◌/◌, ◌%◌, ◌≤◌, ◌<◌}
use native.Mathlib.Omega.{arith}
use lib.ListN.{length, get_or, drop, length-drop, length-append}
use lib.Seq.{drop-length}
use lib.Dec.{leb, eqb}
use borrow.Author.Tests.{le-leb, lt-leb, leb-true, eq-eqb, ne_eqb, eqb-true, eqb-false}
use Rattle.digest.specs.Pick.{pick}
use Rattle.digest.specs.Bytes.{bytes2}
use Rattle.message.specs.Field.{field_end, short_end, long_end, two_at, part_of, short, long}
use Rattle.message.specs.Handshake.{fills, client_hello, message_of}
use Rattle.message.specs.Keys.{key_list, keys_end}
use Rattle.message.specs.Hello.{suites_end, placed, walk_on, read_of}
use Rattle.message.specs.Given.{Given, body_of, hello_from, fields_given, offers_allowed, given_allowed, sent_of, given_at}
use Rattle.message.specs.Values.{places_from}
use Rattle.message.specs.declared.hello.Hello.{Hello}
use Rattle.message.specs.declared.hello.Field.{Field}
use Rattle.message.specs.declared.hello.Field.TheVariants.{Header, Size, Version, Random, SessionId, ClientKeyIds, TrustedKeyIds, CipherSuites, CompressionMethods, SequenceNumberMode, KeyRefresh, Rest}
use Rattle.message.specs.Buffer.{Puts}
use Rattle.message.proofs.Buffers.{put_on}
use Rattle.message.proofs.Fields.{field_there, both_split}
use Rattle.message.proofs.Rests as rests
use Rattle.message.proofs.Rests.{rest_byte, front_end, front_part, front_rest, short_end_lem, short_part, short_rest, long_end_lem, long_part, long_rest, LongThere, ShortThere, short_there, short_size, short_piece, long_at_lem, long_size, long_piece, bytes2_of, piece, piece_size, byte_piece}
use Rattle.std.specs.Prelude.{Err, Ok, Result}

-- what the values of a hello satisfy
pub record Allowed (v : Given) : Type 0 where
  pub random_size : length v.random ≡ 16
  pub session_size : length v.session ≤ 8
  pub client_list : key_list v.client ≡ true
  pub trusted_list : key_list v.trusted ≡ true
  pub suites_even : length v.suites % 2 ≡ 0
  pub suites_floor : 2 ≤ length v.suites
  pub suites_ceiling : length v.suites ≤ 255
  pub methods_floor : 1 ≤ length v.methods
  pub methods_ceiling : length v.methods ≤ 255
  pub size : length (hello_from v) ≤ 256

pub allowed_of : (v : Given) → Allowed v → given_allowed v ≡ true
unfolding given_allowed fields_given offers_allowed
allowed_of v w =
    rw (
      eq-eqb (length v.random) 16 w.random_size,
      le-leb (length v.session) 8 w.session_size,
      w.client_list,
      w.trusted_list,
      eq-eqb (length v.suites % 2) 0 w.suites_even,
      le-leb 2 (length v.suites) w.suites_floor,
      le-leb (length v.suites) 255 w.suites_ceiling,
      le-leb 1 (length v.methods) w.methods_floor,
      le-leb (length v.methods) 255 w.methods_ceiling,
    )
    (le-leb (length (hello_from v)) 256 w.size)

pub record Fields (random session client trusted : List ℕ) : Type 0 where
  pub random_size : length random ≡ 16
  pub session_size : length session ≤ 8
  pub client_list : key_list client ≡ true
  pub trusted_list : key_list trusted ≡ true

pub fields_parts : (r s c t : List ℕ) → fields_given r s c t ≡ true → Fields r s c t
unfolding fields_given
fields_parts r s c t h =
    let a = both_split (eqb (length r) 16) _ h in
    let b = both_split (leb (length s) 8) _ a.1 in
    let d = both_split (key_list c) _ b.1 in
    record {
      random_size = eqb-true (length r) 16 a.0;
      session_size = leb-true (length s) 8 b.0;
      client_list = d.0;
      trusted_list = d.1;
    }

pub record Offers (suites methods : List ℕ) : Type 0 where
  pub suites_even : length suites % 2 ≡ 0
  pub suites_floor : 2 ≤ length suites
  pub suites_ceiling : length suites ≤ 255
  pub methods_floor : 1 ≤ length methods
  pub methods_ceiling : length methods ≤ 255

pub offers_parts : (p z : List ℕ) → offers_allowed p z ≡ true → Offers p z
unfolding offers_allowed
offers_parts p z h =
    let e = both_split (eqb (length p % 2) 0) _ h in
    let f = both_split (leb 2 (length p)) _ e.1 in
    let g = both_split (leb (length p) 255) _ f.1 in
    let i = both_split (leb 1 (length z)) _ g.1 in
    record {
      suites_even = eqb-true (length p % 2) 0 e.0;
      suites_floor = leb-true 2 (length p) f.0;
      suites_ceiling = leb-true (length p) 255 g.0;
      methods_floor = leb-true 1 (length z) i.0;
      methods_ceiling = leb-true (length z) 255 i.1;
    }

pub allowed_parts : (v : Given) → given_allowed v ≡ true → Allowed v
unfolding given_allowed
allowed_parts v h =
    let a = both_split (fields_given v.random v.session v.client v.trusted) _ h in
    let b = both_split (offers_allowed v.suites v.methods) _ a.1 in
    let f = fields_parts v.random v.session v.client v.trusted a.0 in
    let o = offers_parts v.suites v.methods b.0 in
    record {
      random_size = f.random_size;
      session_size = f.session_size;
      client_list = f.client_list;
      trusted_list = f.trusted_list;
      suites_even = o.suites_even;
      suites_floor = o.suites_floor;
      suites_ceiling = o.suites_ceiling;
      methods_floor = o.methods_floor;
      methods_ceiling = o.methods_ceiling;
      size = leb-true (length (hello_from v)) 256 b.1;
    }

-- a key list that is there
pub record KeysThere (m : List ℕ) (a e : ℕ) : Type 0 where
  pub there : LongThere m a e
  pub entries : key_list (part_of m (a + 2) e) ≡ true

pub keys_there : (m : List ℕ) (a : ℕ) → (keys_end m a ≡ 0 → ⊥) → KeysThere m a (keys_end m a)
unfolding keys_end
keys_there m a = go (key_list (part_of m (a + 2) (long_end m a))) refl
  where
    go : (b : Bool) → key_list (part_of m (a + 2) (long_end m a)) ≡ b → (pick b (long_end m a) 0 ≡ 0 → ⊥)
        → KeysThere m a (pick b (long_end m a) 0)
    go true e h = record { there = long_at_lem m a h; entries = e }
    go false e h = absurd (h refl)

-- suites that are there
pub record SuitesThere (m : List ℕ) (a e : ℕ) : Type 0 where
  pub there : ShortThere 2 255 m a e
  pub even : get_or m a 0 % 2 ≡ 0

pub suites_there : (m : List ℕ) (a : ℕ) → (suites_end m a ≡ 0 → ⊥) → SuitesThere m a (suites_end m a)
unfolding suites_end
suites_there m a = go (eqb (get_or m a 0 % 2) 0) refl
  where
    go : (b : Bool) → eqb (get_or m a 0 % 2) 0 ≡ b → (pick b (short_end 2 255 m a) 0 ≡ 0 → ⊥)
        → SuitesThere m a (pick b (short_end 2 255 m a) 0)
    go true e h = record { there = short_there 2 255 m a h; even = eqb-true (get_or m a 0 % 2) 0 e }
    go false e h = absurd (h refl)

-- the cases of a reading that is well formed
unpick_fault : (b : Bool) (f : Field) (x : Result Hello Field) (h : Hello) → pick b (Err f) x ≡ Ok h
    → (b ≡ false) × (x ≡ Ok h)
unpick_fault true f x h e = let z : ◌≡◌ {A = ℕ} 0 1 = cc in absurd (omega arith)
unpick_fault false f x h e = (refl, e)

unpick_else : (b : Bool) (f : Field) (x : Result Hello Field) (h : Hello) → pick b x (Err f) ≡ Ok h
    → (b ≡ true) × (x ≡ Ok h)
unpick_else true f x h e = (refl, e)
unpick_else false f x h e = let z : ◌≡◌ {A = ℕ} 0 1 = cc in absurd (omega arith)

-- the ends of a hello's fields
abbrev pub version_end : List ℕ → ℕ
version_end m = field_end m 3 1

abbrev pub random_end : List ℕ → ℕ
random_end m = field_end m (version_end m) 16

abbrev pub session_end : List ℕ → ℕ
session_end m = short_end 0 8 m (random_end m)

abbrev pub client_end : List ℕ → ℕ
client_end m = keys_end m (session_end m)

abbrev pub trusted_end : List ℕ → ℕ
trusted_end m = keys_end m (client_end m)

abbrev pub pairs_end : List ℕ → ℕ
pairs_end m = suites_end m (trusted_end m)

abbrev pub methods_end : List ℕ → ℕ
methods_end m = short_end 1 255 m (pairs_end m)

abbrev pub numbering_end : List ℕ → ℕ
numbering_end m = field_end m (methods_end m) 1

abbrev pub refresh_end : List ℕ → ℕ
refresh_end m = field_end m (numbering_end m) 1

-- what a well-formed reading says of the message: each field is there, and the last ends it
pub record Walked (m : List ℕ) (h : Hello) : Type 0 where
  pub kind : fills client_hello m ≡ true
  pub small : length m ≤ 256
  pub version : version_end m ≡ 0 → ⊥
  pub random : random_end m ≡ 0 → ⊥
  pub session : session_end m ≡ 0 → ⊥
  pub client : client_end m ≡ 0 → ⊥
  pub trusted : trusted_end m ≡ 0 → ⊥
  pub pairs : pairs_end m ≡ 0 → ⊥
  pub methods : methods_end m ≡ 0 → ⊥
  pub numbering : numbering_end m ≡ 0 → ⊥
  pub refresh : refresh_end m ≡ 0 → ⊥
  pub whole : refresh_end m ≡ length m
  pub places : placed (version_end m) (random_end m) (session_end m) (client_end m) (trusted_end m) (pairs_end m) (methods_end m) (numbering_end m) (refresh_end m) ≡ h

pub walked : (m : List ℕ) (h : Hello) → read_of m ≡ Ok h → Walked m h
unfolding read_of walk_on
walked m h e =
    let a = unpick_else (fills client_hello m) Header _ h e in
    let b = unpick_else (leb (length m) 256) Size _ h a.1 in
    let c = unpick_fault (eqb (version_end m) 0) Version _ h b.1 in
    let d = unpick_fault (eqb (random_end m) 0) Random _ h c.1 in
    let f = unpick_fault (eqb (session_end m) 0) SessionId _ h d.1 in
    let g = unpick_fault (eqb (client_end m) 0) ClientKeyIds _ h f.1 in
    let i = unpick_fault (eqb (trusted_end m) 0) TrustedKeyIds _ h g.1 in
    let j = unpick_fault (eqb (pairs_end m) 0) CipherSuites _ h i.1 in
    let k = unpick_fault (eqb (methods_end m) 0) CompressionMethods _ h j.1 in
    let n = unpick_fault (eqb (numbering_end m) 0) SequenceNumberMode _ h k.1 in
    let o = unpick_fault (eqb (refresh_end m) 0) KeyRefresh _ h n.1 in
    let q = unpick_else (eqb (refresh_end m) (length m)) Rest _ h o.1 in
    record {
      kind = a.0;
      small = leb-true (length m) 256 b.0;
      version = eqb-false (version_end m) 0 c.0;
      random = eqb-false (random_end m) 0 d.0;
      session = eqb-false (session_end m) 0 f.0;
      client = eqb-false (client_end m) 0 g.0;
      trusted = eqb-false (trusted_end m) 0 i.0;
      pairs = eqb-false (pairs_end m) 0 j.0;
      methods = eqb-false (methods_end m) 0 k.0;
      numbering = eqb-false (numbering_end m) 0 n.0;
      refresh = eqb-false (refresh_end m) 0 o.0;
      whole = eqb-true (refresh_end m) (length m) q.0;
      places = cc q.1;
    }

-- and the other way round
pub reads : (m : List ℕ) → (h : Hello) → Walked m h → read_of m ≡ Ok h
unfolding read_of walk_on
reads m h w =
    rw (
      w.kind,
      le-leb (length m) 256 w.small,
      ne_eqb (version_end m) 0 w.version,
      ne_eqb (random_end m) 0 w.random,
      ne_eqb (session_end m) 0 w.session,
      ne_eqb (client_end m) 0 w.client,
      ne_eqb (trusted_end m) 0 w.trusted,
      ne_eqb (pairs_end m) 0 w.pairs,
      ne_eqb (methods_end m) 0 w.methods,
      ne_eqb (numbering_end m) 0 w.numbering,
      ne_eqb (refresh_end m) 0 w.refresh,
      eq-eqb (refresh_end m) (length m) w.whole,
    )
    (ap Ok w.places)

pub record Filled (kind : ℕ) (m : List ℕ) : Type 0 where
  pub long_enough : 3 ≤ length m
  pub type : get_or m 0 0 ≡ kind
  pub size : two_at m 1 ≡ length m - 3

pub filled : (kind : ℕ) (m : List ℕ) → fills kind m ≡ true → Filled kind m
unfolding fills
filled kind m h =
    let a = both_split (leb 3 (length m)) _ h in
    let b = both_split (eqb (get_or m 0 0) kind) _ a.1 in
    record {
      long_enough = leb-true 3 (length m) a.0;
      type = eqb-true (get_or m 0 0) kind b.0;
      size = eqb-true (two_at m 1) (length m - 3) b.1;
    }

pub fills_of : (kind : ℕ) (m : List ℕ) → Filled kind m → fills kind m ≡ true
unfolding fills
fills_of kind m w =
    rw (le-leb 3 (length m) w.long_enough, eq-eqb (get_or m 0 0) kind w.type)
    (eq-eqb (two_at m 1) (length m - 3) w.size)

-- a message of bytes is its header and what is left after it
filled_message : (kind : ℕ) (m : List ℕ) → ((i : ℕ) → get_or m i 0 < 256) → Filled kind m → message_of kind (drop 3 m) ≡ m
filled_message kind m b w =
    let n : length (drop 3 m) ≡ two_at m 1 = length-drop 3 m ∙ sym w.size in
    let t : bytes2 (length (drop 3 m)) ≡ get_or m 1 0 ∷ get_or m 2 0 ∷ [] = ap bytes2 n ∙ bytes2_of (get_or m 1 0) (get_or m 2 0) (b 1) (b 2) in
    ap (λ (l : List ℕ). kind ∷ (l ++ drop 3 m)) t
    ∙ ap (λ (k : ℕ). k ∷ (get_or m 1 0 ∷ (get_or m 2 0 ∷ drop 3 m))) (sym w.type)
    ∙ sym
    (byte_piece m 0 (omega (arith, w.long_enough))
    ∙ ap (λ (l : List ℕ). get_or m 0 0 ∷ l) (byte_piece m 1 (omega (arith, w.long_enough)))
    ∙ ap (λ (l : List ℕ). get_or m 0 0 ∷ (get_or m 1 0 ∷ l)) (byte_piece m 2 (omega (arith, w.long_enough))))

-- a message of bytes that reads as well-formed
module _ (m : List ℕ) (b : (i : ℕ) → get_or m i 0 < 256) (h : Hello) (w : Walked m h) where
  found : Hello
  found = placed (version_end m) (random_end m) (session_end m) (client_end m) (trusted_end m) (pairs_end m) (methods_end m) (numbering_end m) (refresh_end m)

  at_version : (version_end m ≡ 4) × (4 ≤ length m)
  at_version = field_there m 3 1 w.version

  at_random : (random_end m ≡ version_end m + 16) × (version_end m + 16 ≤ length m)
  at_random = field_there m (version_end m) 16 w.random

  at_session : ShortThere 0 8 m (random_end m) (session_end m)
  at_session = short_there 0 8 m (random_end m) w.session

  at_client : KeysThere m (session_end m) (client_end m)
  at_client = keys_there m (session_end m) w.client

  at_trusted : KeysThere m (client_end m) (trusted_end m)
  at_trusted = keys_there m (client_end m) w.trusted

  at_pairs : SuitesThere m (trusted_end m) (pairs_end m)
  at_pairs = suites_there m (trusted_end m) w.pairs

  at_methods : ShortThere 1 255 m (pairs_end m) (methods_end m)
  at_methods = short_there 1 255 m (pairs_end m) w.methods

  at_numbering : (numbering_end m ≡ methods_end m + 1) × (methods_end m + 1 ≤ length m)
  at_numbering = field_there m (methods_end m) 1 w.numbering

  at_refresh : (refresh_end m ≡ numbering_end m + 1) × (numbering_end m + 1 ≤ length m)
  at_refresh = field_there m (numbering_end m) 1 w.refresh

  body_found : body_of (given_at m found) ≡ drop 3 m
  unfolding found
  body_found =
      let v = given_at m found in
      let e9 : drop (refresh_end m) m ≡ [] = ap (λ (k : ℕ). drop k m) w.whole ∙ drop-length m in
      let e8 : drop (numbering_end m) m ≡ v.refresh ∷ [] =
      byte_piece m (numbering_end m) at_refresh.1
      ∙ ap (λ (k : ℕ). v.refresh ∷ drop k m) (sym at_refresh.0)
      ∙ ap (λ (l : List ℕ). v.refresh ∷ l) e9 in
      let e7 : drop (methods_end m) m ≡ v.numbering ∷ v.refresh ∷ [] =
      byte_piece m (methods_end m) at_numbering.1
      ∙ ap (λ (k : ℕ). v.numbering ∷ drop k m) (sym at_numbering.0)
      ∙ ap (λ (l : List ℕ). v.numbering ∷ l) e8 in
      let e6 : drop (pairs_end m) m ≡ short v.methods ++ (v.numbering ∷ v.refresh ∷ []) =
      short_piece 1 255 m (pairs_end m) (methods_end m) at_methods ∙ ap (λ (l : List ℕ). short v.methods ++ l) e7 in
      let e5 : drop (trusted_end m) m ≡ short v.suites ++ (short v.methods ++ (v.numbering ∷ v.refresh ∷ [])) =
      short_piece 2 255 m (trusted_end m) (pairs_end m) at_pairs.there ∙ ap (λ (l : List ℕ). short v.suites ++ l) e6 in
      let e4 : drop (client_end m) m ≡ long v.trusted ++ (short v.suites ++ (short v.methods ++ (v.numbering ∷ v.refresh ∷ []))) =
      long_piece m (client_end m) (trusted_end m) (b (client_end m)) (b (client_end m + 1)) at_trusted.there ∙ ap (λ (l : List ℕ). long v.trusted ++ l) e5 in
      let e3 : drop (session_end m) m ≡ long v.client ++ (long v.trusted ++ (short v.suites ++ (short v.methods ++ (v.numbering ∷ v.refresh ∷ [])))) =
      long_piece m (session_end m) (client_end m) (b (session_end m)) (b (session_end m + 1)) at_client.there ∙ ap (λ (l : List ℕ). long v.client ++ l) e4 in
      let e2 : drop (random_end m) m ≡ short v.session ++ (long v.client ++ (long v.trusted ++ (short v.suites ++ (short v.methods ++ (v.numbering ∷ v.refresh ∷ []))))) =
      short_piece 0 8 m (random_end m) (session_end m) at_session ∙ ap (λ (l : List ℕ). short v.session ++ l) e3 in
      let e1 : drop (version_end m) m ≡ v.random ++ (short v.session ++ (long v.client ++ (long v.trusted ++ (short v.suites ++ (short v.methods ++ (v.numbering ∷ v.refresh ∷ [])))))) =
      piece m (version_end m) 16 at_random.1
      ∙ ap (λ (k : ℕ). part_of m (version_end m) k ++ drop k m) (sym at_random.0)
      ∙ ap (λ (l : List ℕ). v.random ++ l) e2 in
      sym
      (byte_piece m 3 at_version.1
      ∙ ap (λ (k : ℕ). v.version ∷ drop k m) (sym at_version.0)
      ∙ ap (λ (l : List ℕ). v.version ∷ l) e1)

  found_again : hello_from (given_at m found) ≡ m
  found_again =
      ap (message_of client_hello) body_found ∙ filled_message client_hello m b (filled client_hello m w.kind)

  found_allowed : Allowed (given_at m found)
  unfolding found
  found_allowed =
      let s1 = short_size 0 8 m (random_end m) (session_end m) at_session in
      let s2 = short_size 2 255 m (trusted_end m) (pairs_end m) at_pairs.there in
      let s3 = short_size 1 255 m (pairs_end m) (methods_end m) at_methods in
      record {
        random_size = ap (λ (k : ℕ). length (part_of m (version_end m) k)) at_random.0 ∙ piece_size m (version_end m) 16 at_random.1;
        session_size = omega (arith, s1, at_session.below);
        client_list = at_client.entries;
        trusted_list = at_trusted.entries;
        suites_even = ap (λ (k : ℕ). k % 2) s2 ∙ at_pairs.even;
        suites_floor = omega (arith, s2, at_pairs.there.above);
        suites_ceiling = omega (arith, s2, at_pairs.there.below);
        methods_floor = omega (arith, s3, at_methods.above);
        methods_ceiling = omega (arith, s3, at_methods.below);
        size = omega (arith, ap length found_again, w.small);
      }

-- a message that reads as well-formed is the one that is written of its values
pub read_written : (m : List ℕ) → ((i : ℕ) → get_or m i 0 < 256) → (h : Hello) → read_of m ≡ Ok h
    → (given_allowed (given_at m h) ≡ true) × (hello_from (given_at m h) ≡ m)
unfolding found
read_written m b h e =
    let w = walked m h e in
    subst (λ (g : Hello). (given_allowed (given_at m g) ≡ true) × (hello_from (given_at m g) ≡ m)) w.places
    (allowed_of (given_at m (found m b h w)) (found_allowed m b h w), found_again m b h w)

keys_at : (m : List ℕ) (a e : ℕ) → long_end m a ≡ e → key_list (part_of m (a + 2) e) ≡ true → keys_end m a ≡ e
unfolding keys_end
keys_at m a e h k = rw (h, k) refl

suites_at : (m : List ℕ) (a e n : ℕ) → get_or m a 0 ≡ n → n % 2 ≡ 0 → short_end 2 255 m a ≡ e → suites_end m a ≡ e
unfolding suites_end
suites_at m a e n g h k = rw (g, eq-eqb (n % 2) 0 h) k

-- a hello that is written: what is left of it after each field, and where each field ends
module _ (v : Given) (w : Allowed v) where
  abbrev sent : List ℕ
  sent = hello_from v

  abbrev last : List ℕ
  last = v.numbering ∷ v.refresh ∷ []

  abbrev from_methods : List ℕ
  from_methods = short v.methods ++ last

  abbrev from_suites : List ℕ
  from_suites = short v.suites ++ from_methods

  abbrev from_trusted : List ℕ
  from_trusted = long v.trusted ++ from_suites

  abbrev from_client : List ℕ
  from_client = long v.client ++ from_trusted

  abbrev from_session : List ℕ
  from_session = short v.session ++ from_client

  abbrev s : ℕ
  s = 21 + length v.session

  abbrev c : ℕ
  c = s + 2 + length v.client

  abbrev t : ℕ
  t = c + 2 + length v.trusted

  abbrev p : ℕ
  p = t + 1 + length v.suites

  abbrev z : ℕ
  z = p + 1 + length v.methods

  r0 : rests.Rest sent 3 (body_of v)
  r0 = record { from = refl; size = omega arith }

  r1 : rests.Rest sent 4 (v.random ++ from_session)
  r1 = front_rest sent 3 1 (v.version ∷ []) (v.random ++ from_session) r0 refl

  r2 : rests.Rest sent 20 from_session
  r2 = front_rest sent 4 16 v.random from_session r1 w.random_size

  r3 : rests.Rest sent s from_client
  r3 = short_rest 0 8 sent 20 v.session from_client r2

  r4 : rests.Rest sent c from_trusted
  r4 = long_rest sent s v.client from_trusted r3

  r5 : rests.Rest sent t from_suites
  r5 = long_rest sent c v.trusted from_suites r4

  r6 : rests.Rest sent p from_methods
  r6 = short_rest 2 255 sent t v.suites from_methods r5

  r7 : rests.Rest sent z last
  r7 = short_rest 1 255 sent p v.methods last r6

  r8 : rests.Rest sent (z + 1) (v.refresh ∷ [])
  r8 = front_rest sent z 1 (v.numbering ∷ []) (v.refresh ∷ []) r7 refl

  r9 : rests.Rest sent (z + 1 + 1) []
  r9 = front_rest sent (z + 1) 1 (v.refresh ∷ []) [] r8 refl

  e1 : version_end sent ≡ 4
  e1 = front_end sent 3 1 (v.version ∷ []) (v.random ++ from_session) r0 refl

  e2 : random_end sent ≡ 20
  e2 =
      ap (λ (a : ℕ). field_end sent a 16) e1
      ∙ front_end sent 4 16 v.random from_session r1 w.random_size

  e3 : session_end sent ≡ s
  e3 =
      ap (short_end 0 8 sent) e2
      ∙ short_end_lem 0 8 sent 20 v.session from_client r2 (omega arith) w.session_size

  e4 : client_end sent ≡ c
  e4 =
      ap (keys_end sent) e3
      ∙ keys_at sent s c (long_end_lem sent s v.client from_trusted r3 (omega (arith, r4.size, w.size)))
      (ap key_list (long_part sent s v.client from_trusted r3) ∙ w.client_list)

  e5 : trusted_end sent ≡ t
  e5 =
      ap (keys_end sent) e4
      ∙ keys_at sent c t (long_end_lem sent c v.trusted from_suites r4 (omega (arith, r5.size, w.size)))
      (ap key_list (long_part sent c v.trusted from_suites r4) ∙ w.trusted_list)

  e6 : pairs_end sent ≡ p
  e6 =
      ap (suites_end sent) e5
      ∙ suites_at sent t p (length v.suites) (rest_byte sent t (length v.suites) (v.suites ++ from_methods) r5)
      w.suites_even
      (short_end_lem 2 255 sent t v.suites from_methods r5 w.suites_floor w.suites_ceiling)

  e7 : methods_end sent ≡ z
  e7 =
      ap (short_end 1 255 sent) e6
      ∙ short_end_lem 1 255 sent p v.methods last r6 w.methods_floor w.methods_ceiling

  e8 : numbering_end sent ≡ z + 1
  e8 = ap (λ (a : ℕ). field_end sent a 1) e7 ∙ front_end sent z 1 (v.numbering ∷ []) (v.refresh ∷ []) r7 refl

  e9 : refresh_end sent ≡ z + 1 + 1
  e9 = ap (λ (a : ℕ). field_end sent a 1) e8 ∙ front_end sent (z + 1) 1 (v.refresh ∷ []) [] r8 refl

  kind_sent : Filled client_hello sent
  kind_sent = record { long_enough = omega arith; type = refl; size = omega (arith, w.size) }

  walked_sent : Walked sent (places_from v)
  walked_sent =
      record {
        kind = fills_of client_hello sent kind_sent;
        small = w.size;
        version = λ q. omega (arith, e1, q);
        random = λ q. omega (arith, e2, q);
        session = λ q. omega (arith, e3, q);
        client = λ q. omega (arith, e4, q);
        trusted = λ q. omega (arith, e5, q);
        pairs = λ q. omega (arith, e6, q);
        methods = λ q. omega (arith, e7, q);
        numbering = λ q. omega (arith, e8, q);
        refresh = λ q. omega (arith, e9, q);
        whole = omega (arith, e9, r9.size);
        places = λ i. placed (e1 i) (e2 i) (e3 i) (e4 i) (e5 i) (e6 i) (e7 i) (e8 i) (e9 i);
      }

  values_sent : given_at sent (places_from v) ≡ v
  values_sent =
      let a0 = rest_byte sent 3 v.version (v.random ++ from_session) r0 in
      let a1 = front_part sent 4 16 v.random from_session r1 w.random_size in
      let a2 = short_part 0 8 sent 20 v.session from_client r2 in
      let a3 = long_part sent s v.client from_trusted r3 in
      let a4 = long_part sent c v.trusted from_suites r4 in
      let a5 = short_part 2 255 sent t v.suites from_methods r5 in
      let a6 = short_part 1 255 sent p v.methods last r6 in
      let a7 = rest_byte sent z v.numbering (v.refresh ∷ []) r7 in
      let a8 = rest_byte sent (z + 1) v.refresh [] r8 in
      λ i.
      record {
        version = a0 i;
        random = a1 i;
        session = a2 i;
        client = a3 i;
        trusted = a4 i;
        suites = a5 i;
        methods = a6 i;
        numbering = a7 i;
        refresh = a8 i;
      }

-- what is written is read back, with the same values
pub written_read : (v : Given) → given_allowed v ≡ true
    → (read_of (hello_from v) ≡ Ok (places_from v)) × (given_at (hello_from v) (places_from v) ≡ v)
written_read v h =
    let w = allowed_parts v h in
    (reads (hello_from v) (places_from v) (walked_sent v w), values_sent v w)

-- how long a hello is
pub length_hello : (v : Given)
    → length (hello_from v)
    ≡ 13 + length v.random + length v.session + length v.client + length v.trusted + length v.suites + length v.methods
length_hello v =
    let last = v.numbering ∷ v.refresh ∷ [] in
    let a = length-append v.methods last in
    let b = length-append v.suites (short v.methods ++ last) in
    let c = length-append v.trusted (short v.suites ++ (short v.methods ++ last)) in
    let d = length-append v.client (long v.trusted ++ (short v.suites ++ (short v.methods ++ last))) in
    let e = length-append v.session (long v.client ++ (long v.trusted ++ (short v.suites ++ (short v.methods ++ last)))) in
    let f = length-append v.random (short v.session ++ (long v.client ++ (long v.trusted ++ (short v.suites ++ (short v.methods ++ last))))) in
    omega (arith, a, b, c, d, e, f)

-- what is sent, by the tests of the values
pub sent_none : (v : Given) → given_allowed v ≡ false → sent_of v ≡ []
unfolding sent_of
sent_none v h = rw h refl

pub sent_hello : (v : Given) → given_allowed v ≡ true → sent_of v ≡ hello_from v
unfolding sent_of
sent_hello v h = rw h refl

pub not_fields : (v : Given) → fields_given v.random v.session v.client v.trusted ≡ false → given_allowed v ≡ false
unfolding given_allowed
not_fields v h = rw h refl

pub not_offers : (v : Given) → fields_given v.random v.session v.client v.trusted ≡ true
    → offers_allowed v.suites v.methods ≡ false → given_allowed v ≡ false
unfolding given_allowed
not_offers v g h = rw (g, h) refl

pub by_size : (v : Given) (b : Bool) → fields_given v.random v.session v.client v.trusted ≡ true
    → offers_allowed v.suites v.methods ≡ true → leb (length (hello_from v)) 256 ≡ b → given_allowed v ≡ b
unfolding given_allowed
by_size v b g h k = rw (g, h) k

pub size_none : (v : Given) → given_allowed v ≡ false → 0 ≡ length (sent_of v)
size_none v h = ap length (sym (sent_none v h))

pub size_hello : (v : Given) → given_allowed v ≡ true → length (hello_from v) ≡ length (sent_of v)
size_hello v h = ap length (sym (sent_hello v h))

-- values that make a hello too long
pub too_long : (v : Given) → fields_given v.random v.session v.client v.trusted ≡ true
    → offers_allowed v.suites v.methods ≡ true → 256 < length (hello_from v) → 0 ≡ length (sent_of v)
too_long v g h k = size_none v (by_size v false g h (lt-leb (length (hello_from v)) 256 k))

-- and those that do not
pub short_enough : (v : Given) → fields_given v.random v.session v.client v.trusted ≡ true
    → offers_allowed v.suites v.methods ≡ true → length (hello_from v) ≤ 256 → length (hello_from v) ≡ length (sent_of v)
short_enough v g h k = size_hello v (by_size v true g h (le-leb (length (hello_from v)) 256 k))

-- where something is sent, the values are allowed
pub sent_allowed : (v : Given) → (length (sent_of v) ≡ 0 → ⊥) → given_allowed v ≡ true
unfolding sent_of
sent_allowed v h = go (given_allowed v) h
  where
    go : (b : Bool) → (length (pick b (hello_from v) []) ≡ 0 → ⊥) → b ≡ true
    go true k = refl
    go false k = absurd (k refl)

-- the pieces of a hello, put one after the other
pub put_hello : (v : Given) (size : ℕ) → size ≡ length (hello_from v) → size ≤ 256
    → (o o1 o2 o3 o4 o5 o6 o7 o8 : List ℕ) (a1 a2 a3 a4 a5 a6 a7 a8 : ℕ)
    → Puts (1 ∷ (size - 3) / 256 ∷ (size - 3) % 256 ∷ v.version ∷ []) o 0 o1 a1
    → Puts v.random o1 a1 o2 a2
    → Puts (short v.session) o2 a2 o3 a3
    → Puts (long v.client) o3 a3 o4 a4
    → Puts (long v.trusted) o4 a4 o5 a5
    → Puts (short v.suites) o5 a5 o6 a6
    → Puts (short v.methods) o6 a6 o7 a7
    → Puts (v.numbering ∷ v.refresh ∷ []) o7 a7 o8 a8
    → Puts (hello_from v) o 0 o8 a8
put_hello v size e k o o1 o2 o3 o4 o5 o6 o7 o8 a1 a2 a3 a4 a5 a6 a7 a8 p1 p2 p3 p4 p5 p6 p7 p8 =
    let last = v.numbering ∷ v.refresh ∷ [] in
    let l7 = short v.methods ++ last in
    let l6 = short v.suites ++ l7 in
    let l5 = long v.trusted ++ l6 in
    let l4 = long v.client ++ l5 in
    let l3 = short v.session ++ l4 in
    let l2 = v.random ++ l3 in
    let h : (size - 3) / 256 ≡ length (body_of v) / 256 % 256 = omega arith in
    let g : (size - 3) % 256 ≡ length (body_of v) % 256 = omega arith in
    let q1 : Puts (1 ∷ length (body_of v) / 256 % 256 ∷ length (body_of v) % 256 ∷ v.version ∷ []) o 0 o1 a1 =
    subst (λ (x : ℕ). Puts (1 ∷ length (body_of v) / 256 % 256 ∷ x ∷ v.version ∷ []) o 0 o1 a1) g
    (subst (λ (x : ℕ). Puts (1 ∷ x ∷ (size - 3) % 256 ∷ v.version ∷ []) o 0 o1 a1) h p1) in
    put_on _ l2 o o1 o8 0 a1 a8 q1
    (put_on v.random l3 o1 o2 o8 a1 a2 a8 p2
    (put_on (short v.session) l4 o2 o3 o8 a2 a3 a8 p3
    (put_on (long v.client) l5 o3 o4 o8 a3 a4 a8 p4
    (put_on (long v.trusted) l6 o4 o5 o8 a4 a5 a8 p5
    (put_on (short v.suites) l7 o5 o6 o8 a5 a6 a8 p6 (put_on (short v.methods) last o6 o7 o8 a6 a7 a8 p7 p8))))))
