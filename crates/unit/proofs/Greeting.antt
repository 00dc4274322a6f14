-- The hello: what is written of an offer, its size, and the message at the front of its place.
use mathlib.Core.Path.{◌≡◌, refl, sym, ◌∙◌, ap, ap₂}
use mathlib.Core.Bool.{true, false}
use mathlib.Core.List.{List, [], ◌∷◌, ◌++◌}
use Prim.Native.Nat.{ℕ, ◌+◌, ◌-◌, ◌%◌, ◌≤◌, ◌<◌}
use native.Mathlib.Omega.{arith}
use native.Mathlib.Nat.{zero-add}
use lib.ListN.{length, take, drop, replicate, length-append, length-replicate}
use lib.Seq.{take_at}
use lib.Dec.{leb}
use borrow.Author.Tests.{le-leb}
use Rattle.digest.specs.Bytes.{laid_over}
use Rattle.digest.proofs.Codes.{laid_zeros}
use Rattle.record.specs.declared.header.Content.TheVariants as C
use Rattle.record.proofs.Fronts.{record_length}
use Rattle.message.specs.Buffer.{over, fitting}
use Rattle.message.specs.Field.{short}
use Rattle.message.specs.Given.{given_of, hello_from, sent_of}
use Rattle.message.specs.Keys.{key_list, entries_from}
use Rattle.message.specs.Offer.{suites_of, pairs_size, offer_given, offer_hello}
use Rattle.message.specs.declared.offer.Kinds.{Kinds}
use Rattle.message.specs.declared.offer.Kinds.TheVariants.{Sha80, Sha, Sha80First, ShaFirst}
use Rattle.message.specs.declared.offer.Offer.{Offer}
use Rattle.message.proofs.Givens.{allowed_of}
use Rattle.connection.specs.Reply.{pad_to}
use Rattle.unit.specs.Hello.{hello_datagram}

pub record Suites (kinds : Kinds) : Type 0 where
  pub size : length (suites_of kinds) ≡ pairs_size kinds
  pub even : length (suites_of kinds) % 2 ≡ 0
  pub some : 2 ≤ length (suites_of kinds)
  pub few : length (suites_of kinds) ≤ 4

pub suites : (kinds : Kinds) → Suites kinds
suites Sha80 = record { size = refl; even = refl; some = omega arith; few = omega arith }
suites Sha = record { size = refl; even = refl; some = omega arith; few = omega arith }
suites Sha80First = record { size = refl; even = refl; some = omega arith; few = omega arith }
suites ShaFirst = record { size = refl; even = refl; some = omega arith; few = omega arith }

given_size : (random id pairs : List ℕ) (refresh : ℕ)
    → length (hello_from (given_of 1 random id [] [] pairs (0 ∷ []) 2 refresh)) ≡ 14 + length random + length id + length pairs
given_size random id pairs refresh =
    let end : List ℕ = 1 ∷ 0 ∷ 2 ∷ refresh ∷ [] in
    let middle : List ℕ = 0 ∷ 0 ∷ 0 ∷ 0 ∷ (short pairs ++ end) in
    omega (arith, length-append random (short id ++ middle), length-append id middle, length-append pairs end)

no_keys : key_list [] ≡ true
unfolding key_list entries_from
no_keys = refl

module _ (random id : List ℕ) (offer : Offer) (lr : length random ≡ 16) (li : length id ≡ 8) where
  pub hello_size_lem : length (offer_hello random id offer) ≡ 38 + pairs_size offer.kinds
  unfolding offer_hello
  hello_size_lem =
      omega (arith, given_size random id (suites_of offer.kinds) offer.refresh, (suites offer.kinds).size, lr, li)

  pub hello_most : length (offer_hello random id offer) ≤ 42
  hello_most = omega (arith, hello_size_lem, (suites offer.kinds).size, (suites offer.kinds).few)

  -- what the writer writes
  pub offer_sent : sent_of (offer_given random id offer) ≡ offer_hello random id offer
  unfolding sent_of offer_hello
  offer_sent =
      let s = suites offer.kinds in
      let can = allowed_of (offer_given random id offer) (record {
        random_size = lr;
        session_size = omega (arith, li);
        client_list = no_keys;
        trusted_list = no_keys;
        suites_even = s.even;
        suites_floor = s.some;
        suites_ceiling = omega (arith, s.few);
        methods_floor = omega arith;
        methods_ceiling = omega arith;
        size = omega (arith, given_size random id (suites_of offer.kinds) offer.refresh, s.few, lr, li);
      }) in
      rw can refl

over_zeros : (n : ℕ) (p : List ℕ) → length p ≤ n → over (replicate n 0) p ≡ pad_to n p
unfolding laid_over
over_zeros n p h = ap (λ k. p ++ drop k (replicate n 0)) (sym (zero-add (length p))) ∙ laid_zeros n p h

-- the hello at the front of its place, and its size
pub message_is : (random id : List ℕ) (offer : Offer) (bytes : List ℕ) (size : ℕ) → length random ≡ 16 → length id ≡ 8
    → size ≡ length (fitting (length {A = ℕ} (replicate 42 0)) (sent_of (offer_given random id offer)))
    → bytes ≡ over (replicate 42 0) (fitting (length {A = ℕ} (replicate 42 0)) (sent_of (offer_given random id offer)))
    → (bytes ≡ pad_to 42 (offer_hello random id offer)) × (size ≡ length (offer_hello random id offer))
message_is random id offer bytes size lr li es eb =
    let p = offer_hello random id offer in
    let room : length {A = ℕ} (replicate 42 0) ≡ 42 = length-replicate {A = ℕ} 42 0 in
    let fits : leb (length p) (length {A = ℕ} (replicate 42 0)) ≡ true = le-leb (length p) (length {A = ℕ} (replicate 42 0)) (omega (arith, room, hello_most random id offer lr li)) in
    let is : fitting (length {A = ℕ} (replicate 42 0)) (sent_of (offer_given random id offer)) ≡ p
    = ap (fitting (length {A = ℕ} (replicate 42 0))) (offer_sent random id offer lr li) ∙ rw fits refl in
    (eb ∙ ap (over (replicate 42 0)) is ∙ over_zeros 42 p (hello_most random id offer lr li), es ∙ ap length is)

-- the front of a padded message is the message
pub front_of : (n : ℕ) (p bytes : List ℕ) (size : ℕ) → bytes ≡ pad_to n p → size ≡ length p → take size bytes ≡ p
front_of n p bytes size eb es = ap₂ take es eb ∙ take_at p (replicate (n - length p) 0) (length p) refl

pub length_padded : (n : ℕ) (p : List ℕ) → length p ≤ n → length (pad_to n p) ≡ n
length_padded n p h = omega (arith, length-append p (replicate (n - length p) 0), length-replicate {A = ℕ} (n - length p) 0)

-- a hello's datagram is never empty
pub datagram_some : (id random : List ℕ) (offer : Offer) → 0 < length (hello_datagram id random offer)
unfolding hello_datagram
datagram_some id random offer = omega (arith, record_length false false C.Handshake 0 (offer_hello random id offer))
