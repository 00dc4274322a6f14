-- Both hellos: what the unit writes of its offer the shore accepts, and what the shore answers the unit agrees to, with the same plan.
use mathlib.Core.Path.{◌≡◌, refl, sym, ◌∙◌, ap}
use mathlib.Core.Bool.{true}
use mathlib.Core.List.{List, [], ◌∷◌, ◌++◌}
use Prim.Native.Nat.{ℕ, ◌%◌}
use native.Mathlib.Omega.{arith}
use lib.ListN.{length}
use lib.Seq.{take_at, length-take-le}
use lib.Dec.{leb}
use borrow.Author.Tests.{eq-eqb, le-leb, le-ltb}
use Rattle.digest.specs.Hmac.{hmac}
use Rattle.digest.specs.Sha1.{sha1}
use Rattle.digest.specs.Expansion.{prf, expansion, terms, chain}
use Rattle.digest.specs.Mac.{number_of, listed_as, same_bytes}
use Rattle.digest.proofs.Codes.{length_hmac}
use Rattle.digest.proofs.Same.{same_self}
use Rattle.digest.specs.declared.mac.Mac.{Mac}
use Rattle.digest.specs.declared.mac.Mac.TheVariants as M
use Rattle.std.specs.Prelude.{Some}
use Rattle.message.specs.Acceptance.{planned, heard_of}
use Rattle.message.specs.Agreement.{chosen_of, agreed_of, agreed_with, agreed_as, agreement_of}
use Rattle.message.specs.Entry.{list_bytes, list_allowed}
use Rattle.message.specs.Finished.{server_verify, server_label}
use Rattle.message.specs.Given.{offers_allowed}
use Rattle.message.specs.Offer.{kinds_named, suites_of, offer_hello}
use Rattle.message.specs.Said.{FirstPair}
use Rattle.message.specs.Server.{server_hello_of}
use Rattle.message.specs.ServerHello.{ServerValues, server_allowed}
use Rattle.message.specs.Values.{Values, hello_of, fields_allowed, allowed}
use Rattle.message.specs.declared.acceptance.Plan.{Plan}
use Rattle.message.specs.declared.acceptance.Unheard.TheVariants as H
use Rattle.message.specs.declared.agreement.Disagreed.TheVariants as G
use Rattle.message.specs.declared.offer.Kinds.{Kinds as Offered}
use Rattle.message.specs.declared.offer.Kinds.TheVariants as K
use Rattle.message.specs.declared.offer.Offer.{Offer}
use Rattle.message.proofs.Saying.{heard_only}
use Rattle.message.proofs.ServerHellos.{server_hellos_as_written}
use Rattle.connection.specs.Reply.{client_random}
use Rattle.unit.specs.Agree.{server_random}
use Rattle.unit.proofs.Greeting.{suites, hello_most}
use Rattle.ends.specs.InOrder.{Kinds, sha80, sha, sha80_first, sha_first}
use Rattle.std.specs.Prelude.{Ok, Some}

-- ---- the kinds offered, and the first of them

pub offered_in : {l : List ℕ} → Kinds l → Offered
offered_in sha80 = K.Sha80
offered_in sha = K.Sha
offered_in sha80_first = K.Sha80First
offered_in sha_first = K.ShaFirst

pub named : {l : List ℕ} (k : Kinds l) → kinds_named l ≡ Some (offered_in k)
unfolding kinds_named same_bytes offered_in
named sha80 = refl
named sha = refl
named sha80_first = refl
named sha_first = refl

abbrev pub chosen : Offered → Mac
chosen K.Sha80 = M.Sha80
chosen K.Sha = M.Sha
chosen K.Sha80First = M.Sha80
chosen K.ShaFirst = M.Sha

first_pair : (kinds : Offered) → FirstPair (suites_of kinds) (chosen kinds)
first_pair K.Sha80 = record { place = 0; there = omega arith; cipher = refl; kind = refl; none_before = λ k l f. omega arith }
first_pair K.Sha = record { place = 0; there = omega arith; cipher = refl; kind = refl; none_before = λ k l f. omega arith }
first_pair K.Sha80First = record { place = 0; there = omega arith; cipher = refl; kind = refl; none_before = λ k l f. omega arith }
first_pair K.ShaFirst = record { place = 0; there = omega arith; cipher = refl; kind = refl; none_before = λ k l f. omega arith }

chosen_listed : (kinds : Offered) → chosen_of 0 (number_of (chosen kinds)) kinds ≡ Some (chosen kinds)
unfolding chosen_of listed_as
chosen_listed K.Sha80 = refl
chosen_listed K.Sha = refl
chosen_listed K.Sha80First = refl
chosen_listed K.ShaFirst = refl

module _ (random id : List ℕ) (offer : Offer) (lr : length random ≡ 16) (li : length id ≡ 8) where
  abbrev pub plan_for : Plan
  plan_for = planned (chosen offer.kinds) offer.refresh

  -- ---- the ClientHello, as values

  abbrev said_values : Values
  said_values =
      record { version = 1; random = random; session = id; client = []; trusted = []; suites = suites_of offer.kinds; methods = 0 ∷ []; numbering = 2; refresh = offer.refresh }

  said_is : hello_of said_values ≡ offer_hello random id offer
  unfolding offer_hello list_bytes
  said_is = refl

  said_allowed : allowed said_values ≡ true
  unfolding allowed fields_allowed offers_allowed list_allowed
  said_allowed =
      let s = suites offer.kinds in
      let small : leb (length (hello_of said_values)) 256 ≡ true
      = le-leb (length (hello_of said_values)) 256 (omega (arith, ap length said_is, hello_most random id offer lr li)) in
      rw (
        eq-eqb (length random) 16 lr,
        le-leb (length id) 8 (omega (arith, li)),
        eq-eqb (length (suites_of offer.kinds) % 2) 0 s.even,
        le-leb 2 (length (suites_of offer.kinds)) s.some,
        le-leb (length (suites_of offer.kinds)) 255 (omega (arith, s.few)),
        small,
      )
      refl

  pub hello_heard : heard_of (offer_hello random id offer) id ≡ Ok plan_for
  hello_heard =
      ap (λ m. heard_of m id) (sym said_is)
      ∙ heard_only said_values id said_allowed (Ok plan_for)
      (record {
        known = record { version = refl; session = refl };
        pair = first_pair offer.kinds;
        compression = (0, omega arith, refl);
        numbering = refl;
        refresh = refl;
        key = refl;
      })

  pub hello_random : client_random (offer_hello random id offer) ≡ random
  unfolding offer_hello
  hello_random = take_at random _ 16 lr

  -- ---- the ServerHello

  module _ (server : List ℕ) (ls : length server ≡ 16) where
    abbrev answered_values : ServerValues
    answered_values =
        record { version = 1; random = server; session = id; key = 0; cipher = 0; mac = number_of (chosen offer.kinds); compression = 0; numbering = 2; refresh = offer.refresh }

    abbrev pub answer_of : List ℕ
    answer_of = server_hello_of server id plan_for

    answered_allowed : server_allowed answered_values ≡ true
    answered_allowed = rw (eq-eqb (length server) 16 ls) (le-leb (length id) 8 (omega (arith, li)))

    terms_met : agreed_with answered_values id offer ≡ Ok plan_for
    unfolding agreed_of
    terms_met =
        rw (same_self id, chosen_listed offer.kinds, le-ltb offer.refresh offer.refresh (omega arith)) refl

    pub answer_agreed : agreement_of answer_of id offer ≡ Ok plan_for
    unfolding agreement_of
    answer_agreed =
        let w = server_hellos_as_written.written answered_values answered_allowed in
        ap (agreed_as answer_of id offer) w.0 ∙ ap (λ (v : ServerValues). agreed_with v id offer) w.1 ∙ terms_met

    pub answer_random : server_random answer_of ≡ server
    answer_random = take_at server _ 16 ls

-- ---- verify data

verify_size : (secret label seed : List ℕ) → length (prf secret label seed 12) ≡ 12
unfolding prf expansion terms
verify_size secret label seed =
    length-take-le 12 (hmac secret (chain (hmac secret) (label ++ seed) 1 ++ (label ++ seed)))
    (omega (arith, length_hmac secret (chain (hmac secret) (label ++ seed) 1 ++ (label ++ seed))))

pub server_size : (secret client server : List ℕ) → length (server_verify secret client server) ≡ 12
unfolding server_verify
server_size secret client server = verify_size secret server_label (sha1 (client ++ server))
