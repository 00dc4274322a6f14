-- What a unit offers (02, P7; 002 10.5.1.2; 01, profile: null cipher with SHA_80 or SHA, null compression, explicit numbering).
use Rattle.std.specs.Prelude.{List, [], ◌∷◌, Bool, true, false, ℕ, take, None, Option, Some}
use Rattle.digest.specs.Pick.{pick}
use Rattle.digest.specs.Mac.{same_bytes}
use Rattle.digest.specs.declared.mac.Mac.{Mac}
use Rattle.digest.specs.declared.mac.Mac.TheVariants as M
use Rattle.message.specs.Given.{Given, given_of, hello_from}
use Rattle.message.specs.declared.offer.Kinds.{Kinds}
use Rattle.message.specs.declared.offer.Kinds.TheVariants.{Sha80, Sha, Sha80First, ShaFirst}
use Rattle.message.specs.declared.offer.Offer.{Offer}

-- MAC kinds in order: one or both of SHA_80, 2, and SHA, 3 (appendix A, table 6), without repetition
unfoldable pub kinds_named : List ℕ → Option Kinds
kinds_named s =
    pick (same_bytes s (2 ∷ [])) (Some Sha80)
    (pick (same_bytes s (3 ∷ [])) (Some Sha)
    (pick (same_bytes s (2 ∷ 3 ∷ [])) (Some Sha80First) (pick (same_bytes s (3 ∷ 2 ∷ [])) (Some ShaFirst) None)))

-- whether a kind is among them
abbrev pub offers : Kinds → Mac → Bool
offers Sha80 M.Sha80 = true
offers Sha80 M.Sha = false
offers Sha M.Sha80 = false
offers Sha M.Sha = true
offers Sha80First mac = true
offers ShaFirst mac = true

-- cipher_suites: pairs of the null cipher and a MAC kind, which stand at the front of four bytes
abbrev pub pairs_of : Kinds → List ℕ
pairs_of Sha80 = 0 ∷ 2 ∷ 0 ∷ 0 ∷ []
pairs_of Sha = 0 ∷ 3 ∷ 0 ∷ 0 ∷ []
pairs_of Sha80First = 0 ∷ 2 ∷ 0 ∷ 3 ∷ []
pairs_of ShaFirst = 0 ∷ 3 ∷ 0 ∷ 2 ∷ []

abbrev pub pairs_size : Kinds → ℕ
pairs_size Sha80 = 2
pairs_size Sha = 2
pairs_size Sha80First = 4
pairs_size ShaFirst = 4

abbrev pub suites_of : Kinds → List ℕ
suites_of kinds = take (pairs_size kinds) (pairs_of kinds)

-- client_version 1, the random, the session_id, no key ids ("MAY omit"), the pairs, compression null, explicit(2), key_refresh
abbrev pub offer_given : List ℕ → List ℕ → Offer → Given
offer_given random session offer =
    given_of 1 random session [] [] (suites_of offer.kinds) (0 ∷ []) 2 offer.refresh

-- the ClientHello of an offer
unfoldable pub offer_hello : List ℕ → List ℕ → Offer → List ℕ
offer_hello random session offer = hello_from (offer_given random session offer)
