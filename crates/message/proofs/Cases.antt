-- Small cases of the definitions: a hello of 256 bytes is read and accepted, one of 257 is not read; of two pairs that fit
-- the first is chosen; a ServerHello byte by byte.
use mathlib.Core.Path.{◌≡◌, refl, ap}
use mathlib.Core.List.{List, [], ◌∷◌}
use Prim.Native.Nat.{ℕ}
use lib.ListN.{length, replicate}
use Rattle.digest.specs.Mac.{listed_as, same_bytes}
use Rattle.digest.specs.declared.mac.Mac.TheVariants.{Sha80}
use Rattle.message.specs.Field.{field_end, short_end, long_end}
use Rattle.message.specs.Handshake.{fills}
use Rattle.message.specs.Keys.{specifier_end, identifier_end, entry_end, entries_from, key_list, keys_end}
use Rattle.message.specs.Hello.{suites_end, walk_on, read_of}
use Rattle.message.specs.Given.{Given, given_of, hello_from}
use Rattle.message.specs.Acceptance.{fits_pair, first_fit, has_null, accepted_of, heard_of, heard_number}
use Rattle.message.specs.Server.{reply_of}
use Rattle.message.specs.declared.hello.Field.TheVariants.{Size}
use Rattle.message.specs.declared.acceptance.Unheard.TheVariants.{Malformed}
use Rattle.std.specs.Prelude.{Err, Ok}

pub identifier : List ℕ
identifier = replicate 8 5

-- version 1, no keys, the one pair (0, 2), n times null compression, explicit numbering, refresh 3
pub padded : ℕ → Given
padded n = given_of 1 (replicate 16 7) (replicate 8 5) [] [] (0 ∷ 2 ∷ []) (replicate n 0) 2 3

pub size_256 : length (hello_from (padded 217)) ≡ 256
unfolding padded
size_256 = refl

pub heard_256 : heard_of (hello_from (padded 217)) identifier ≡ Ok (record { mac = Sha80; refresh = 3; key = 0 })
unfolding padded identifier heard_of accepted_of has_null first_fit fits_pair read_of walk_on suites_end keys_end key_list entries_from entry_end identifier_end specifier_end fills long_end short_end field_end listed_as same_bytes
heard_256 = refl

pub size_257 : length (hello_from (padded 218)) ≡ 257
unfolding padded
size_257 = refl

pub heard_257 : heard_of (hello_from (padded 218)) identifier ≡ Err (Malformed Size)
unfolding padded identifier heard_of accepted_of has_null first_fit fits_pair read_of walk_on suites_end keys_end key_list entries_from entry_end identifier_end specifier_end fills long_end short_end field_end listed_as same_bytes
heard_257 = refl

pub heard_257_number : heard_number (heard_of (hello_from (padded 218)) identifier) ≡ 12
heard_257_number = ap heard_number heard_257

-- (0, 3) before (0, 2), and behind a pair that does not fit
pub first_of_two : first_fit (0 ∷ 3 ∷ 0 ∷ 2 ∷ []) ≡ 3
unfolding first_fit fits_pair
first_of_two = refl

pub first_that_fits : first_fit (1 ∷ 2 ∷ 0 ∷ 1 ∷ 0 ∷ 3 ∷ 0 ∷ 2 ∷ []) ≡ 3
unfolding first_fit fits_pair
first_that_fits = refl

-- 35 bytes: type 2, length 32, version 1, random, identifier with its length, key number 0, null cipher and SHA_80, null
-- compression, explicit numbering, refresh 3
pub server_layout : reply_of (replicate 16 7) (replicate 8 5) (record { mac = Sha80; refresh = 3; key = 0 })
    ≡ 2 ∷ 0 ∷ 32 ∷ 1
    ∷ 7 ∷ 7 ∷ 7 ∷ 7 ∷ 7 ∷ 7 ∷ 7 ∷ 7 ∷ 7 ∷ 7 ∷ 7 ∷ 7 ∷ 7 ∷ 7 ∷ 7 ∷ 7
    ∷ 8 ∷ 5 ∷ 5 ∷ 5 ∷ 5 ∷ 5 ∷ 5 ∷ 5 ∷ 5
    ∷ 0 ∷ 0 ∷ 2 ∷ 0 ∷ 2 ∷ 3 ∷ []
unfolding reply_of
server_layout = refl
