-- The worked handshake, by which the premises of the statements are seen to be met: a session, a hello, and our random.
use Rattle.std.specs.Prelude.{List, [], ◌∷◌, ℕ, replicate}
use Rattle.digest.specs.declared.mac.Mac.TheVariants.{Sha80, Sha}
use Rattle.message.specs.declared.acceptance.Plan.{Plan}

abbrev pub example_id : List ℕ
example_id = 0xa0 ∷ 0xa1 ∷ 0xa2 ∷ 0xa3 ∷ 0xa4 ∷ 0xa5 ∷ 0xa6 ∷ 0xa7 ∷ []

abbrev pub example_secret : List ℕ
example_secret = replicate 20 0x42

abbrev pub example_width : ℕ
example_width = 64

-- a version, its random, the identifier, no keys, null cipher with one MAC kind, null compression, explicit numbering,
-- refresh 3
abbrev pub hello_as : ℕ → ℕ → List ℕ
hello_as version mac =
    0x01 ∷ 0x00 ∷ 0x25
    ∷ version
    ∷ 0x10 ∷ 0x11 ∷ 0x12 ∷ 0x13 ∷ 0x14 ∷ 0x15 ∷ 0x16 ∷ 0x17 ∷ 0x18 ∷ 0x19 ∷ 0x1a ∷ 0x1b ∷ 0x1c ∷ 0x1d ∷ 0x1e ∷ 0x1f
    ∷ 0x08 ∷ 0xa0 ∷ 0xa1 ∷ 0xa2 ∷ 0xa3 ∷ 0xa4 ∷ 0xa5 ∷ 0xa6 ∷ 0xa7
    ∷ 0x00 ∷ 0x00
    ∷ 0x00 ∷ 0x00
    ∷ 0x02 ∷ 0x00 ∷ mac
    ∷ 0x01 ∷ 0x00
    ∷ 0x02
    ∷ 0x03 ∷ []

-- of version 1, with SHA_80, and with SHA
abbrev pub example_hello : List ℕ
example_hello = hello_as 1 2

abbrev pub sha_hello : List ℕ
sha_hello = hello_as 1 3

abbrev pub example_random : List ℕ
example_random = replicate 16 0x80

abbrev pub example_plan : Plan
example_plan = record { mac = Sha80; refresh = 3; key = 0 }

abbrev pub sha_plan : Plan
sha_plan = record { mac = Sha; refresh = 3; key = 0 }

-- room as listed, and data to send
abbrev pub example_out : List ℕ
example_out = replicate 128 0

abbrev pub example_data : List ℕ
example_data = 0x72 ∷ 0x65 ∷ 0x70 ∷ 0x6f ∷ 0x72 ∷ 0x74 ∷ []
