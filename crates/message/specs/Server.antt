-- The ServerHello (002 10.5.1.3; 01, Handshake and profile).
use Rattle.std.specs.Prelude.{List, [], ◌∷◌, ◌++◌, ℕ, length, leb, eqb}
use Rattle.digest.specs.Pick.{pick}
use Rattle.digest.specs.Mac.{number_of}
use Rattle.message.specs.Field.{short, both}
use Rattle.message.specs.Handshake.{message_of, server_hello}
use Rattle.message.specs.declared.acceptance.Plan.{Plan}

-- ServerHello: server_version 1, random, session_id, client_key_id, cipher_suite (null and the MAC of the plan),
-- compression_method null, sequence_number_mode explicit(2), key_refresh
abbrev pub server_body : List ℕ → List ℕ → Plan → List ℕ
server_body random session plan =
    (1 ∷ [])
    ++ (random ++ (short session ++ (plan.key ∷ 0 ∷ number_of plan.mac ∷ 0 ∷ 2 ∷ plan.refresh ∷ [])))

abbrev pub server_hello_of : List ℕ → List ℕ → Plan → List ℕ
server_hello_of random session plan = message_of server_hello (server_body random session plan)

-- what is written: opaque random[16], SessionID<0..8>; nothing for others
unfoldable pub reply_of : List ℕ → List ℕ → Plan → List ℕ
reply_of random session plan =
    pick (both (eqb (length random) 16) (leb (length session) 8)) (server_hello_of random session plan) []
