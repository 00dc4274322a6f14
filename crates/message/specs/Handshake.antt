-- The handshake message (002 10.5).
use Rattle.std.specs.Prelude.{List, ◌∷◌, ◌++◌, Bool, false, ℕ, ◌-◌, length, get_or, leb, eqb}
use Rattle.digest.specs.Pick.{pick}
use Rattle.digest.specs.Bytes.{bytes2}
use Rattle.message.specs.Field.{two_at}

-- HandshakeType
abbrev pub client_hello : ℕ
client_hello = 1

abbrev pub server_hello : ℕ
server_hello = 2

abbrev pub finished : ℕ
finished = 20

-- msg_type, then length, "the number of bytes of all the following data in the Handshake structure"; one message fills
-- the bytes
unfoldable pub fills : ℕ → List ℕ → Bool
fills kind m =
    pick (leb 3 (length m)) (pick (eqb (get_or m 0 0) kind) (eqb (two_at m 1) (length m - 3)) false) false

-- a message as it is written
abbrev pub message_of : ℕ → List ℕ → List ℕ
message_of kind body = kind ∷ (bytes2 (length body) ++ body)
