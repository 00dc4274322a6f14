-- The HelloRequest (002 10.5.1.1).
use Rattle.std.specs.Prelude.{List, Bool, false, ℕ, length, eqb}
use Rattle.digest.specs.Pick.{pick}
use Rattle.message.specs.Handshake.{fills}

-- HandshakeType hello_request(0)
abbrev pub hello_request : ℕ
hello_request = 0

-- struct { } HelloRequest: a message whose body is empty
unfoldable pub is_request : List ℕ → Bool
is_request m = pick (eqb (length m) 3) (fills hello_request m) false
