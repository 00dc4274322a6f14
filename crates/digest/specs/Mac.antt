-- The MAC kinds of the profile (002 appendix A, table 6), and the comparison of codes.
use Rattle.std.specs.Prelude.{ℕ, Bool, true, false, ◌&&◌, List, [], ◌∷◌, ◌==◌, Option, Some, None}
use Rattle.digest.specs.Pick.{pick}
use Rattle.digest.specs.declared.mac.Mac.{Mac}
use Rattle.digest.specs.declared.mac.Mac.TheVariants.{Sha80, Sha}

-- the assigned number
abbrev pub number_of : Mac → ℕ
number_of Sha80 = 2
number_of Sha = 3

-- the number of bytes in the code
abbrev pub size_of : Mac → ℕ
size_of Sha80 = 10
size_of Sha = 20

-- the size of the MAC secret, of either kind
abbrev pub secret_size : ℕ
secret_size = 20

-- the labels under which the MAC secrets are expanded (002 11.2): "client expansion" for what the client sends, "server
-- expansion" for what the server sends
abbrev pub client_expansion : List ℕ
client_expansion =
    99 ∷ 108 ∷ 105 ∷ 101 ∷ 110 ∷ 116 ∷ 32 ∷ 101 ∷ 120 ∷ 112 ∷ 97 ∷ 110 ∷ 115 ∷ 105 ∷ 111 ∷ 110 ∷ []

abbrev pub server_expansion : List ℕ
server_expansion =
    115 ∷ 101 ∷ 114 ∷ 118 ∷ 101 ∷ 114 ∷ 32 ∷ 101 ∷ 120 ∷ 112 ∷ 97 ∷ 110 ∷ 115 ∷ 105 ∷ 111 ∷ 110 ∷ []

-- the kind of a number, where the profile has it
unfoldable pub listed_as : ℕ → Option Mac
listed_as n = pick (n == 2) (Some Sha80) (pick (n == 3) (Some Sha) None)

-- two codes are the same if all their bytes are
unfoldable pub same_bytes : List ℕ → List ℕ → Bool
same_bytes [] [] = true
same_bytes [] (y ∷ t) = false
same_bytes (x ∷ s) [] = false
same_bytes (x ∷ s) (y ∷ t) = x == y && same_bytes s t
