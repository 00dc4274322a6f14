-- Finished (002 10.5.9).
use Rattle.std.specs.Prelude.{List, [], ◌∷◌, ◌++◌, ℕ, length, eqb, Err, Ok, Result, ⊤}
use Rattle.message.specs.declared.finished.Unverified.{Unverified}
use Rattle.digest.specs.Pick.{pick}
use Rattle.digest.specs.Sha1.{sha1}
use Rattle.digest.specs.Expansion.{prf}
use Rattle.digest.specs.Mac.{same_bytes}
use Rattle.message.specs.Field.{part_of}
use Rattle.message.specs.Handshake.{fills, message_of, finished}
use Rattle.message.specs.declared.finished.Unverified.TheVariants.{Wrong, Malformed}

-- finished_label: "client finished" and "server finished"
abbrev pub client_label : List ℕ
client_label = 99 ∷ 108 ∷ 105 ∷ 101 ∷ 110 ∷ 116 ∷ 32 ∷ 102 ∷ 105 ∷ 110 ∷ 105 ∷ 115 ∷ 104 ∷ 101 ∷ 100 ∷ []

abbrev pub server_label : List ℕ
server_label = 115 ∷ 101 ∷ 114 ∷ 118 ∷ 101 ∷ 114 ∷ 32 ∷ 102 ∷ 105 ∷ 110 ∷ 105 ∷ 115 ∷ 104 ∷ 101 ∷ 100 ∷ []

-- verify_data: PRF(master_secret, finished_label, H(handshake_messages)) [0..11]
abbrev pub verify_data : List ℕ → List ℕ → List ℕ → List ℕ
verify_data secret label messages = prf secret label (sha1 messages) 12

-- handshake_messages: "all of the data from all handshake messages up to but not including this message", each as the
-- whole Handshake structure. Ours covers both hellos, the unit's both hellos and our Finished.
unfoldable pub server_verify : List ℕ → List ℕ → List ℕ → List ℕ
server_verify secret client server = verify_data secret server_label (client ++ server)

unfoldable pub client_verify : List ℕ → List ℕ → List ℕ → List ℕ → List ℕ
client_verify secret client server ours = verify_data secret client_label (client ++ server ++ ours)

-- Finished: opaque verify_data[12]
abbrev pub finished_of : List ℕ → List ℕ
finished_of verify = message_of finished verify

-- a message that is to be a Finished with the contents expected (01, Refusal numbers 12 and 17)
unfoldable pub judged_of : List ℕ → List ℕ → Result ⊤ Unverified
judged_of m expected =
    pick (eqb (length m) 15)
    (pick (fills finished m) (pick (same_bytes (part_of m 3 15) expected) (Ok tt) (Err Wrong)) (Err Malformed))
    (Err Malformed)

-- 12, malformed; 17, "genuine Finished with wrong contents"; 0 where it is right
abbrev pub verified_number : Result ⊤ Unverified → ℕ
verified_number (Ok tt) = 0
verified_number (Err Wrong) = 17
verified_number (Err Malformed) = 12
