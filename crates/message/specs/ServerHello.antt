-- The ServerHello, read, and as values (002 10.5.1.3). Its writer is in Server.
use Rattle.std.specs.Prelude.{◌≡◌, List, [], ◌∷◌, ◌++◌, Bool, true, ℕ, ◌+◌, ◌<◌, length, get_or, eqb, leb, None, Option, Some}
use Rattle.digest.specs.Pick.{pick}
use Rattle.message.specs.Field.{short, both, part_of}
use Rattle.message.specs.Handshake.{fills, message_of, server_hello}

-- server_version (1 byte), random (16), session_id<0..8> (its length in one byte), client_key_id (1), cipher_suite (2),
-- compression_method (1), sequence_number_mode (1), key_refresh (1): 24 bytes and those of the identifier, which ends at 21 and
-- as many as it has
unfoldable pub server_read : List ℕ → Option ℕ
server_read m =
    pick (fills server_hello m)
    (pick (leb (get_or m 20 0) 8)
    (pick (eqb (length m) (27 + get_or m 20 0)) (Some (21 + get_or m 20 0)) None)
    None)
    None

-- the fields in the order of the structure
pub record ServerValues : Type 0 where
  pub version : ℕ
  pub random : List ℕ
  pub session : List ℕ
  pub key : ℕ
  pub cipher : ℕ
  pub mac : ℕ
  pub compression : ℕ
  pub numbering : ℕ
  pub refresh : ℕ

-- the values that stand in a message whose session identifier ends at a place
abbrev pub server_values_at : List ℕ → ℕ → ServerValues
server_values_at m end =
    record {
      version = get_or m 3 0;
      random = part_of m 4 20;
      session = part_of m 21 end;
      key = get_or m end 0;
      cipher = get_or m (end + 1) 0;
      mac = get_or m (end + 2) 0;
      compression = get_or m (end + 3) 0;
      numbering = get_or m (end + 4) 0;
      refresh = get_or m (end + 5) 0;
    }

-- the message that has these values
abbrev pub server_hello_from : ServerValues → List ℕ
server_hello_from v =
    message_of server_hello
    ((v.version ∷ [])
    ++ (v.random
    ++ (short v.session ++ (v.key ∷ v.cipher ∷ v.mac ∷ v.compression ∷ v.numbering ∷ v.refresh ∷ []))))

-- opaque random[16], SessionID<0..8>
abbrev pub server_allowed : ServerValues → Bool
server_allowed v = both (eqb (length v.random) 16) (leb (length v.session) 8)

-- The ServerHellos that read as well-formed are exactly those that are written of values: each field is read at the place where
-- it was written. Proved in proofs/ServerHellos.antt.
pub record ServerHellosAsWritten : Type 0 where
  pub written : (v : ServerValues) → server_allowed v ≡ true
      → (server_read (server_hello_from v) ≡ Some (21 + length v.session))
      × (server_values_at (server_hello_from v) (21 + length v.session) ≡ v)
  pub read : (m : List ℕ) → ((i : ℕ) → get_or m i 0 < 256) → (end : ℕ) → server_read m ≡ Some end
      → (server_allowed (server_values_at m end) ≡ true) × (server_hello_from (server_values_at m end) ≡ m)
