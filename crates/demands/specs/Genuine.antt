-- Demand 3: "Call a protected record genuine if its datagram is soundly framed and its code is right under the key
-- for its number." Said over the bytes, with the key and code definitions of layer 2.
use Rattle.std.specs.Prelude.{◌≡◌, true, List, ◌∷◌, ◌++◌, ℕ}
use Rattle.digest.specs.Hmac.{hmac}
use Rattle.digest.specs.Mac.{size_of}
use Rattle.record.specs.Keys.{secret_for}
use Rattle.record.specs.declared.keys.Keys.{Keys}
use Rattle.record.specs.declared.keys.Sense.TheVariants.{FromUnit}
use Rattle.record.specs.Code.{fragment_by}
use Rattle.record.specs.Datagram.{framed, framing_of}
use Rattle.record.specs.declared.reader.Record.{Record}
use Rattle.connection.specs.declared.handshake.Handshake.{Handshake}
use Rattle.demands.specs.Seen.{Seen, seen_in}

-- "the key for its number": the unit's MAC secret for number s
abbrev pub unit_key : Keys → ℕ → List ℕ
unit_key k s = secret_for k FromUnit s

-- r is a record of the datagram d, which is soundly framed
pub record RecordOf (d : List ℕ) (r : Record) : Type 0 where
  pub before : List Record
  pub behind : List Record
  pub framing : framing_of d ≡ framed (before ++ (r ∷ behind))

-- the fragment is the content c with the right code behind it
abbrev pub Coded : Keys → Seen → List ℕ → Type 0
Coded k q c = q.fragment ≡ fragment_by (hmac (unit_key k q.number)) (size_of k.mac) q.number q.byte c

-- the record is protected, and so coded
pub record Protected (k : Keys) (d : List ℕ) (r : Record) (c : List ℕ) : Type 0 where
  pub is_protected : r.protected ≡ true
  pub is_coded : Coded k (seen_in d r) c

-- r is a genuine record of d with the content c
pub record Genuine (k : Keys) (d : List ℕ) (r : Record) (c : List ℕ) : Type 0 where
  pub in_place : RecordOf d r
  pub protected_as : Protected k d r c

-- the keys that a handshake holds
abbrev pub keys_of : Handshake → Keys
keys_of h =
    record {
      secret = h.protection.keys.secret;
      mac = h.protection.keys.mac;
      refresh = h.protection.keys.refresh;
      server = h.protection.keys.server;
      client = h.protection.keys.client;
    }
