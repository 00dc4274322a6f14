-- The keys of a record (002 9.1 and 11.2; 01, "Numbers, window, keys").
use Rattle.std.specs.Prelude.{List, ◌++◌, ℕ, ◌-◌, ◌%◌, ◌^◌, leb}
use Rattle.digest.specs.Pick.{pick}
use Rattle.digest.specs.Bytes.{bytes2}
use Rattle.digest.specs.Expansion.{prf}
use Rattle.digest.specs.Mac.{secret_size, client_expansion, server_expansion}
use Rattle.record.specs.declared.keys.Keys.{Keys}
use Rattle.record.specs.declared.keys.Sense.{Sense}
use Rattle.record.specs.declared.keys.Sense.TheVariants.{FromUnit, FromShore}

-- "s less its remainder by 2^k for k up to 15, else 0"
unfoldable pub key_number : ℕ → ℕ → ℕ
key_number k s = pick (leb k 15) (s - s % 2 ^ k) 0

-- "That number, the server random and the client random seed the expansion, 20 bytes out." The label is the direction's.
unfoldable pub mac_secret : List ℕ → List ℕ → ℕ → List ℕ → List ℕ → List ℕ
mac_secret secret label first server client = prf secret label (bytes2 first ++ server ++ client) secret_size

-- "client expansion" for the unit's records, "server expansion" for ours
abbrev pub label_of : Sense → List ℕ
label_of FromUnit = client_expansion
label_of FromShore = server_expansion

-- the MAC secret of a record with number s: "late records from before the refresh" have the key of their own number
abbrev pub secret_for : Keys → Sense → ℕ → List ℕ
secret_for k sense s = mac_secret k.secret (label_of sense) (key_number k.refresh s) k.server k.client
