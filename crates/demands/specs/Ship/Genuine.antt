-- Demand 3 at the shipboard end (02, P7: "receive data and alerts under the same window rules"): a protected record is "genuine if
-- its datagram is soundly framed and its code is right under the key for its number", which is here the shore's.
use Rattle.std.specs.Prelude.{◌≡◌, Bool, true, false, List, ℕ}
use Rattle.digest.specs.Pick.{pick}
use Rattle.digest.specs.Hmac.{hmac}
use Rattle.digest.specs.Mac.{size_of}
use Rattle.record.specs.Keys.{secret_for}
use Rattle.record.specs.Code.{fragment_by}
use Rattle.record.specs.Protection.{genuine_under, content_under}
use Rattle.record.specs.declared.keys.Keys.{Keys}
use Rattle.record.specs.declared.keys.Sense.TheVariants.{FromShore}
use Rattle.record.specs.declared.reader.Record.{Record}
use Rattle.connection.specs.Judge.{fragment_of}
use Rattle.demands.specs.Genuine.{RecordOf}

-- "the key for its number": the shore's MAC secret for number s
abbrev pub shore_key : Keys → ℕ → List ℕ
shore_key k s = secret_for k FromShore s

-- the record is protected, and its fragment is the content c with the right code behind it
pub record Protected (k : Keys) (d : List ℕ) (r : Record) (c : List ℕ) : Type 0 where
  pub is_protected : r.protected ≡ true
  pub is_coded : fragment_of d r ≡ fragment_by (hmac (shore_key k r.number)) (size_of k.mac) r.number r.byte c

-- r is a genuine record of d with the content c
pub record Genuine (k : Keys) (d : List ℕ) (r : Record) (c : List ℕ) : Type 0 where
  pub in_place : RecordOf d r
  pub protected_as : Protected k d r c

-- the same as a test, and the content before the code
abbrev pub genuine_bytes : Keys → List ℕ → Record → Bool
genuine_bytes k d r = pick r.protected (genuine_under k FromShore r.number r.byte (fragment_of d r)) false

abbrev pub content_bytes : Keys → List ℕ → Record → List ℕ
content_bytes k d r = content_under k (fragment_of d r)
