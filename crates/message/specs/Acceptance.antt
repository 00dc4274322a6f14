-- Whether a ClientHello is acceptable (01, Handshake): "it is acceptable if it has version 1, the planted session
-- identifier, a pair of null cipher with SHA_80 or SHA (the first such pair is chosen), null compression and explicit
-- numbering".
use Rattle.std.specs.Prelude.{List, [], ◌∷◌, Bool, true, false, ℕ, eqb, Err, Ok, Result, Option, Some, None}
use Rattle.message.specs.declared.acceptance.Condition.{Condition}
use Rattle.message.specs.declared.acceptance.Unheard.{Unheard}
use Rattle.message.specs.declared.hello.Field.{Field}
use Rattle.message.specs.declared.hello.Hello.{Hello}
use Rattle.digest.specs.Pick.{pick}
use Rattle.digest.specs.Mac.{listed_as, same_bytes}
use Rattle.digest.specs.declared.mac.Mac.{Mac}
use Rattle.message.specs.Hello.{read_of}
use Rattle.message.specs.Values.{Values, values_at}
use Rattle.message.specs.declared.acceptance.Plan.{Plan}
use Rattle.message.specs.declared.acceptance.Condition.TheVariants.{Version, SessionId, CipherSuite, Compression, Numbering}
use Rattle.message.specs.declared.acceptance.Unheard.TheVariants as heard

-- appendix A: BulkCipherAlgorithm null is 0; MACAlgorithm SHA_80 is 2 and SHA is 3
unfoldable pub fits_pair : ℕ → ℕ → Bool
fits_pair cipher mac = pick (eqb cipher 0) (pick (eqb mac 2) true (eqb mac 3)) false

-- the MAC number of the first pair that fits, in the client's order, or 0
unfoldable pub first_fit : List ℕ → ℕ
first_fit [] = 0
first_fit (cipher ∷ []) = 0
first_fit (cipher ∷ mac ∷ rest) = pick (fits_pair cipher mac) mac (first_fit rest)

-- CompressionMethod NULL, 0, stands in the list
unfoldable pub has_null : List ℕ → Bool
has_null [] = false
has_null (method ∷ rest) = pick (eqb method 0) true (has_null rest)

-- 9.1: explicit(2). 01: "its key refresh is repeated back", "the client key number is 0"
abbrev pub planned : Mac → ℕ → Plan
planned mac refresh = record { mac = mac; refresh = refresh; key = 0 }

abbrev pub paired : Option Mac → List ℕ → ℕ → ℕ → Result Plan Condition
paired (Some mac) methods numbering refresh =
    pick (has_null methods)
    (pick (eqb numbering 2) (Ok (planned mac refresh)) (Err Numbering))
    (Err Compression)
paired None methods numbering refresh = Err CipherSuite

-- the conditions in their order
unfoldable pub accepted_of : ℕ → List ℕ → List ℕ → List ℕ → ℕ → ℕ → List ℕ → Result Plan Condition
accepted_of version session suites methods numbering refresh planted =
    pick (eqb version 1)
    (pick (same_bytes session planted)
    (paired (listed_as (first_fit suites)) methods numbering refresh)
    (Err SessionId))
    (Err Version)

abbrev pub acceptance_of : Values → List ℕ → Result Plan Condition
acceptance_of v planted =
    accepted_of v.version v.session v.suites v.methods v.numbering v.refresh planted

-- a message that is to be a ClientHello: read, then judged
abbrev pub judged : Result Plan Condition → Result Plan Unheard
judged (Ok plan) = Ok plan
judged (Err condition) = Err (heard.Unacceptable condition)

abbrev pub heard_as : List ℕ → List ℕ → Result Hello Field → Result Plan Unheard
heard_as m planted (Ok h) = judged (acceptance_of (values_at m h) planted)
heard_as m planted (Err fault) = Err (heard.Malformed fault)

unfoldable pub heard_of : List ℕ → List ℕ → Result Plan Unheard
heard_of m planted = heard_as m planted (read_of m)

-- 01, Refusal numbers: 12, malformed content; 13, "hello well formed, not acceptable"; 0 where it is accepted
abbrev pub heard_number : Result Plan Unheard → ℕ
heard_number (Ok plan) = 0
heard_number (Err (heard.Unacceptable condition)) = 13
heard_number (Err (heard.Malformed fault)) = 12
