-- Whether a ServerHello answers the offer (02, P7: "read the reply"; 002 10.5.1.3): version 1, the session named, client key
-- number 0, null cipher and an offered kind, null compression, explicit numbering, and a key refresh "equal to what the client
-- suggested or less", which is then used.
use Rattle.std.specs.Prelude.{List, ℕ, eqb, ltb, Err, None, Ok, Option, Result, Some}
use Rattle.message.specs.declared.acceptance.Plan.{Plan}
use Rattle.message.specs.declared.agreement.Disagreed.{Disagreed}
use Rattle.digest.specs.Pick.{pick}
use Rattle.digest.specs.Mac.{listed_as, same_bytes}
use Rattle.digest.specs.declared.mac.Mac.{Mac}
use Rattle.message.specs.Acceptance.{planned}
use Rattle.message.specs.Offer.{offers}
use Rattle.message.specs.ServerHello.{server_read, ServerValues, server_values_at}
use Rattle.message.specs.declared.offer.Kinds.{Kinds}
use Rattle.message.specs.declared.offer.Offer.{Offer}
use Rattle.message.specs.declared.agreement.Term.TheVariants.{Version, SessionId, ClientKey, CipherSuite, Compression, Numbering, Refresh}
use Rattle.message.specs.declared.agreement.Disagreed.TheVariants.{Unacceptable, Malformed}

-- "null cipher and an offered kind"
abbrev pub offered_as : Kinds → Option Mac → Option Mac
offered_as kinds (Some mac) = pick (offers kinds mac) (Some mac) None
offered_as kinds None = None

unfoldable pub chosen_of : ℕ → ℕ → Kinds → Option Mac
chosen_of cipher mac kinds = pick (eqb cipher 0) (offered_as kinds (listed_as mac)) None

-- null compression, explicit(2), then the refresh
abbrev pub settled_by : Option Mac → ℕ → ℕ → ℕ → ℕ → Result Plan Disagreed
settled_by (Some mac) compression numbering refresh most =
    pick (eqb compression 0)
    (pick (eqb numbering 2)
    (pick (ltb most refresh) (Err (Unacceptable Refresh)) (Ok (planned mac refresh)))
    (Err (Unacceptable Numbering)))
    (Err (Unacceptable Compression))
settled_by None compression numbering refresh most = Err (Unacceptable CipherSuite)

-- the terms in their order
unfoldable pub agreed_of : ℕ → List ℕ → ℕ → ℕ → ℕ → ℕ → ℕ → ℕ → List ℕ → Offer → Result Plan Disagreed
agreed_of version session key cipher mac compression numbering refresh planted offer =
    pick (eqb version 1)
    (pick (same_bytes session planted)
    (pick (eqb key 0)
    (settled_by (chosen_of cipher mac offer.kinds) compression numbering refresh offer.refresh)
    (Err (Unacceptable ClientKey)))
    (Err (Unacceptable SessionId)))
    (Err (Unacceptable Version))

abbrev pub agreed_with : ServerValues → List ℕ → Offer → Result Plan Disagreed
agreed_with v planted offer =
    agreed_of v.version v.session v.key v.cipher v.mac v.compression v.numbering v.refresh planted offer

abbrev pub agreed_at : List ℕ → ℕ → List ℕ → Offer → Result Plan Disagreed
agreed_at m end planted offer = agreed_with (server_values_at m end) planted offer

-- a message that is to be a ServerHello: read, then judged
abbrev pub agreed_as : List ℕ → List ℕ → Offer → Option ℕ → Result Plan Disagreed
agreed_as m planted offer (Some end) = agreed_at m end planted offer
agreed_as m planted offer None = Err Malformed

unfoldable pub agreement_of : List ℕ → List ℕ → Offer → Result Plan Disagreed
agreement_of m planted offer = agreed_as m planted offer (server_read m)

-- 01, Refusal numbers: 12, malformed content; 13, "hello well formed, not acceptable"; 0 where it is agreed on
abbrev pub agreement_number : Result Plan Disagreed → ℕ
agreement_number (Ok plan) = 0
agreement_number (Err (Unacceptable term)) = 13
agreement_number (Err Malformed) = 12
