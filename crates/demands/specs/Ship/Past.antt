-- What a history of the unit says: the last hello, the last ServerHello that answered it, and which numbers were accepted. It is read off
-- what happened, never off what the unit keeps. Histories have the latest first.
use Rattle.std.specs.Prelude.{Bool, true, false, List, [], ◌∷◌, ℕ, None, Option, Some}
use Rattle.message.specs.declared.offer.Kinds.{Kinds}
use Rattle.digest.specs.Pick.{pick}
use Rattle.record.specs.declared.keys.Keys.{Keys}
use Rattle.message.specs.Offer.{kinds_named}
use Rattle.message.specs.declared.acceptance.Plan.{Plan}
use Rattle.message.specs.declared.offer.Offer.{Offer}
use Rattle.connection.specs.Judge.{fragment_of}
use Rattle.unit.specs.Agree.{server_random}
use Rattle.unit.specs.Answer.{as_ashore}
use Rattle.unit.specs.Hello.{offer_of}
use Rattle.unit.specs.Unit.{nothing_offered}
use Rattle.unit.specs.declared.answer.Answer.{Answer}
use Rattle.unit.specs.declared.answer.Answer.TheVariants.{Nothing, Hello, Spec, Open, Again, Data, Request, Ignored, Warning, Critical, Fatal, Barred, Refused}
use Rattle.demands.specs.Past.{is_spec, marks as marks_ashore}
use Rattle.demands.specs.Ship.Events.{Happened, answered, greeted, said_again, wrote, closed, started, refused}

-- ---- answers

-- a ServerHello was taken
abbrev pub is_hello : Answer → Bool
is_hello Nothing = false
is_hello Hello = true
is_hello Spec = false
is_hello (Open size) = false
is_hello Again = false
is_hello (Data number start size) = false
is_hello Request = false
is_hello Ignored = false
is_hello (Warning description) = false
is_hello (Critical description) = false
is_hello (Fatal description) = false
is_hello (Barred description) = false
is_hello (Refused refusal) = false

-- the answers to a protected record whose number was accepted: the shore's, and those to a HelloRequest
abbrev pub marks : Answer → Bool
marks Nothing = false
marks Hello = false
marks Spec = false
marks (Open size) = true
marks Again = true
marks (Data number start size) = true
marks Request = true
marks Ignored = true
marks (Warning description) = true
marks (Critical description) = true
marks (Fatal description) = false
marks (Barred description) = true
marks (Refused refusal) = marks_ashore (as_ashore (Refused refusal))

-- ---- hellos

abbrev pub offer_named : Option Kinds → ℕ → Offer
offer_named (Some kinds) refresh = offer_of kinds refresh
offer_named None refresh = nothing_offered

-- the last hello: its random and its offer
pub data Said : Type 0 where
  silent : Said
  said : (random : List ℕ) (offer : Offer) → Said

unfoldable pub last_hello : List Happened → Said
last_hello [] = silent
last_hello (answered d r a ∷ past) = last_hello past
last_hello (greeted random macs refresh bytes ∷ past) = said random (offer_named (kinds_named macs) refresh)
last_hello (said_again bytes ∷ past) = last_hello past
last_hello (wrote protected bytes ∷ past) = last_hello past
last_hello (closed ∷ past) = last_hello past
last_hello (started ∷ past) = last_hello past
last_hello (refused ∷ past) = last_hello past

-- the last ServerHello that was taken in this handshake, and the hello that it answered: a hello or a start begins another
pub data Read : Type 0 where
  unread : Read
  read : (random : List ℕ) (offer : Offer) (m : List ℕ) → Read

abbrev pub read_as : Said → List ℕ → Read
read_as silent m = unread
read_as (said random offer) m = read random offer m

unfoldable pub last_read : List Happened → Read
last_read [] = unread
last_read (answered d r a ∷ past) = pick (is_hello a) (read_as (last_hello past) (fragment_of d r)) (last_read past)
last_read (greeted random macs refresh bytes ∷ past) = unread
last_read (said_again bytes ∷ past) = last_read past
last_read (wrote protected bytes ∷ past) = last_read past
last_read (closed ∷ past) = last_read past
last_read (started ∷ past) = unread
last_read (refused ∷ past) = last_read past

-- the keys of a secret and two hellos
abbrev pub keys_for : List ℕ → List ℕ → List ℕ → Plan → Keys
keys_for secret random m plan =
    record { secret = secret; server = server_random m; client = random; mac = plan.mac; refresh = plan.refresh }

-- ---- what was accepted

-- the numbers accepted since the last change cipher spec that was taken, the latest first; a start again forgets them too
unfoldable pub accepted_in : List Happened → List ℕ
accepted_in [] = []
accepted_in (answered d r a ∷ past) =
    pick (is_spec (as_ashore a)) []
    (pick (pick r.protected (marks a) false) (r.number ∷ accepted_in past) (accepted_in past))
accepted_in (greeted random macs refresh bytes ∷ past) = accepted_in past
accepted_in (said_again bytes ∷ past) = accepted_in past
accepted_in (wrote protected bytes ∷ past) = accepted_in past
accepted_in (closed ∷ past) = accepted_in past
accepted_in (started ∷ past) = []
accepted_in (refused ∷ past) = accepted_in past
