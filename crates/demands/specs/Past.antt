-- What a history says: the last new reply, what was written since, and which numbers were accepted. It is read off
-- what happened, never off what the connection keeps. Histories have the latest first.
use Rattle.std.specs.Prelude.{Bool, true, false, ◌≢◌, List, [], ◌∷◌, ◌++◌, ℕ, ◌+◌, ◌<◌, eqb, length, get_or, replicate, Err, Ok, Result}
use Rattle.message.specs.declared.acceptance.Plan.{Plan}
use Rattle.message.specs.declared.acceptance.Unheard.{Unheard}
use Rattle.digest.specs.Pick.{pick}
use Rattle.digest.specs.declared.mac.Mac.{Mac}
use Rattle.digest.specs.declared.mac.Mac.TheVariants.{Sha80}
use Rattle.message.specs.Acceptance.{heard_of}
use Rattle.message.specs.declared.acceptance.Unheard.TheVariants as H
use Rattle.connection.specs.Answer.{answer_number}
use Rattle.connection.specs.Judge.{fragment_of}
use Rattle.connection.specs.Reply.{client_random, expected_of, reply_to, last_of, our_hello, hello_record, change_record}
use Rattle.connection.specs.Sent.{records_kept, sum_of}
use Rattle.connection.specs.declared.answer.Answer.{Answer}
use Rattle.connection.specs.declared.answer.Answer.TheVariants.{Nothing, Reply, Resent, Spec, Open, Again, Data, Warning, Critical, Fatal, Barred, Refused}
use Rattle.connection.specs.declared.handshake.Handshake.{Handshake}
use Rattle.connection.specs.declared.handshake.Session.{Session}
use Rattle.record.specs.declared.keys.Keys.{Keys}
use Rattle.demands.specs.Events.{Happened, answered, wrote, closed, started, refused}

-- ---- answers

-- which answer it is
abbrev pub case_of : Answer → ℕ
case_of Nothing = 0
case_of (Reply size) = 1
case_of (Resent size) = 2
case_of Spec = 3
case_of Open = 4
case_of Again = 5
case_of (Data number start size) = 6
case_of (Warning description) = 7
case_of (Critical description) = 8
case_of (Fatal description) = 9
case_of (Barred description) = 10
case_of (Refused refusal) = 11

-- whether a number is one of these
abbrev pub among : ℕ → List ℕ → Bool
among n [] = false
among n (m ∷ more) = pick (eqb n m) true (among n more)

abbrev pub is_reply : Answer → Bool
is_reply a = among (case_of a) (1 ∷ [])

-- change cipher spec was taken
abbrev pub is_spec : Answer → Bool
is_spec a = among (case_of a) (3 ∷ [])

abbrev pub is_data : Answer → Bool
is_data a = among (case_of a) (6 ∷ [])

abbrev pub is_barred : Answer → Bool
is_barred a = among (case_of a) (10 ∷ [])

-- the answers to a protected record whose number was accepted: Open, Again, Data, Warning, Critical, Barred; "a genuine
-- new record marks its number even if its content is then refused": "12 under protection and 17 mark the number"
abbrev pub marks : Answer → Bool
marks a = pick (among (case_of a) (4 ∷ 5 ∷ 6 ∷ 7 ∷ 8 ∷ 10 ∷ [])) true (among (answer_number a) (12 ∷ 17 ∷ []))

-- the answers that close: critical and fatal alerts, and 17
abbrev pub shuts : Answer → Bool
shuts a = pick (among (case_of a) (8 ∷ 9 ∷ 10 ∷ [])) true (among (answer_number a) (17 ∷ []))

-- ---- the last new reply

-- a ClientHello message that got a new reply, and our random in it; or none
pub data Greeting : Type 0 where
  none : Greeting
  greeting : (m random : List ℕ) → Greeting

unfoldable pub last_reply : List Happened → Greeting
last_reply [] = none
last_reply (answered random d r a ∷ past) = pick (is_reply a) (greeting (fragment_of d r) random) (last_reply past)
last_reply (wrote protected bytes ∷ past) = last_reply past
last_reply (closed ∷ past) = last_reply past
last_reply (started ∷ past) = last_reply past
last_reply (refused ∷ past) = last_reply past

-- "Start again .. forgets the window and the kept hello."
unfoldable pub kept_greeting : List Happened → Greeting
kept_greeting [] = none
kept_greeting (answered random d r a ∷ past) = pick (is_reply a) (greeting (fragment_of d r) random) (kept_greeting past)
kept_greeting (wrote protected bytes ∷ past) = kept_greeting past
kept_greeting (closed ∷ past) = kept_greeting past
kept_greeting (started ∷ past) = none
kept_greeting (refused ∷ past) = kept_greeting past

pub record Agreed : Type 0 where
  pub server : List ℕ
  pub client : List ℕ
  pub mac : Mac
  pub refresh : ℕ
  pub expected : List ℕ

unfoldable pub nothing_agreed : Mac → ℕ → Agreed
nothing_agreed mac refresh =
    record { server = replicate 16 0; client = replicate 16 0; mac = mac; refresh = refresh; expected = replicate 12 0 }

-- what a handshake holds of it
abbrev pub agreed_of : Handshake → Agreed
agreed_of h =
    record {
      server = h.protection.keys.server;
      client = h.protection.keys.client;
      mac = h.protection.keys.mac;
      refresh = h.protection.keys.refresh;
      expected = h.expected;
    }

-- what a new reply fixes, of the session and the two hellos alone: randoms, MAC kind, refresh, and the contents that
-- the unit's Finished must have
abbrev pub agreed_as : Session → List ℕ → List ℕ → Result Plan Unheard → Agreed
agreed_as session random m (Ok plan) =
    record {
      server = random;
      client = client_random m;
      mac = plan.mac;
      refresh = plan.refresh;
      expected = expected_of session random m plan;
    }
agreed_as session random m (Err (H.Unacceptable condition)) = nothing_agreed Sha80 0
agreed_as session random m (Err (H.Malformed fault)) = nothing_agreed Sha80 0

abbrev pub agreed_for : Session → Greeting → Agreed
agreed_for session none = nothing_agreed Sha80 0
agreed_for session (greeting m random) = agreed_as session random m (heard_of m session.id)

-- its keys
abbrev pub keys_with : Session → Agreed → Keys
keys_with session agreed =
    record {
      secret = session.secret;
      mac = agreed.mac;
      refresh = agreed.refresh;
      server = agreed.server;
      client = agreed.client;
    }

abbrev pub keys_in : Session → List Happened → Keys
keys_in session past = keys_with session (agreed_for session (last_reply past))

-- the contents of the unit's Finished after that reply
abbrev pub expected_in : Session → List Happened → List ℕ
expected_in session past = (agreed_for session (last_reply past)).expected

-- the hello that is kept, and the bytes of the reply to it
abbrev pub hello_as : Greeting → List ℕ
hello_as none = []
hello_as (greeting m random) = m

abbrev pub reply_heard : Session → List ℕ → List ℕ → Result Plan Unheard → List ℕ
reply_heard session random m (Ok plan) = reply_to session random m plan
reply_heard session random m (Err (H.Unacceptable condition)) = []
reply_heard session random m (Err (H.Malformed fault)) = []

abbrev pub reply_for : Session → Greeting → List ℕ
reply_for session none = []
reply_for session (greeting m random) = reply_heard session random m (heard_of m session.id)

-- ---- what was written

-- "After each new reply our data and protected alerts count on from 1, clear alerts from 2."
unfoldable pub protected_next : List Happened → ℕ
protected_next [] = 0
protected_next (answered random d r a ∷ past) = pick (is_reply a) 1 (protected_next past)
protected_next (wrote true bytes ∷ past) = protected_next past + 1
protected_next (wrote false bytes ∷ past) = protected_next past
protected_next (closed ∷ past) = protected_next past
protected_next (started ∷ past) = protected_next past
protected_next (refused ∷ past) = protected_next past

unfoldable pub next_clear_number : List Happened → ℕ
next_clear_number [] = 0
next_clear_number (answered random d r a ∷ past) = pick (is_reply a) 2 (next_clear_number past)
next_clear_number (wrote true bytes ∷ past) = next_clear_number past
next_clear_number (wrote false bytes ∷ past) = next_clear_number past + 1
next_clear_number (closed ∷ past) = next_clear_number past
next_clear_number (started ∷ past) = next_clear_number past
next_clear_number (refused ∷ past) = next_clear_number past

-- the three records of a new reply, the latest first: Finished, change cipher spec, ServerHello
abbrev pub records_heard : Session → List ℕ → List ℕ → Result Plan Unheard → List (List ℕ)
records_heard session random m (Ok plan) =
    last_of session random m plan ∷ change_record ∷ hello_record (our_hello session random plan) ∷ []
records_heard session random m (Err (H.Unacceptable condition)) = []
records_heard session random m (Err (H.Malformed fault)) = []

-- the "records that we sent since the last start", the latest first, a resent reply not counted
unfoldable pub sent_since : Session → List Happened → List (List ℕ)
sent_since session [] = []
sent_since session (answered random d r a ∷ past) =
    pick (is_reply a) (records_heard session random (fragment_of d r) (heard_of (fragment_of d r) session.id) ++ sent_since session past)
    (sent_since session past)
sent_since session (wrote protected bytes ∷ past) = bytes ∷ sent_since session past
sent_since session (closed ∷ past) = sent_since session past
sent_since session (started ∷ past) = []
sent_since session (refused ∷ past) = sent_since session past

-- a checksum that none of the last eight of them has, fewer if fewer were sent
abbrev pub MatchesNone : ℕ → List (List ℕ) → Type 0
MatchesNone sum sent = (i : ℕ) → i < records_kept → i < length sent → sum ≢ sum_of (get_or sent i [])

-- ---- what was accepted

-- the numbers accepted since the last change cipher spec that was taken, the latest first; a start again forgets them
-- too
unfoldable pub accepted_in : List Happened → List ℕ
accepted_in [] = []
accepted_in (answered random d r a ∷ past) =
    pick (is_spec a) [] (pick (pick r.protected (marks a) false) (r.number ∷ accepted_in past) (accepted_in past))
accepted_in (wrote protected bytes ∷ past) = accepted_in past
accepted_in (closed ∷ past) = accepted_in past
accepted_in (started ∷ past) = []
accepted_in (refused ∷ past) = accepted_in past

-- a fatal alert under protection was accepted
unfoldable pub barred_in : List Happened → Bool
barred_in [] = false
barred_in (answered random d r a ∷ past) = pick (is_barred a) true (barred_in past)
barred_in (wrote protected bytes ∷ past) = barred_in past
barred_in (closed ∷ past) = barred_in past
barred_in (started ∷ past) = barred_in past
barred_in (refused ∷ past) = barred_in past
