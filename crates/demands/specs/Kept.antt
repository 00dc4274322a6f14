-- What is kept is what happened: after any life from fresh, each field of a handshake is what the history of its life says; with
-- `Lives`, of both handshakes of a connection. (The records that we sent are the connection's: `Lives.SentIsWhatHappened`.) So that
-- "the key", "the expected Finished", "the same reply" and "the window" elsewhere are no mere fields.
use Rattle.std.specs.Prelude.{◌≡◌, true, false, List, [], ℕ}
use Rattle.record.specs.History.{window_of}
use Rattle.demands.specs.Runs.{fresh_with}
use Rattle.connection.specs.Handshake.{no_session, nothing_kept, kept_hello, kept_reply, planted}
use Rattle.connection.specs.Calls.{session_of}
use Rattle.connection.specs.declared.handshake.Handshake.{Handshake}
use Rattle.connection.specs.declared.handshake.Session.{Session}
use Rattle.connection.specs.declared.state.State.TheVariants.{Barred}
use Rattle.demands.specs.Events.{Event, Happened, after, history}
use Rattle.demands.specs.Past.{last_reply, kept_greeting, agreed_for, hello_as, reply_for, protected_next, next_clear_number, accepted_in, barred_in, agreed_of, nothing_agreed}
use Rattle.record.specs.Window.{Held}

pub record KeptAs (session : Session) (width : ℕ) (past : List Happened) (h : Handshake) : Type 0 where
  -- the session is the planted one, until it is barred
  pub session_is : barred_in past ≡ false → planted h ≡ session
  -- randoms, MAC kind, refresh and expected Finished are those of the last new reply
  pub agreed_is : barred_in past ≡ false → agreed_of h ≡ agreed_for session (last_reply past)
  -- the kept hello is the one of the last new reply, until a start again forgets it; the kept reply is the reply to it
  pub hello_is : barred_in past ≡ false → kept_hello h ≡ hello_as (kept_greeting past)
  pub reply_is : barred_in past ≡ false → kept_reply h ≡ reply_for session (kept_greeting past)
  -- "After each new reply our data and protected alerts count on from 1, clear alerts from 2"
  pub protected_is : h.protection.protected ≡ protected_next past
  pub clear_is : h.protection.clear ≡ next_clear_number past
  -- the window has the width that was given to fresh, 32 to 64, and holds exactly the numbers accepted since the last
  -- change cipher spec that was taken
  pub held : Held width
  pub window_is : h.protection.window ≡ window_of width (accepted_in past)
  -- "required to forget any session identifiers, keys, and secrets" (002 10.2.2)
  pub barred_is : barred_in past ≡ true
      → (h.state ≡ Barred) × (planted h ≡ no_session) × (h.kept ≡ nothing_kept)
      × (agreed_of h ≡ nothing_agreed h.protection.keys.mac h.protection.keys.refresh)

unfoldable pub KeptIsWhatHappened : Type 0
KeptIsWhatHappened =
    (id secret : List ℕ) (width : ℕ) → Held width → (es : List Event)
    → KeptAs (session_of id secret) width (history (fresh_with id secret width) es []) (after (fresh_with id secret width) es)
