-- One handshake and its changes (01, "Handshake" and "Alerts"; 002 10.2.2).
use Rattle.std.specs.Prelude.{List, ℕ, take, replicate}
use Rattle.digest.specs.declared.mac.Mac.{Mac}
use Rattle.digest.specs.declared.mac.Mac.TheVariants.{Sha80}
use Rattle.record.specs.Window.{window_width, fresh_window, emptied}
use Rattle.record.specs.Protection as P
use Rattle.record.specs.declared.keys.Keys.{Keys}
use Rattle.record.specs.declared.window.Window.{Window}
use Rattle.record.specs.declared.protection.Protection.{Protection}
use Rattle.connection.specs.declared.state.State.{State}
use Rattle.connection.specs.declared.state.State.TheVariants.{Idle, Barred}
use Rattle.connection.specs.declared.handshake.Session.{Session}
use Rattle.connection.specs.declared.handshake.Kept.{Kept}
use Rattle.connection.specs.declared.handshake.Handshake.{Handshake}

-- nothing planted, nothing agreed, nothing kept
unfoldable pub no_session : Session
no_session = record { id = replicate 8 0; secret = replicate 20 0 }

abbrev pub unagreed_keys : List ℕ → Mac → ℕ → Keys
unagreed_keys secret mac refresh =
    record { secret = secret; server = replicate 16 0; client = replicate 16 0; mac = mac; refresh = refresh }

abbrev pub nothing_expected : List ℕ
nothing_expected = replicate 12 0

unfoldable pub nothing_kept : Kept
nothing_kept = record { hello = replicate 256 0; heard = 0; reply = replicate 84 0; size = 0 }

abbrev pub new_protection : List ℕ → ℕ → Protection
new_protection secret width =
    record { keys = unagreed_keys secret Sha80 0; window = fresh_window width; protected = 0; clear = 0 }

-- a handshake of a session in which nothing has happened, with a window of this width
abbrev pub new_handshake : Session → ℕ → State → Handshake
new_handshake session width state =
    record {
      state = state;
      id = session.id;
      expected = nothing_expected;
      kept = nothing_kept;
      protection = new_protection session.secret width;
    }

-- what stands beside a refused fresh
abbrev pub blank_handshake : Handshake
blank_handshake = new_handshake no_session window_width Barred

-- what stands in the place of a started handshake where there is none
abbrev pub none_started : Handshake
none_started = new_handshake no_session window_width Idle

-- the session of a handshake: its identifier, and the secret that its keys are made of
abbrev pub planted : Handshake → Session
planted h = record { id = h.id; secret = h.protection.keys.secret }

-- a handshake beside another in which nothing has happened: of the same session, with a window of the same width
abbrev pub newcomer_to : Handshake → Handshake
newcomer_to h = new_handshake (planted h) h.protection.window.width Idle

-- one change each
abbrev pub with_state : Handshake → State → Handshake
with_state h state =
    record { state = state; id = h.id; expected = h.expected; kept = h.kept; protection = h.protection }

abbrev pub with_protection : Handshake → Protection → Handshake
with_protection h protection =
    record { state = h.state; id = h.id; expected = h.expected; kept = h.kept; protection = protection }

abbrev pub with_window : Handshake → Window → Handshake
with_window h window = with_protection h (P.with_window h.protection window)

-- "Start again leads from Closed to Idle and forgets the window and the kept hello." The sending numbers stay until the next
-- reply.
abbrev pub forgetting : Handshake → Handshake
forgetting h =
    record {
      state = h.state;
      id = h.id;
      expected = h.expected;
      kept = nothing_kept;
      protection = P.with_window h.protection (emptied h.protection.window);
    }

abbrev pub reopened : Handshake → Handshake
reopened h = with_state (forgetting h) Idle

-- Barred: "required to forget any session identifiers, keys, and secrets" (002 10.2.2). The window and the sending
-- numbers stay, and so do the MAC kind and the refresh, which are no secrets.
abbrev pub unkeyed : Protection → Protection
unkeyed p =
    record {
      keys = unagreed_keys (replicate 20 0) p.keys.mac p.keys.refresh;
      window = p.window;
      protected = p.protected;
      clear = p.clear;
    }

abbrev pub barred : Handshake → Handshake
barred h =
    record {
      state = Barred;
      id = replicate 8 0;
      expected = nothing_expected;
      kept = nothing_kept;
      protection = unkeyed h.protection;
    }

-- the kept hello and the kept reply, as they were on the wire
abbrev pub kept_hello : Handshake → List ℕ
kept_hello h = take h.kept.heard h.kept.hello

abbrev pub kept_reply : Handshake → List ℕ
kept_reply h = take h.kept.size h.kept.reply
