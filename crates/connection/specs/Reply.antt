-- The reply to an accepted ClientHello (01, "Handshake"; 002 10.5.1.3, 10.1, 10.5.9).
use Rattle.std.specs.Prelude.{List, ◌++◌, true, false, ℕ, ◌-◌, length, take, drop, replicate}
use Rattle.digest.specs.Hmac.{hmac}
use Rattle.digest.specs.Mac.{size_of, server_expansion}
use Rattle.digest.specs.declared.mac.Mac.{Mac}
use Rattle.record.specs.Keys.{mac_secret}
use Rattle.record.specs.declared.keys.Keys.{Keys}
use Rattle.record.specs.Written.{record_of}
use Rattle.record.specs.Code.{protected_by}
use Rattle.record.specs.declared.header.Content.TheVariants.{ChangeCipherSpec, Handshake as HandshakeContent}
use Rattle.message.specs.Server.{server_hello_of}
use Rattle.message.specs.Change.{change_bytes}
use Rattle.message.specs.Finished.{server_verify, client_verify, finished_of}
use Rattle.message.specs.declared.acceptance.Plan.{Plan}
use Rattle.connection.specs.Handshake.{planted}
use Rattle.connection.specs.declared.state.State.TheVariants.{Replied}
use Rattle.connection.specs.declared.handshake.Session.{Session}
use Rattle.connection.specs.declared.handshake.Handshake.{Handshake}

-- the client random of a hello: behind the message's type, its length and the version
abbrev pub client_random : List ℕ → List ℕ
client_random m = take 16 (drop 4 m)

-- The three messages: "ServerHello, change cipher spec, Finished". "Finished holds 12 bytes; ours covers both hellos."
unfoldable pub our_hello : Session → List ℕ → Plan → List ℕ
our_hello session random plan = server_hello_of random session.id plan

unfoldable pub our_finished : Session → List ℕ → List ℕ → Plan → List ℕ
our_finished session random m plan = finished_of (server_verify session.secret m (our_hello session random plan))

-- "the unit's covers both hellos and our Finished"
unfoldable pub expected_of : Session → List ℕ → List ℕ → Plan → List ℕ
expected_of session random m plan =
    client_verify session.secret m (our_hello session random plan) (our_finished session random m plan)

-- "The reply is one datagram: ServerHello, change cipher spec, Finished; clear numbers 0 and 1, protected number 0. The
-- first two carry a length, the last none."
unfoldable pub hello_record : List ℕ → List ℕ
hello_record hello = record_of true false HandshakeContent 0 hello

unfoldable pub change_record : List ℕ
change_record = record_of true false ChangeCipherSpec 1 change_bytes

unfoldable pub finished_record : List ℕ → List ℕ → List ℕ → Mac → List ℕ → List ℕ
finished_record secret server client mac ours =
    protected_by (hmac (mac_secret secret server_expansion 0 server client)) (size_of mac) false HandshakeContent 0 ours

unfoldable pub flight_of : List ℕ → List ℕ → List ℕ → Mac → List ℕ → List ℕ → List ℕ
flight_of secret server client mac hello ours =
    hello_record hello ++ (change_record ++ finished_record secret server client mac ours)

-- the reply of a session to the hello m, with our random
unfoldable pub reply_to : Session → List ℕ → List ℕ → Plan → List ℕ
reply_to session random m plan =
    flight_of session.secret random (client_random m) plan.mac (our_hello session random plan) (our_finished session random m plan)

-- the last record of it
unfoldable pub last_of : Session → List ℕ → List ℕ → Plan → List ℕ
last_of session random m plan =
    finished_record session.secret random (client_random m) plan.mac (our_finished session random m plan)

-- bytes at the front of n, zeros behind them
abbrev pub pad_to : ℕ → List ℕ → List ℕ
pad_to n s = s ++ replicate (n - length s) 0

-- the reply at the front of its place
abbrev pub flight_with : List ℕ → List ℕ → List ℕ → Mac → List ℕ → List ℕ → List ℕ
flight_with secret server client mac hello ours = pad_to 84 (flight_of secret server client mac hello ours)

-- what the keys are made of after a new reply
abbrev pub agreed_keys : Session → List ℕ → List ℕ → Plan → Keys
agreed_keys session random m plan =
    record { secret = session.secret; server = random; client = client_random m; mac = plan.mac; refresh = plan.refresh }

-- The handshake after a new reply: Replied, the randoms, MAC kind, refresh and expected Finished of these hellos, the
-- hello and the reply kept. "After each new reply our data and protected alerts count on from 1, clear alerts from 2."
-- A new reply leaves the window alone.
unfoldable pub answered_with : Handshake → List ℕ → List ℕ → Plan → Handshake
answered_with h random m plan =
    let reply = reply_to (planted h) random m plan in
    record {
      state = Replied;
      id = h.id;
      expected = expected_of (planted h) random m plan;
      kept = record { hello = pad_to 256 m; heard = length m; reply = pad_to 84 reply; size = length reply };
      protection = record {
        keys = agreed_keys (planted h) random m plan;
        window = h.protection.window;
        protected = 1;
        clear = 2;
      };
    }
