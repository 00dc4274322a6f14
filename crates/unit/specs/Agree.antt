-- A ServerHello (02, P7: "read the reply"; 002 10.5.1.3, 10.5.9), and our flight (02: "write change cipher spec and Finished").
use Rattle.std.specs.Prelude.{List, ◌++◌, ℕ, length, take, drop, Err, Ok, Result}
use Rattle.message.specs.declared.agreement.Disagreed.{Disagreed}
use Rattle.record.specs.Protection.{record_under}
use Rattle.record.specs.declared.header.Content.TheVariants as C
use Rattle.record.specs.declared.keys.Keys.{Keys}
use Rattle.record.specs.declared.keys.Sense.TheVariants.{FromUnit}
use Rattle.message.specs.Agreement.{agreement_of}
use Rattle.message.specs.Finished.{server_verify, client_verify, finished_of}
use Rattle.message.specs.Offer.{offer_hello}
use Rattle.message.specs.declared.acceptance.Plan.{Plan}
use Rattle.message.specs.declared.agreement.Disagreed.TheVariants as G
use Rattle.message.specs.declared.offer.Offer.{Offer}
use Rattle.connection.specs.Reply.{change_record, pad_to}
use Rattle.connection.specs.declared.refusal.Refusal.TheVariants.{Malformed, Unacceptable}
use Rattle.unit.specs.declared.state.State.TheVariants.{Replied}
use Rattle.unit.specs.declared.answer.Answer.{Answer}
use Rattle.unit.specs.declared.answer.Answer.TheVariants as W
use Rattle.unit.specs.declared.agree.Judged.{Judged}
use Rattle.unit.specs.declared.agree.Message.{Message}
use Rattle.unit.specs.declared.unit.Unit.{Unit}

-- the server random of a ServerHello: behind the message's type, its length and the version
abbrev pub server_random : List ℕ → List ℕ
server_random m = take 16 (drop 4 m)

-- our hello at the front of its place
abbrev pub message_in : List ℕ → List ℕ → Offer → Message
message_in id random offer =
    record { bytes = pad_to 42 (offer_hello random id offer); size = length (offer_hello random id offer) }

-- the hello that was sent
abbrev pub hello_in : Unit → List ℕ
hello_in u = offer_hello u.protection.keys.client u.id u.offer

-- Of both hellos: the contents of the shore's Finished, and of ours, which also covers the shore's.
unfoldable pub shore_verify : Unit → List ℕ → List ℕ
shore_verify u m = server_verify u.protection.keys.secret (hello_in u) m

unfoldable pub unit_verify : Unit → List ℕ → List ℕ
unit_verify u m = client_verify u.protection.keys.secret (hello_in u) m (finished_of (shore_verify u m))

-- Our flight: change cipher spec with a length, clear number 1; our Finished without one, protected number 0.
unfoldable pub flight_bytes : Keys → List ℕ → List ℕ
flight_bytes keys ours = change_record ++ record_under keys FromUnit C.Handshake 0 ours

abbrev pub flight_with : Keys → List ℕ → List ℕ
flight_with keys ours = pad_to 44 (flight_bytes keys ours)

-- what the keys are made of: the refresh is that of the ServerHello
abbrev pub agreed_keys : Unit → List ℕ → Plan → Keys
agreed_keys u m plan =
    record {
      secret = u.protection.keys.secret;
      server = server_random m;
      client = u.protection.keys.client;
      mac = plan.mac;
      refresh = plan.refresh;
    }

-- The unit after a ServerHello that answers its offer: Replied, the expected Finished and the flight of these hellos.
unfoldable pub agreed_with : Unit → List ℕ → Plan → Unit
agreed_with u m plan =
    record {
      state = Replied;
      id = u.id;
      offer = u.offer;
      expected = shore_verify u m;
      flight = flight_with (agreed_keys u m plan) (finished_of (unit_verify u m));
      sent = u.sent;
      protection = record { keys = agreed_keys u m plan; window = u.protection.window; protected = 0; clear = u.protection.clear };
    }

-- an answer beside the unit that it leaves
abbrev pub judged : Answer → Unit → Judged
judged answer u = record { answer = answer; unit = u }

-- 12, then 13; each acceptable one starts the reading of the reply anew
abbrev pub agreed_to : Unit → List ℕ → Result Plan Disagreed → Judged
agreed_to u m (Ok plan) = judged W.Hello (agreed_with u m plan)
agreed_to u m (Err (G.Unacceptable term)) = judged (W.Refused Unacceptable) u
agreed_to u m (Err G.Malformed) = judged (W.Refused Malformed) u

unfoldable pub agreed_by : Unit → List ℕ → Judged
agreed_by u m = agreed_to u m (agreement_of m u.id u.offer)
