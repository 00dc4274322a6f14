-- The unit and its changes (02, P7; 01, "Handshake" and "Alerts"; 002 10.2.2).
use Rattle.std.specs.Prelude.{List, ℕ, take, drop, replicate}
use Rattle.record.specs.Window.{window_width, emptied}
use Rattle.record.specs.Protection as P
use Rattle.record.specs.declared.window.Window.{Window}
use Rattle.record.specs.declared.protection.Protection.{Protection}
use Rattle.message.specs.declared.offer.Kinds.TheVariants.{Sha80}
use Rattle.message.specs.declared.offer.Offer.{Offer}
use Rattle.connection.specs.Handshake.{nothing_expected}
use Rattle.connection.specs.Sent.{no_records, with_record, sum_of}
use Rattle.unit.specs.State.{settled}
use Rattle.unit.specs.Protected.{flight_size}
use Rattle.unit.specs.declared.state.State.{State}
use Rattle.unit.specs.declared.state.State.TheVariants.{Idle, Sent, Spec, Opening, Closed, Barred}
use Rattle.unit.specs.declared.step.Move.{Move}
use Rattle.unit.specs.declared.step.Move.TheVariants.{Stay, Change, Finish, Settle, Close, Bar}
use Rattle.unit.specs.declared.step.Step.{Step}
use Rattle.unit.specs.declared.unit.Unit.{Unit}
pub use Rattle.connection.specs.Handshake.{new_protection, unkeyed}

-- nothing offered, no flight
abbrev pub nothing_offered : Offer
nothing_offered = record { kinds = Sha80; refresh = 0 }

abbrev pub no_flight : List ℕ
no_flight = replicate 44 0

-- the unit of a session in which nothing has happened, with a window of this width
abbrev pub new_unit : List ℕ → List ℕ → ℕ → State → Unit
new_unit id secret width state =
    record {
      state = state;
      id = id;
      offer = nothing_offered;
      expected = nothing_expected;
      flight = no_flight;
      sent = no_records;
      protection = new_protection secret width;
    }

-- what stands beside a refused fresh
abbrev pub blank_unit : Unit
blank_unit = new_unit (replicate 8 0) (replicate 20 0) window_width Barred

-- one change each
abbrev pub with_state : Unit → State → Unit
with_state u state =
    record {
      state = state;
      id = u.id;
      offer = u.offer;
      expected = u.expected;
      flight = u.flight;
      sent = u.sent;
      protection = u.protection;
    }

abbrev pub with_protection : Unit → Protection → Unit
with_protection u protection =
    record {
      state = u.state;
      id = u.id;
      offer = u.offer;
      expected = u.expected;
      flight = u.flight;
      sent = u.sent;
      protection = protection;
    }

abbrev pub with_window : Unit → Window → Unit
with_window u window = with_protection u (P.with_window u.protection window)

abbrev pub with_sent : Unit → Protection → ℕ → Unit
with_sent u protection sum =
    record {
      state = u.state;
      id = u.id;
      offer = u.offer;
      expected = u.expected;
      flight = u.flight;
      sent = with_record u.sent sum;
      protection = protection;
    }

-- After a hello: Sent, its random and its offer kept. Clear alerts count on from 2; there is no protected number yet.
abbrev pub greeted : Unit → List ℕ → Offer → ℕ → Unit
greeted u random offer sum =
    record {
      state = Sent;
      id = u.id;
      offer = offer;
      expected = u.expected;
      flight = u.flight;
      sent = with_record u.sent sum;
      protection = record {
        keys = record {
          secret = u.protection.keys.secret;
          server = u.protection.keys.server;
          client = random;
          mac = u.protection.keys.mac;
          refresh = u.protection.keys.refresh;
        };
        window = u.protection.window;
        protected = 0;
        clear = 2;
      };
    }

-- our flight as it is on the wire: change cipher spec, then Finished
abbrev pub flight_of : Unit → List ℕ
flight_of u = take (flight_size u.protection.keys.mac) u.flight

-- After the shore's Finished: Opening. The two records of the flight are added to those that we sent; data and protected alerts
-- count on from 1, clear alerts from 2.
unfoldable pub opened : Unit → Unit
opened u =
    record {
      state = Opening;
      id = u.id;
      offer = u.offer;
      expected = u.expected;
      flight = u.flight;
      sent = with_record (with_record u.sent (sum_of (take 6 u.flight))) (sum_of (drop 6 (flight_of u)));
      protection = record { keys = u.protection.keys; window = u.protection.window; protected = 1; clear = 2 };
    }

-- "Start again leads from Closed to Idle and forgets the window and the kept hello" (01), and with it the flight and the records
-- sent (02, P3: "since the last start"); the sending numbers stay.
abbrev pub reopened : Unit → Unit
reopened u =
    record {
      state = Idle;
      id = u.id;
      offer = nothing_offered;
      expected = u.expected;
      flight = no_flight;
      sent = no_records;
      protection = P.with_window u.protection (emptied u.protection.window);
    }

-- Barred: "required to forget any session identifiers, keys, and secrets" (002 10.2.2)
abbrev pub barred : Unit → Unit
barred u =
    record {
      state = Barred;
      id = replicate 8 0;
      offer = nothing_offered;
      expected = nothing_expected;
      flight = u.flight;
      sent = u.sent;
      protection = unkeyed u.protection;
    }

-- the unit that a step leaves
abbrev pub moved : Unit → Move → Unit
moved u Stay = u
moved u Change = with_state u Spec
moved u Finish = opened u
moved u Settle = with_state u (settled u.state)
moved u Close = with_state u Closed
moved u Bar = barred u

unfoldable pub left_by : Unit → Step → Unit
left_by u step = moved (with_window u step.window) step.next
