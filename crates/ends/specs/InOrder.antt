-- 02, P7: "Prove that, with one session planted in both, each end accepts the other's handshake and data when all arrives in order."
use Rattle.std.specs.Prelude.{◌≡◌, List, [], ◌∷◌, ℕ, ◌≤◌, length, Ok}
use Rattle.digest.specs.Bytes.{laid_over}
use Rattle.record.specs.Window.{Held}
use Rattle.connection.specs.Calls as AshoreCalls
use Rattle.connection.specs.Receive as Ashore
use Rattle.connection.specs.declared.answer.Answer.TheVariants as A
use Rattle.connection.specs.declared.connection.Connection.{Connection}
use Rattle.unit.specs.Calls as AboardCalls
use Rattle.unit.specs.Hello as AboardHello
use Rattle.unit.specs.Receive as Aboard
use Rattle.unit.specs.Send as AboardSends
use Rattle.unit.specs.declared.answer.Answer.TheVariants as B
use Rattle.unit.specs.declared.unit.Unit.{Unit as ShipsUnit}
use Rattle.ends.specs.Sides.{ends_of, Turn, ListedTurns, unit_turns, shore_turns, AllHanded}

-- "one or both of" SHA_80, 2, and SHA, 3, in any order
pub data Kinds : List ℕ → Type 0 where
  sha80 : Kinds (2 ∷ [])
  sha : Kinds (3 ∷ [])
  sha80_first : Kinds (2 ∷ 3 ∷ [])
  sha_first : Kinds (3 ∷ 2 ∷ [])

-- one session, the width of either window, both randoms, and what the unit offers
pub record Setting : Type 0 where
  pub id : List ℕ
  pub secret : List ℕ
  pub unit_width : ℕ
  pub shore_width : ℕ
  pub client : List ℕ
  pub server : List ℕ
  pub kinds : List ℕ
  pub refresh : ℕ

-- arguments as listed
pub record ListedSetting (s : Setting) : Type 0 where
  pub id_size : length s.id ≡ 8
  pub secret_size : length s.secret ≡ 20
  pub unit_held : Held s.unit_width
  pub shore_held : Held s.shore_width
  pub client_size : length s.client ≡ 16
  pub server_size : length s.server ≡ 16
  pub kinds_known : Kinds s.kinds
  pub refresh_most : s.refresh ≤ 255

-- the room that each call has, and the random that is lent to the shore with the flight
pub record Rooms : Type 0 where
  pub for_hello : List ℕ
  pub for_reply : List ℕ
  pub for_flight : List ℕ
  pub random : List ℕ
  pub for_none : List ℕ

-- room as listed: under 45 bytes a hello that offers both kinds is refused, under 128 a receive
pub record ListedRooms (r : Rooms) : Type 0 where
  pub hello_room : 45 ≤ length r.for_hello
  pub reply_room : 128 ≤ length r.for_reply
  pub flight_room : 128 ≤ length r.for_flight
  pub random_size : length r.random ≡ 16
  pub none_room : 128 ≤ length r.for_none

-- The handshake: what each call gives and writes, the other end's datagram being what it receives.
pub record Met (s : Setting) (r : Rooms) : Type 0 where
  pub u₀ : ShipsUnit
  pub u₁ : ShipsUnit
  pub u₂ : ShipsUnit
  pub c₀ : Connection
  pub c₁ : Connection
  pub c₂ : Connection
  pub hello : List ℕ
  pub reply : List ℕ
  pub flight : List ℕ
  -- "one session planted in both"
  pub planted_aboard : AboardCalls.fresh_of s.id s.secret s.unit_width ≡ AboardCalls.leaving (Ok tt) u₀
  pub planted_ashore : AshoreCalls.fresh_of s.id s.secret s.shore_width ≡ AshoreCalls.leaving (Ok tt) c₀
  -- "write the ClientHello"
  pub greets : AboardHello.hello_sent u₀ s.client s.kinds s.refresh (length r.for_hello)
      ≡ AboardSends.done_with (length hello) u₁
  pub hello_written : AboardHello.hello_output u₀ s.client s.kinds s.refresh r.for_hello ≡ laid_over r.for_hello 0 hello
  -- the shore replies
  pub replies : Ashore.received_of c₀ hello s.server (length r.for_reply)
      ≡ record {
        taken = Ok 1;
        answers = Ashore.slots_of (A.Reply (length reply) ∷ []);
        written = length reply;
        connection = c₁;
      }
  pub reply_written : Ashore.output_of c₀ hello s.server r.for_reply ≡ laid_over r.for_reply 0 reply
  -- "read the reply, verify our Finished, write change cipher spec and Finished"
  pub opens : Aboard.received_of u₁ reply (length r.for_flight)
      ≡ record {
        taken = Ok 3;
        answers = Aboard.slots_of (B.Hello ∷ B.Spec ∷ B.Open (length flight) ∷ []);
        written = length flight;
        unit = u₂;
      }
  pub flight_written : Aboard.output_of u₁ reply r.for_flight ≡ laid_over r.for_flight 0 flight
  -- the shore takes change cipher spec and Finished, and is open too
  pub opens_ashore : Ashore.received_of c₁ flight r.random (length r.for_none)
      ≡ record {
        taken = Ok 2;
        answers = Ashore.slots_of (A.Spec ∷ A.Open ∷ []);
        written = 0;
        connection = c₂;
      }
  pub nothing_written : Ashore.output_of c₁ flight r.random r.for_none ≡ r.for_none
  -- ".. and data": every report of either is sent and handed out by the other, as sent and in order, "up to number 65,535"
  pub reports : (turns : List Turn) → ListedTurns u₂.protection.keys.mac turns → unit_turns turns ≤ 65535 → shore_turns turns ≤ 65535
      → AllHanded (ends_of u₂ c₂) turns

unfoldable pub InOrder : Type 0
InOrder = (s : Setting) (r : Rooms) → ListedSetting s → ListedRooms r → Met s r
