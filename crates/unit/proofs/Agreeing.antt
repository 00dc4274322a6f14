-- The unit that a ServerHello leaves, from its parts.
use mathlib.Core.Path.{◌≡◌, ◌∙◌, ap, ap₂}
use mathlib.Core.List.{List}
use Prim.Native.Nat.{ℕ}
use Rattle.message.specs.Finished.{server_verify, client_verify, finished_of}
use Rattle.message.specs.declared.acceptance.Plan.{Plan}
use Rattle.record.specs.declared.keys.Keys.{Keys}
use Rattle.unit.specs.Agree.{server_random, hello_in, shore_verify, unit_verify, flight_with, agreed_keys, agreed_with}
use Rattle.unit.specs.declared.state.State.TheVariants.{Replied}
use Rattle.unit.specs.declared.unit.Unit.{Unit}

module _ (u : Unit) (m : List ℕ) (plan : Plan) where
  abbrev secret : List ℕ
  secret = u.protection.keys.secret

  abbrev keys_with : List ℕ → Keys
  keys_with server =
      record { secret = secret; server = server; client = u.protection.keys.client; mac = plan.mac; refresh = plan.refresh }

  pub agreed_by : (said expected theirs verify ours server flight : List ℕ) → said ≡ hello_in u
      → expected ≡ server_verify secret said m → theirs ≡ finished_of expected
      → verify ≡ client_verify secret said m theirs → ours ≡ finished_of verify → server ≡ server_random m
      → flight ≡ flight_with (keys_with server) ours
      → ◌≡◌ {A = Unit} (record {
        state = Replied;
        id = u.id;
        offer = u.offer;
        expected = expected;
        flight = flight;
        sent = u.sent;
        protection = record { keys = keys_with server; window = u.protection.window; protected = 0; clear = u.protection.clear };
      }) (agreed_with u m plan)
  unfolding agreed_with shore_verify unit_verify
  agreed_by said expected theirs verify ours server flight es ee et ev eo er ef =
      let expected_is : expected ≡ shore_verify u m = ee ∙ ap (λ x. server_verify secret x m) es in
      let theirs-is : theirs ≡ finished_of (shore_verify u m) = et ∙ ap finished_of expected_is in
      let verify-is : verify ≡ unit_verify u m = ev ∙ ap₂ (λ x y. client_verify secret x m y) es theirs-is in
      let ours-is : ours ≡ finished_of (unit_verify u m) = eo ∙ ap finished_of verify-is in
      let flight_is : flight ≡ flight_with (agreed_keys u m plan) (finished_of (unit_verify u m))
      = ef ∙ ap₂ (λ x y. flight_with (keys_with x) y) er ours-is in
      λ i. record {
        state = Replied;
        id = u.id;
        offer = u.offer;
        expected = expected_is i;
        flight = flight_is i;
        sent = u.sent;
        protection = record { keys = keys_with (er i); window = u.protection.window; protected = 0; clear = u.protection.clear };
      }
