-- All in order. The idea: both hellos give one plan, so both ends hold the same keys and the same messages; each Finished is then what
-- the other expects, and with number 0 it is the first that either window takes.
use mathlib.Core.Path.{◌≡◌, refl, sym, ◌∙◌, ap, ap₂, subst}
use mathlib.Core.Logic.{inl, inr}
use mathlib.Core.Bool.{Bool, true, false}
use mathlib.Core.List.{List, [], ◌∷◌, ◌++◌}
use Prim.Native.Nat.{ℕ, ◌-◌, ◌%◌, ◌^◌, ◌≤◌, ◌<◌}
use native.Mathlib.Omega.{arith}
use lib.ListN.{length, take, get_or, replicate}
use lib.Seq.{take_at}
use lib.Dec.{leb}
use borrow.Author.Tests.{eq-eqb, ne_eqb, le-leb, le-ltb}
use Rattle.digest.specs.Pick.{pick}
use Rattle.digest.specs.Bytes.{laid_over}
use Rattle.digest.specs.Hmac.{hmac}
use Rattle.digest.specs.Mac.{size_of, server_expansion}
use Rattle.record.specs.Keys.{key_number, mac_secret}
use Rattle.record.specs.Code.{protected_by}
use Rattle.record.specs.History.{accepted, highest_of, window_of, arrived_of}
use Rattle.record.specs.Protection.{record_under}
use Rattle.record.specs.Window.{Held, accept_of, fresh_window, emptied}
use Rattle.record.specs.Written.{written_of, byte_for}
use Rattle.record.specs.Datagram.{framed, framing_of}
use Rattle.record.specs.declared.header.Content.TheVariants as C
use Rattle.record.specs.declared.keys.Keys.{Keys}
use Rattle.record.specs.declared.keys.Sense.TheVariants.{FromUnit, FromShore}
use Rattle.record.specs.declared.reader.Record.{Record}
use Rattle.record.specs.declared.window.NotNew.TheVariants as A
use Rattle.record.proofs.Fronts.{record_length}
use Rattle.record.proofs.Histories.{meaning, fresh_means, new_when}
use Rattle.record.proofs.RoundTrip.{read_back}
use Rattle.record.proofs.Protected.{CodedUnder}
use Rattle.message.specs.Acceptance.{heard_of}
use Rattle.message.specs.Change.{is_change}
use Rattle.message.specs.Finished.{server_verify, finished_of, judged_of}
use Rattle.message.specs.Offer.{kinds_named, offer_hello}
use Rattle.message.specs.Request.{is_request}
use Rattle.message.specs.Server.{server_hello_of}
use Rattle.message.specs.declared.acceptance.Plan.{Plan}
use Rattle.message.specs.Agreement.{agreement_of}
use Rattle.message.specs.declared.acceptance.Unheard.TheVariants as H
use Rattle.message.specs.declared.agreement.Disagreed.TheVariants as G
use Rattle.message.specs.declared.finished.Unverified.TheVariants as F
use Rattle.message.specs.declared.offer.Offer.{Offer}
use Rattle.message.proofs.FinishedLaws.{finished_right, finished_size as fifteen}
use Rattle.message.proofs.Replies.{length_server}
use Rattle.connection.specs.Answer.{judged, reply_size}
use Rattle.connection.specs.Calls.{session_of}
use Rattle.connection.specs.Connection.{connection_of}
use Rattle.connection.specs.Handshake.{with_state, with_window, none_started}
use Rattle.connection.specs.Judge.{fragment_of}
use Rattle.connection.specs.Receive as Ashore
use Rattle.connection.specs.Reply.{our_hello, our_finished, expected_of, hello_record, change_record, finished_record, flight_of, reply_to, pad_to, answered_with}
use Rattle.connection.specs.Sent.{no_records, sum_of}
use Rattle.connection.specs.Told.{sent_after}
use Rattle.connection.specs.declared.answer.Answer.TheVariants as W
use Rattle.connection.specs.declared.connection.Connection.{Connection}
use Rattle.connection.specs.declared.handshake.Handshake.{Handshake}
use Rattle.connection.specs.declared.handshake.Session.{Session}
use Rattle.connection.specs.declared.receive.Untaken.TheVariants as T
use Rattle.connection.specs.declared.refusal.Refusal.TheVariants as X
use Rattle.connection.specs.declared.sent.SentRecords.{SentRecords}
use Rattle.connection.specs.declared.state.State.TheVariants as S
use Rattle.connection.specs.declared.told.Told.{Told}
use Rattle.unit.specs.Agree.{shore_verify, unit_verify, flight_bytes, agreed_keys, agreed_with}
use Rattle.unit.specs.Answer.{opens_to}
use Rattle.unit.specs.Calls as AboardCalls
use Rattle.unit.specs.Hello.{hello_datagram, offer_of, greeted_with, hello_as, hello_sent, hello_output_as, hello_output}
use Rattle.unit.specs.Protected.{flight_size}
use Rattle.unit.specs.Receive as Aboard
use Rattle.unit.specs.Send.{unsent, done_with}
use Rattle.unit.specs.Unit as B
use Rattle.unit.specs.declared.answer.Answer.TheVariants as Y
use Rattle.unit.specs.declared.state.State.TheVariants as Z
use Rattle.unit.specs.declared.unit.Unit.{Unit as ShipsUnit}
use Rattle.unit.proofs.Greeting.{hello_size_lem, hello_most}
use Rattle.demands.specs.Asked.{tells, asks_only, left_only, Tells}
use Rattle.demands.specs.Calls.{chain_end, chain_more, fresh_done}
use Rattle.demands.specs.Genuine.{Protected, keys_of}
use Rattle.demands.specs.Runs.{fresh_with, fresh_one}
use Rattle.demands.specs.Seen.{seen_in}
use Rattle.demands.specs.Table.{Row, row_reply, row_change, row_open, IsHello}
use Rattle.demands.proofs.Asked.{tells_is}
use Rattle.demands.proofs.Calls.{fresh_row}
use Rattle.demands.proofs.Refusals.{no_reply, laid_nothing}
use Rattle.demands.proofs.Wire.{clear_framed, clear_fragment}
use Rattle.demands.proofs.Works.{expected_size}
use Rattle.ends.specs.Sides.{ends_of}
use Rattle.ends.specs.InOrder.{Setting, ListedSetting, Rooms, ListedRooms, Met, InOrder}
use Rattle.ends.proofs.Flight.{finished_at, change_first, flown, flown_size, flown_framed, flown_change, flown_finished, replied, hello_first, change_next, replied_framed, replied_hello, replied_change, replied_finished}
use Rattle.ends.proofs.Greeting.{offered_in, named, plan_for, hello_heard, hello_random, answer_agreed, answer_random, server_size}
use Rattle.ends.proofs.Aboard as Ship
use Rattle.ends.proofs.Aboard.{hello_taken, change_taken, finished_taken, chained_end, chained_more}
use Rattle.ends.proofs.Ashore as Shore
use Rattle.ends.proofs.Reports.{Together, all_handed}
use Rattle.std.specs.Prelude.{Ok}

-- the keys of number 0 are those of key number 0
pub key_zero : (k : ℕ) → key_number k 0 ≡ 0
unfolding key_number
key_zero k = by (leb k 15)
  where
    by : (b : Bool) → pick b (0 - 0 % 2 ^ k) 0 ≡ 0
    by true = omega arith
    by false = refl

-- a fresh window takes number 0
takes_first : (width : ℕ) → Held width → accept_of (fresh_window width) 0 ≡ Ok (window_of width (0 ∷ []), arrived_of width (0 ∷ []))
unfolding highest_of accepted
takes_first width held =
    ap (λ w. accept_of w 0) (fresh_means width) ∙ meaning width held [] 0 ∙ new_when width [] 0 (omega (arith, held.0)) refl

first_highest : highest_of (0 ∷ []) < 1
unfolding highest_of
first_highest = omega arith

no_request : (m : List ℕ) → length m ≡ 15 → is_request m ≡ false
unfolding is_request
no_request m l = rw (ne_eqb (length m) 3 (λ z. omega arith)) refl

module _ (s : Setting) (ls : ListedSetting s) where
  abbrev session : Session
  session = session_of s.id s.secret

  abbrev offer : Offer
  offer = offer_of (offered_in ls.kinds_known) s.refresh

  abbrev plan : Plan
  plan = plan_for s.client s.id offer ls.client_size ls.id_size

  -- both hellos
  m : List ℕ
  m = offer_hello s.client s.id offer

  pub sh : List ℕ
  sh = server_hello_of s.server s.id plan

  pub sh_size : length sh ≡ 35
  unfolding sh
  sh_size = length_server s.server s.id plan ∙ omega (arith, ls.server_size, ls.id_size)

  -- the keys, as both will hold them
  pub k : Keys
  k = record { secret = s.secret; server = s.server; client = s.client; mac = plan.mac; refresh = s.refresh }

  -- ---- the unit's hello

  abbrev u₀ : ShipsUnit
  u₀ = B.new_unit s.id s.secret s.unit_width Z.Idle

  pub hello : List ℕ
  hello = hello_datagram s.id s.client offer

  u₁ : ShipsUnit
  u₁ = B.greeted u₀ s.client offer (sum_of hello)

  planted_aboard : AboardCalls.fresh_of s.id s.secret s.unit_width ≡ AboardCalls.leaving (Ok tt) u₀
  unfolding AboardCalls.fresh_of
  planted_aboard =
      rw (
        eq-eqb (length s.id) 8 ls.id_size,
        eq-eqb (length s.secret) 20 ls.secret_size,
        le-ltb s.unit_width 32 ls.unit_held.0,
        le-ltb 64 s.unit_width ls.unit_held.1,
      ) refl

  hello_few : length hello ≤ 45
  unfolding hello hello_datagram
  hello_few = omega (arith, record_length false false C.Handshake 0 (offer_hello s.client s.id offer), hello_most s.client s.id offer ls.client_size ls.id_size)

  module _ (out : List ℕ) (room : 45 ≤ length out) where
    greets : hello_sent u₀ s.client s.kinds s.refresh (length out) ≡ done_with (length hello) u₁
    unfolding hello_sent greeted_with hello u₁
    greets =
        ap₂ (λ a b. pick a (pick b (unsent u₀ X.Argument) (hello_as u₀ s.client s.refresh (length out) (kinds_named s.kinds))) (unsent u₀ X.Argument))
        (eq-eqb (length s.client) 16 ls.client_size) (le-ltb 255 s.refresh ls.refresh_most)
        ∙ ap (hello_as u₀ s.client s.refresh (length out)) (named ls.kinds_known)
        ∙ ap (λ b. pick b (done_with (length hello) u₁) (unsent u₀ X.Room)) (le-leb (length hello) (length out) (omega (arith, hello_few)))

    hello_written : hello_output u₀ s.client s.kinds s.refresh out ≡ laid_over out 0 hello
    unfolding hello_output written_of hello
    hello_written =
        ap₂ (λ a b. pick a (pick b out (hello_output_as u₀ s.client s.refresh out (kinds_named s.kinds))) out)
        (eq-eqb (length s.client) 16 ls.client_size) (le-ltb 255 s.refresh ls.refresh_most)
        ∙ ap (hello_output_as u₀ s.client s.refresh out) (named ls.kinds_known)
        ∙ ap (λ b. pick b (laid_over out 0 hello) out) (le-leb (length hello) (length out) (omega (arith, hello_few)))

  -- ---- the shore's reply

  abbrev h₀ : Handshake
  h₀ = fresh_with s.id s.secret s.shore_width

  abbrev pub c₀ : Connection
  c₀ = fresh_one s.id s.secret s.shore_width

  pub reply : List ℕ
  reply = reply_to session s.server m plan

  h₁ : Handshake
  h₁ = answered_with h₀ s.server m plan

  sent₁ : SentRecords
  sent₁ = sent_after no_records h₁.kept (W.Reply (length reply))

  pub c₁ : Connection
  c₁ = connection_of h₁ none_started sent₁

  pub r₁ : Record
  r₁ = read_back false false C.Handshake 0 (length m)

  m_size : (38 ≤ length m) × (length m ≤ 42)
  unfolding m
  m_size =
      (omega (arith, hello_size_lem s.client s.id offer ls.client_size ls.id_size), hello_most s.client s.id offer ls.client_size ls.id_size)

  pub hello_framed : framing_of hello ≡ framed (r₁ ∷ [])
  unfolding hello hello_datagram r₁ m
  hello_framed = clear_framed C.Handshake 0 (omega arith) m (omega (arith, m_size.0)) (omega (arith, m_size.1))

  hello_fragment : fragment_of hello r₁ ≡ m
  unfolding hello hello_datagram r₁ m
  hello_fragment = clear_fragment C.Handshake 0 (omega arith) m (omega (arith, m_size.0))

  begins : get_or m 0 0 ≡ 1
  unfolding m offer_hello
  begins = refl

  is_hello_lem : IsHello (seen_in hello r₁)
  unfolding r₁
  is_hello_lem = record { clear = refl; handshake = refl; begins = ap (λ f. get_or f 0 0) hello_fragment ∙ begins }

  heard : heard_of m s.id ≡ Ok plan
  unfolding m
  heard = hello_heard s.client s.id offer ls.client_size ls.id_size

  row₁ : Row h₀ no_records s.server hello r₁ (judged (W.Reply (length reply)) h₁)
  unfolding reply h₁ r₁
  row₁ =
      subst (λ f. Row h₀ no_records s.server hello r₁ (judged (W.Reply (length (reply_to session s.server f plan))) (answered_with h₀ s.server f plan))) hello_fragment
      (row_reply plan (record { hello = is_hello_lem; first = refl; another = inl refl }) (ap (λ f. heard_of f s.id) hello_fragment ∙ heard))

  idle_not : S.Idle ≡ S.Open → ⊥
  idle_not z = let w : ◌≡◌ {A = ℕ} 0 1 = cc in omega arith

  told₁ : Tells c₀ s.server hello r₁ (record { answer = W.Reply (length reply); connection = c₁; beside = false })
  unfolding c₁ sent₁
  told₁ = tells (asks_only idle_not) row₁ left_only

  sends₁ : Ashore.first_reply c₀ s.server hello (r₁ ∷ []) ≡ reply
  unfolding Ashore.first_reply c₁ h₁ answered_with reply
  sends₁ =
      ap Ashore.sent_by (tells_is c₀ s.server hello r₁ told₁)
      ∙ take_at reply (replicate (84 - length reply) 0) (length reply) refl

  module _ (out : List ℕ) (room : 128 ≤ length out) where
    came₁ : Shore.Took c₀ hello s.server out (r₁ ∷ []) (W.Reply (length reply) ∷ []) c₁ ls.server_size room hello_framed (chain_more told₁ chain_end)
    came₁ = Shore.took c₀ hello s.server out (r₁ ∷ []) (W.Reply (length reply) ∷ []) c₁ ls.server_size room hello_framed (chain_more told₁ chain_end)

    pub replies : Ashore.received_of c₀ hello s.server (length out)
        ≡ record { taken = Ok 1; answers = Ashore.slots_of (W.Reply (length reply) ∷ []); written = length reply; connection = c₁ }
    replies =
        came₁.gives
        ∙ λ i. record { taken = Ok 1; answers = Ashore.slots_of (W.Reply (length reply) ∷ []); written = length (sends₁ i); connection = c₁ }

    reply_written : Ashore.output_of c₀ hello s.server out ≡ laid_over out 0 reply
    reply_written = came₁.writes ∙ ap (laid_over out 0) sends₁

  -- ---- the unit opens

  pub theirs : List ℕ
  theirs = finished_of (server_verify s.secret m sh)

  pub theirs_size : length theirs ≡ 15
  unfolding theirs
  theirs_size = fifteen (server_verify s.secret m sh) (server_size s.secret m sh)

  pub reply_is : reply ≡ replied k FromShore theirs theirs_size sh sh_size
  unfolding reply reply_to flight_of finished_record record_under our_hello our_finished theirs k sh m
  reply_is =
      λ i. hello_record sh ++ (change_record ++ protected_by (hmac (mac_secret s.secret server_expansion (sym (key_zero s.refresh) i) s.server
      (hello_random s.client s.id offer ls.client_size ls.id_size i))) (size_of plan.mac) false C.Handshake 0 theirs)

  abbrev d : List ℕ
  d = replied k FromShore theirs theirs_size sh sh_size

  u_agreed : ShipsUnit
  u_agreed = agreed_with u₁ sh plan

  u_spec : ShipsUnit
  u_spec = B.with_state (B.with_window u_agreed (emptied u_agreed.protection.window)) Z.Spec

  pub u₂ : ShipsUnit
  u₂ = B.opened (B.with_window u_spec (window_of s.unit_width (0 ∷ [])))

  keys_aboard : agreed_keys u₁ sh plan ≡ k
  unfolding u₁ sh k
  keys_aboard =
      λ i. record {
        secret = s.secret;
        server = answer_random s.client s.id offer ls.client_size ls.id_size s.server ls.server_size i;
        client = s.client;
        mac = plan.mac;
        refresh = plan.refresh;
      }

  spec_keys : u_spec.protection.keys ≡ k
  unfolding u_spec u_agreed agreed_with
  spec_keys = keys_aboard

  takes_0 : accept_of u_spec.protection.window 0 ≡ Ok (window_of s.unit_width (0 ∷ []), arrived_of s.unit_width (0 ∷ []))
  unfolding u_spec u_agreed agreed_with u₁
  takes_0 = takes_first s.unit_width ls.unit_held

  right : judged_of theirs u_spec.expected ≡ Ok tt
  unfolding u_spec u_agreed agreed_with u₁ theirs shore_verify m
  right = finished_right (server_verify s.secret m sh) (server_size s.secret m sh)

  opens_size : ℕ
  opens_size = flight_size u_spec.protection.keys.mac

  begins_2 : get_or sh 0 0 ≡ 2
  unfolding sh
  begins_2 = refl

  agreed : agreement_of sh s.id offer ≡ Ok plan
  unfolding sh
  agreed = answer_agreed s.client s.id offer ls.client_size ls.id_size s.server ls.server_size

  coded : CodedUnder u_spec.protection.keys FromShore 0 (byte_for false true C.Handshake) (fragment_of d (finished_at k FromShore theirs theirs_size 46)) theirs
  coded =
      subst (λ x. CodedUnder x FromShore 0 (byte_for false true C.Handshake) (fragment_of d (finished_at k FromShore theirs theirs_size 46)) theirs) (sym spec_keys)
      (replied_finished k FromShore theirs theirs_size sh sh_size)

  chain₂ : Ship.Chained d u₁ (hello_first k FromShore theirs theirs_size sh sh_size ∷ change_next k FromShore theirs theirs_size sh sh_size ∷ finished_at k FromShore theirs theirs_size 46 ∷ [])
      (Y.Hello ∷ Y.Spec ∷ Y.Open opens_size ∷ []) u₂
  unfolding u₁ u_agreed agreed_with u_spec u₂ opens_size
  chain₂ =
      chained_more
      (hello_taken u₁ d (hello_first k FromShore theirs theirs_size sh sh_size) refl refl refl refl sh (replied_hello k FromShore theirs theirs_size sh sh_size) begins_2 plan agreed)
      (chained_more
      (change_taken u_agreed d (change_next k FromShore theirs theirs_size sh sh_size) refl refl refl (replied_change k FromShore theirs theirs_size sh sh_size))
      (chained_more
      (finished_taken u_spec d (finished_at k FromShore theirs theirs_size 46) refl refl refl theirs (window_of s.unit_width (0 ∷ [])) (arrived_of s.unit_width (0 ∷ []))
      coded takes_0 (no_request theirs theirs_size) right)
      chained_end))

  -- ---- the flight

  pub ours : List ℕ
  ours = finished_of (expected_of session s.server m plan)

  pub ours_size : length ours ≡ 15
  unfolding ours
  ours_size = fifteen (expected_of session s.server m plan) (expected_size session s.server m plan)

  abbrev pub flight : List ℕ
  flight = flown k FromUnit ours ours_size

  ours_same : finished_of (unit_verify u₁ sh) ≡ ours
  unfolding ours unit_verify shore_verify expected_of our_finished our_hello u₁ m sh
  ours_same = refl

  flight_is : flight_bytes (agreed_keys u₁ sh plan) (finished_of (unit_verify u₁ sh)) ≡ flight
  unfolding flight_bytes
  flight_is = ap₂ (λ x y. change_record ++ record_under x FromUnit C.Handshake 0 y) keys_aboard ours_same

  opens_is : opens_size ≡ length flight
  unfolding opens_size u_spec u_agreed agreed_with k
  opens_is = sym (flown_size k FromUnit ours ours_size)

  flying_is : take (opens_to 0 (Y.Hello ∷ Y.Spec ∷ Y.Open opens_size ∷ [])) u₂.flight ≡ flight
  unfolding opens_to u₂ B.opened u_spec u_agreed agreed_with
  flying_is =
      ap₂ (λ n f. take n (pad_to 44 f)) opens_is flight_is ∙ take_at flight (replicate (44 - length flight) 0) (length flight) refl

  module _ (out : List ℕ) (room : 128 ≤ length out) where
    abbrev rs₂ : List Record
    rs₂ = hello_first k FromShore theirs theirs_size sh sh_size ∷ change_next k FromShore theirs theirs_size sh sh_size ∷ finished_at k FromShore theirs theirs_size 46 ∷ []

    came₂ : Ship.Took u₁ d out rs₂ (Y.Hello ∷ Y.Spec ∷ Y.Open opens_size ∷ []) u₂ room (replied_framed k FromShore theirs theirs_size sh sh_size) chain₂
    came₂ = Ship.took u₁ d out rs₂ (Y.Hello ∷ Y.Spec ∷ Y.Open opens_size ∷ []) u₂ room (replied_framed k FromShore theirs theirs_size sh sh_size) chain₂

    opens : Aboard.received_of u₁ reply (length out)
        ≡ record { taken = Ok 3; answers = Aboard.slots_of (Y.Hello ∷ Y.Spec ∷ Y.Open (length flight) ∷ []); written = length flight; unit = u₂ }
    opens =
        ap (λ x. Aboard.received_of u₁ x (length out)) reply_is
        ∙ came₂.gives
        ∙ λ i. record { taken = Ok 3; answers = Aboard.slots_of (Y.Hello ∷ Y.Spec ∷ Y.Open (opens_is i) ∷ []); written = length (flying_is i); unit = u₂ }

    flight_written : Aboard.output_of u₁ reply out ≡ laid_over out 0 flight
    flight_written = ap (λ x. Aboard.output_of u₁ x out) reply_is ∙ came₂.writes ∙ ap (laid_over out 0) flying_is

  -- ---- the shore opens

  h₂ : Handshake
  h₂ = with_state (with_window h₁ (emptied h₁.protection.window)) S.Spec

  h₃ : Handshake
  h₃ = with_state (with_window h₂ (window_of s.shore_width (0 ∷ []))) S.Open

  pub c₂ : Connection
  c₂ = connection_of h₃ none_started sent₁

  replied_not : h₁.state ≡ S.Open → ⊥
  unfolding h₁ answered_with
  replied_not z = let w : ◌≡◌ {A = ℕ} 0 1 = cc in omega arith

  spec_not : S.Spec ≡ S.Open → ⊥
  spec_not z = let w : ◌≡◌ {A = ℕ} 0 1 = cc in omega arith

  keys_ashore : keys_of h₂ ≡ k
  unfolding h₂ h₁ answered_with k m
  keys_ashore =
      λ i. record {
        secret = s.secret;
        mac = plan.mac;
        refresh = plan.refresh;
        server = s.server;
        client = hello_random s.client s.id offer ls.client_size ls.id_size i;
      }

  row₂ : (random : List ℕ) → Row h₁ sent₁ random flight (change_first k FromUnit ours ours_size) (judged W.Spec h₂)
  unfolding h₁ answered_with h₂ is_change
  row₂ random = row_change refl refl refl (ap is_change (flown_change k FromUnit ours ours_size))

  protected₃ : Protected (keys_of h₂) flight (finished_at k FromUnit ours ours_size 6) ours
  protected₃ =
      record {
        is_protected = refl;
        is_coded = subst (λ x. CodedUnder x FromUnit 0 (byte_for false true C.Handshake) (fragment_of flight (finished_at k FromUnit ours ours_size 6)) ours) (sym keys_ashore)
            (flown_finished k FromUnit ours ours_size);
      }

  takes_0_ashore : accept_of h₂.protection.window 0 ≡ Ok (window_of s.shore_width (0 ∷ []), arrived_of s.shore_width (0 ∷ []))
  unfolding h₂ h₁ answered_with
  takes_0_ashore = takes_first s.shore_width ls.shore_held

  right_ashore : judged_of ours h₂.expected ≡ Ok tt
  unfolding ours h₂ h₁ answered_with
  right_ashore = finished_right (expected_of session s.server m plan) (expected_size session s.server m plan)

  row₃ : (random : List ℕ) → Row h₂ sent₁ random flight (finished_at k FromUnit ours ours_size 6) (judged W.Open h₃)
  unfolding h₂ h₃
  row₃ random =
      row_open ours (window_of s.shore_width (0 ∷ []))
      (record { guarded = record { protection = refl; kind = inl (refl, inr refl) }; coded = protected₃; arrived = arrived_of s.shore_width (0 ∷ []); accepted = takes_0_ashore })
      refl refl right_ashore

  told₂ : (random : List ℕ) → Tells c₁ random flight (change_first k FromUnit ours ours_size) (record { answer = W.Spec; connection = connection_of h₂ none_started sent₁; beside = false })
  unfolding c₁
  told₂ random = tells (asks_only replied_not) (row₂ random) left_only

  told₃ : (random : List ℕ)
      → Tells (connection_of h₂ none_started sent₁) random flight (finished_at k FromUnit ours ours_size 6) (record { answer = W.Open; connection = c₂; beside = false })
  unfolding h₂ c₂
  told₃ random = tells (asks_only spec_not) (row₃ random) left_only

  module _ (random out : List ℕ) (lr : length random ≡ 16) (room : 128 ≤ length out) where
    abbrev rs₃ : List Record
    rs₃ = change_first k FromUnit ours ours_size ∷ finished_at k FromUnit ours ours_size 6 ∷ []

    came₃ : Shore.Took c₁ flight random out rs₃ (W.Spec ∷ W.Open ∷ []) c₂ lr room (flown_framed k FromUnit ours ours_size) (chain_more (told₂ random) (chain_more (told₃ random) chain_end))
    came₃ = Shore.took c₁ flight random out rs₃ (W.Spec ∷ W.Open ∷ []) c₂ lr room (flown_framed k FromUnit ours ours_size) (chain_more (told₂ random) (chain_more (told₃ random) chain_end))

    silent : Ashore.first_reply c₁ random flight rs₃ ≡ []
    silent =
        no_reply c₁ random flight (change_first k FromUnit ours ours_size) (finished_at k FromUnit ours ours_size 6 ∷ [])
        (ap (λ (t : Told). reply_size t.answer) (tells_is c₁ random flight (change_first k FromUnit ours ours_size) (told₂ random)))

    pub opens_ashore : Ashore.received_of c₁ flight random (length out)
        ≡ record { taken = Ok 2; answers = Ashore.slots_of (W.Spec ∷ W.Open ∷ []); written = 0; connection = c₂ }
    opens_ashore =
        came₃.gives
        ∙ λ i. record { taken = Ok 2; answers = Ashore.slots_of (W.Spec ∷ W.Open ∷ []); written = length (silent i); connection = c₂ }

    nothing_written : Ashore.output_of c₁ flight random out ≡ out
    nothing_written = came₃.writes ∙ ap (laid_over out 0) silent ∙ laid_nothing out

  -- ---- together

  pub together : Together s.unit_width s.shore_width (ends_of u₂ c₂)
  unfolding u₂ B.opened u_spec u_agreed agreed_with c₂ h₃ h₂ h₁ answered_with
  together =
      record {
        talks = inl refl;
        is_open = refl;
        same_keys = keys_aboard ∙ sym keys_ashore;
        ashore = 0 ∷ [];
        ashore_is = refl;
        ashore_below = first_highest;
        aboard = 0 ∷ [];
        aboard_is = refl;
        aboard_below = first_highest;
      }

  pub unit_keys : u₂.protection.keys ≡ k
  unfolding u₂ B.opened u_spec u_agreed agreed_with
  unit_keys = keys_aboard

  pub unit_window : u₂.protection.window ≡ window_of s.unit_width (0 ∷ [])
  unfolding u₂ B.opened u_spec
  unit_window = refl

  pub shore_window : c₂.handshake.protection.window ≡ window_of s.shore_width (0 ∷ [])
  unfolding c₂ h₃ h₂
  shore_window = refl

  pub hello_clear : r₁.protected ≡ false
  unfolding r₁
  hello_clear = refl

  pub next_aboard : u₂.protection.protected ≡ 1
  unfolding u₂ B.opened
  next_aboard = refl

  pub next_ashore : c₂.handshake.protection.protected ≡ 1
  unfolding c₂ h₃ h₂ h₁ answered_with
  next_ashore = refl

  pub met : (r : Rooms) → ListedRooms r → Met s r
  met r lr =
      record {
        u₀ = u₀;
        u₁ = u₁;
        u₂ = u₂;
        c₀ = c₀;
        c₁ = c₁;
        c₂ = c₂;
        hello = hello;
        reply = reply;
        flight = flight;
        planted_aboard = planted_aboard;
        planted_ashore = fresh_row s.id s.secret s.shore_width (fresh_done ls.id_size ls.secret_size ls.shore_held);
        greets = greets r.for_hello lr.hello_room;
        hello_written = hello_written r.for_hello lr.hello_room;
        replies = replies r.for_reply lr.reply_room;
        reply_written = reply_written r.for_reply lr.reply_room;
        opens = opens r.for_flight lr.flight_room;
        flight_written = flight_written r.for_flight lr.flight_room;
        opens_ashore = opens_ashore r.random r.for_none lr.random_size lr.none_room;
        nothing_written = nothing_written r.random r.for_none lr.random_size lr.none_room;
        reports = λ turns l a b.
            all_handed s.unit_width s.shore_width ls.unit_held ls.shore_held turns (ends_of u₂ c₂) together l
            (omega (arith, next_aboard, a)) (omega (arith, next_ashore, b));
      }

  -- where it leads, whatever the rooms
  pub met_at : (r : Rooms) (lr : ListedRooms r)
      → ((met r lr).u₂ ≡ u₂) × ((met r lr).c₂ ≡ c₂) × ((met r lr).hello ≡ hello) × ((met r lr).reply ≡ reply) × ((met r lr).flight ≡ flight)
  unfolding met
  met_at r lr = (refl, refl, refl, refl, refl)

pub in_order : InOrder
unfolding InOrder
in_order s r ls lr = met s ls r lr
