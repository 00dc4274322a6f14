-- Reports, in order: what one end sends the other hands out. The idea: the ends agree on the keys, each may talk, and all that either
-- has accepted is below the number that the other sends next; a report keeps that.
use mathlib.Core.Path.{◌≡◌, refl, sym, ◌∙◌, ap, ap₂, subst}
use mathlib.Core.Logic.{inr}
use mathlib.Core.Bool.{true, false}
use mathlib.Core.List.{List, [], ◌∷◌}
use Prim.Native.Nat.{ℕ, ◌+◌, ◌-◌, ◌≤◌, ◌<◌}
use native.Mathlib.Omega.{arith}
use lib.ListN.{length, take, drop}
use borrow.Author.Tests.{le-leb}
use Rattle.digest.specs.Pick.{pick}
use Rattle.digest.specs.Mac.{size_of}
use Rattle.record.specs.Keys.{secret_for}
use Rattle.record.specs.History.{highest_of, window_of, arrived_of}
use Rattle.record.specs.Protection.{record_under}
use Rattle.record.specs.Window.{Held, accept_of}
use Rattle.record.specs.Written.{byte_for}
use Rattle.record.specs.Datagram.{framed, framing_of}
use Rattle.record.specs.declared.header.Content.TheVariants as C
use Rattle.record.specs.declared.keys.Keys.{Keys}
use Rattle.record.specs.declared.keys.Sense.{Sense}
use Rattle.record.specs.declared.keys.Sense.TheVariants.{FromUnit, FromShore}
use Rattle.record.specs.declared.protection.Protection.{Protection}
use Rattle.record.specs.declared.reader.Record.{Record}
use Rattle.record.specs.declared.window.Window.{Window}
use Rattle.record.specs.declared.window.NotNew.TheVariants as A
use Rattle.record.proofs.Histories.{meaning, new_when, above}
use Rattle.record.proofs.RoundTrip.{read_back}
use Rattle.record.proofs.ProtectedBytes.{size_most}
use Rattle.record.proofs.Protecting.{record_under_length}
use Rattle.record.proofs.Protected.{CodedUnder, written_fragment, written_content}
use Rattle.connection.specs.Answer.{part_at}
use Rattle.connection.specs.Connection.{connection_of}
use Rattle.connection.specs.Handshake.{with_window}
use Rattle.connection.specs.Judge.{fragment_of}
use Rattle.connection.specs.Receive as Ashore
use Rattle.connection.specs.Send.{next_protected}
use Rattle.connection.specs.declared.answer.Answer.TheVariants as W
use Rattle.connection.specs.declared.connection.Connection.{Connection}
use Rattle.connection.specs.declared.handshake.Handshake.{Handshake}
use Rattle.connection.specs.declared.state.State.TheVariants as S
use Rattle.connection.specs.declared.receive.Received.{Received}
use Rattle.unit.specs.Receive as Aboard
use Rattle.unit.specs.declared.receive.Received.{Received as ReceivedAboard}
use Rattle.unit.specs.Unit as B
use Rattle.unit.specs.declared.answer.Answer.TheVariants as Y
use Rattle.unit.specs.declared.state.State.TheVariants as Z
use Rattle.unit.specs.declared.unit.Unit.{Unit as ShipsUnit}
use Rattle.demands.specs.Asked.{RightBeside, tells, asks_protected, left_open}
use Rattle.demands.specs.Calls.{Chain, chain_end, chain_more}
use Rattle.demands.specs.Genuine.{keys_of}
use Rattle.demands.specs.Table.{New, row_data}
use Rattle.demands.proofs.Wire.{protected_framed, protected_fragment}
use Rattle.ends.specs.Sides.{Ends, ends_of, handed_ashore, handed_aboard, Turn, from_unit, from_shore, sent_aboard, sent_ashore, turned, send_of, handed_in, report_in, ListedTurns, unit_turns, shore_turns, AllHanded}
use Rattle.ends.proofs.Aboard as Ship
use Rattle.ends.proofs.Aboard.{Talks, data_taken, chained_end, chained_more}
use Rattle.ends.proofs.Ashore as Shore
use Rattle.std.specs.Prelude.{Ok}

-- ---- a data record on the wire

module _ (k : Keys) (sense : Sense) (n : ℕ) (few : n ≤ 65535) (bytes : List ℕ) (some : 1 ≤ length bytes) (most : length bytes ≤ 1300) where
  abbrev pub reported : List ℕ
  reported = record_under k sense C.Data n bytes

  abbrev pub single : Record
  single = read_back false true C.Data n (length bytes + size_of k.mac)

  pub reported_framed : framing_of reported ≡ framed (single ∷ [])
  unfolding record_under
  reported_framed = protected_framed C.Data n few (secret_for k sense n) k.mac bytes (omega (arith, size_most k.mac))

  pub reported_coded : CodedUnder k sense n (byte_for false true C.Data) (fragment_of reported single) bytes
  unfolding record_under
  reported_coded = protected_fragment C.Data n few (secret_for k sense n) k.mac bytes

  -- the content, as a part of the datagram
  reported_front : take (length bytes) (drop 3 reported) ≡ bytes
  reported_front =
      let p : Protection = record { keys = k; window = record { width = 32; highest = 0; marks = 0 }; protected = n; clear = 0 } in
      ap (take (length bytes)) (written_fragment p p refl few sense C.Data bytes) ∙ written_content p p refl few sense C.Data bytes

  pub reported_part : part_at reported 3 (length bytes) ≡ bytes
  reported_part =
      let size = record_under_length k sense C.Data n bytes in
      ap₂ (λ x y. pick x (pick y (take (length bytes) (drop 3 reported)) []) [])
      (le-leb 3 (length reported) (omega (arith, size))) (le-leb (length bytes) (length reported - 3) (omega (arith, size)))
      ∙ reported_front

-- a number above all that were accepted is new
pub takes : (width : ℕ) → Held width → (h : List ℕ) (s : ℕ) → highest_of h < s
    → accept_of (window_of width h) s ≡ Ok (window_of width (s ∷ h), arrived_of width (s ∷ h))
takes width held h s l = meaning width held h s ∙ new_when width h s (omega (arith, held.0)) (above h s l)

highest_next : (s : ℕ) (h : List ℕ) → highest_of h < s → highest_of (s ∷ h) < s + 1
unfolding highest_of
highest_next s h l = omega arith

-- ---- both ends on one connection

pub record Together (unit_width shore_width : ℕ) (e : Ends) : Type 0 where
  pub talks : Talks e.unit.state
  pub is_open : e.shore.handshake.state ≡ S.Open
  pub same_keys : e.unit.protection.keys ≡ e.shore.handshake.protection.keys
  -- what the shore accepted, and what the unit did
  pub ashore : List ℕ
  pub ashore_is : e.shore.handshake.protection.window ≡ window_of shore_width ashore
  pub ashore_below : highest_of ashore < e.unit.protection.protected
  pub aboard : List ℕ
  pub aboard_is : e.unit.protection.window ≡ window_of unit_width aboard
  pub aboard_below : highest_of aboard < e.shore.handshake.protection.protected

-- what a turn gives
pub record Handed (unit_width shore_width : ℕ) (e : Ends) (t : Turn) : Type 0 where
  pub sent : send_of e t ≡ Ok tt
  pub handed : handed_in e t ≡ report_in t ∷ []
  pub together : Together unit_width shore_width (turned e t)
  pub keys_kept : (turned e t).unit.protection.keys ≡ e.unit.protection.keys
  pub unit_next : (turned e t).unit.protection.protected + unit_turns [] ≡ e.unit.protection.protected + unit_turns (t ∷ [])
  pub shore_next : (turned e t).shore.handshake.protection.protected + shore_turns [] ≡ e.shore.handshake.protection.protected + shore_turns (t ∷ [])

-- one answer of data hands out its part
one_ashore : (d : List ℕ) (n at size : ℕ) → handed_ashore d (Ashore.slots_of (W.Data n at size ∷ [])) ≡ part_at d at size ∷ []
unfolding handed_ashore Ashore.slots_of
one_ashore d n at size = refl

one_aboard : (d : List ℕ) (n at size : ℕ) → handed_aboard d (Aboard.slots_of (Y.Data n at size ∷ [])) ≡ part_at d at size ∷ []
unfolding handed_aboard Aboard.slots_of
one_aboard d n at size = refl

module _ (uw sw : ℕ) (held-unit : Held uw) (held-shore : Held sw) (e : Ends) (t : Together uw sw e) where
  abbrev u : ShipsUnit
  u = e.unit

  abbrev c : Connection
  c = e.shore

  abbrev h : Handshake
  h = c.handshake

  -- ---- from the unit

  module _ (bytes out random space : List ℕ) (some : 1 ≤ length bytes) (most : length bytes ≤ 1300) (room : 3 + length bytes + size_of u.protection.keys.mac ≤ length out)
      (lr : length random ≡ 16) (ls : 128 ≤ length space) (few : u.protection.protected ≤ 65535) where
    abbrev n : ℕ
    n = u.protection.protected

    abbrev d : List ℕ
    d = reported (keys_of h) FromUnit n few bytes some most

    abbrev r : Record
    r = single (keys_of h) FromUnit n few bytes some most

    abbrev w : Window
    w = window_of sw (n ∷ t.ashore)

    went : Ship.Sent u bytes out some most t.talks few room
    went = Ship.sends u bytes out some most t.talks few room

    datagram : sent_aboard u bytes out ≡ d
    datagram = went.datagram ∙ ap (λ k. record_under k FromUnit C.Data n bytes) t.same_keys

    new : New h d r bytes w
    new =
        record {
          guarded = record { protection = refl; kind = inr t.is_open };
          coded = record { is_protected = refl; is_coded = reported_coded (keys_of h) FromUnit n few bytes some most };
          arrived = arrived_of sw (n ∷ t.ashore);
          accepted = ap (λ x. accept_of x n) t.ashore_is ∙ takes sw held-shore t.ashore n t.ashore_below;
        }

    left : Connection
    left = connection_of (with_window h w) c.started c.sent

    not_handshake : RightBeside c d r → ⊥
    not_handshake q = let z : C.Data ≡ C.Handshake = q.handshake in let y : ◌≡◌ {A = ℕ} 0 1 = cc in omega arith

    chain : Chain random d c (r ∷ []) (W.Data n 3 (length bytes) ∷ []) left
    unfolding left
    chain =
        chain_more
        (tells (asks_protected t.is_open refl not_handshake)
        (row_data bytes w new refl some) (left_open t.is_open))
        chain_end

    came : Shore.Took c d random space (r ∷ []) (W.Data n 3 (length bytes) ∷ []) left lr ls (reported_framed (keys_of h) FromUnit n few bytes some most) chain
    came = Shore.took c d random space (r ∷ []) (W.Data n 3 (length bytes) ∷ []) left lr ls (reported_framed (keys_of h) FromUnit n few bytes some most) chain

    pub unit_turn : Handed uw sw e (from_unit bytes out random space)
    unfolding left unit_turns shore_turns
    unit_turn =
        let gives = ap (λ x. Ashore.received_of c x random (length space)) datagram ∙ came.gives in
        let answers_are = ap (λ (x : Received). x.answers) gives in
        let shore_is = ap (λ (x : Received). x.connection) gives in
        record {
          sent = went.done;
          handed =
              ap₂ handed_ashore datagram answers_are
              ∙ one_ashore d n 3 (length bytes)
              ∙ ap (λ x. x ∷ []) (reported_part (keys_of h) FromUnit n few bytes some most);
          together = subst (Together uw sw) (λ i. ends_of (sym went.leaves i) (sym shore_is i)) (record {
            talks = t.talks;
            is_open = t.is_open;
            same_keys = t.same_keys;
            ashore = n ∷ t.ashore;
            ashore_is = refl;
            ashore_below = highest_next n t.ashore t.ashore_below;
            aboard = t.aboard;
            aboard_is = t.aboard_is;
            aboard_below = t.aboard_below;
          });
          keys_kept = ap (λ (x : ShipsUnit). x.protection.keys) went.leaves;
          unit_next = omega (arith, ap (λ (x : ShipsUnit). x.protection.protected) went.leaves);
          shore_next = omega (arith, ap (λ (x : Connection). x.handshake.protection.protected) shore_is);
        }

  -- ---- from the shore

  module _ (bytes out space : List ℕ) (some : 1 ≤ length bytes) (most : length bytes ≤ 1300) (room : 3 + length bytes + size_of h.protection.keys.mac ≤ length out)
      (ls : 128 ≤ length space) (few : h.protection.protected ≤ 65535) where
    abbrev n₂ : ℕ
    n₂ = h.protection.protected

    abbrev d₂ : List ℕ
    d₂ = reported u.protection.keys FromShore n₂ few bytes some most

    abbrev r₂ : Record
    r₂ = single u.protection.keys FromShore n₂ few bytes some most

    abbrev w₂ : Window
    w₂ = window_of uw (n₂ ∷ t.aboard)

    sent₂ : Shore.Sent c bytes out (record { some = some; most = most }) t.is_open few room
    sent₂ = Shore.sends c bytes out (record { some = some; most = most }) t.is_open few room

    datagram₂ : sent_ashore c bytes out ≡ d₂
    unfolding next_protected
    datagram₂ = sent₂.datagram ∙ ap (λ k. record_under k FromShore C.Data n₂ bytes) (sym t.same_keys)

    left₂ : ShipsUnit
    left₂ = B.with_state (B.with_window u w₂) Z.Open

    chain₂ : Ship.Chained d₂ u (r₂ ∷ []) (Y.Data n₂ 3 (length bytes) ∷ []) left₂
    unfolding left₂
    chain₂ =
        chained_more
        (data_taken u d₂ r₂ t.talks refl refl bytes w₂ (arrived_of uw (n₂ ∷ t.aboard)) (reported_coded u.protection.keys FromShore n₂ few bytes some most)
        (ap (λ x. accept_of x n₂) t.aboard_is ∙ takes uw held-unit t.aboard n₂ t.aboard_below) some)
        chained_end

    came₂ : Ship.Took u d₂ space (r₂ ∷ []) (Y.Data n₂ 3 (length bytes) ∷ []) left₂ ls (reported_framed u.protection.keys FromShore n₂ few bytes some most) chain₂
    came₂ = Ship.took u d₂ space (r₂ ∷ []) (Y.Data n₂ 3 (length bytes) ∷ []) left₂ ls (reported_framed u.protection.keys FromShore n₂ few bytes some most) chain₂

    pub shore_turn : Handed uw sw e (from_shore bytes out space)
    unfolding left₂ unit_turns shore_turns
    shore_turn =
        let gives = ap (λ x. Aboard.received_of u x (length space)) datagram₂ ∙ came₂.gives in
        let answers_are = ap (λ (x : ReceivedAboard). x.answers) gives in
        let unit_is = ap (λ (x : ReceivedAboard). x.unit) gives in
        record {
          sent = sent₂.done;
          handed =
              ap₂ handed_aboard datagram₂ answers_are
              ∙ one_aboard d₂ n₂ 3 (length bytes)
              ∙ ap (λ x. x ∷ []) (reported_part u.protection.keys FromShore n₂ few bytes some most);
          together = subst (Together uw sw) (λ i. ends_of (sym unit_is i) (sym sent₂.leaves i)) (record {
            talks = inr refl;
            is_open = t.is_open;
            same_keys = t.same_keys;
            ashore = t.ashore;
            ashore_is = t.ashore_is;
            ashore_below = t.ashore_below;
            aboard = n₂ ∷ t.aboard;
            aboard_is = refl;
            aboard_below = highest_next n₂ t.aboard t.aboard_below;
          });
          keys_kept = ap (λ (x : ShipsUnit). x.protection.keys) unit_is;
          unit_next = omega (arith, ap (λ (x : ShipsUnit). x.protection.protected) unit_is);
          shore_next = omega (arith, ap (λ (x : Connection). x.handshake.protection.protected) sent₂.leaves);
        }

-- ---- all of them

module _ (uw sw : ℕ) (held-unit : Held uw) (held-shore : Held sw) where
  pub all_handed : (turns : List Turn) (e : Ends) → Together uw sw e → ListedTurns e.unit.protection.keys.mac turns
      → e.unit.protection.protected + unit_turns turns ≤ 65536 → e.shore.handshake.protection.protected + shore_turns turns ≤ 65536
      → AllHanded e turns
  unfolding unit_turns shore_turns
  all_handed [] e t l a b = tt
  all_handed (from_unit bytes out random space ∷ turns) e t (l, ls) a b =
      let q = unit_turn uw sw held-unit held-shore e t bytes out random space l.0 l.1 l.2 l.3 l.4 (omega arith) in (
        q.sent,
        q.handed,
        all_handed turns (turned e (from_unit bytes out random space)) q.together
            (subst (λ (k : Keys). ListedTurns k.mac turns) (sym q.keys_kept) ls) (omega (arith, q.unit_next)) (omega (arith, q.shore_next)),
      )
  all_handed (from_shore bytes out space ∷ turns) e t (l, ls) a b =
      let q = shore_turn uw sw held-unit held-shore e t bytes out space l.0 l.1
      (subst (λ (k : Keys). 3 + length bytes + size_of k.mac ≤ length out) t.same_keys l.2) l.3 (omega arith) in (
        q.sent,
        q.handed,
        all_handed turns (turned e (from_shore bytes out space)) q.together
            (subst (λ (k : Keys). ListedTurns k.mac turns) (sym q.keys_kept) ls) (omega (arith, q.unit_next)) (omega (arith, q.shore_next)),
      )
