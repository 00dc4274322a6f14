-- Data only after the shore's Finished. The idea: beside the state, a history says how far the handshake has come: a hello, a ServerHello
-- that answers it, a Finished that is right for both. Each row, and each call, carries this on.
use mathlib.Core.Path.{◌≡◌, refl, sym, ◌∙◌, ap, ap₂, subst}
use mathlib.Core.Logic.{◌⊎◌, inl, inr, ◌≢◌}
use mathlib.Core.Bool.{true, false}
use mathlib.Core.List.{List, [], ◌∷◌}
use Prim.Native.Nat.{ℕ, ◌+◌}
use native.Mathlib.Omega.{arith}
use lib.ListN.{length}
use lib.Dec.{eqb, ltb, leb}
use Rattle.digest.specs.Pick.{pick}
use Rattle.record.specs.Window.{emptied}
use Rattle.record.specs.declared.reader.Record.{Record}
use Rattle.record.specs.declared.window.Window.{Window}
use Rattle.message.specs.Agreement.{agreement_of}
use Rattle.message.specs.Finished.{server_verify, judged_of}
use Rattle.message.specs.Offer.{kinds_named, offer_hello}
use Rattle.message.specs.declared.acceptance.Plan.{Plan}
use Rattle.message.specs.declared.offer.Offer.{Offer}
use Rattle.connection.specs.Judge.{fragment_of}
use Rattle.connection.specs.declared.refusal.Refusal.TheVariants as X
use Rattle.unit.specs.Agree.{agreed_with, shore_verify}
use Rattle.unit.specs.Answer.{as_ashore}
use Rattle.unit.specs.Calls.{closed_in, started_in}
use Rattle.unit.specs.Hello.{hello_datagram, offer_of, greeted_with, hello_as, hello_sent, hello_output, again_sent, again_output}
use Rattle.unit.specs.Judge.{kind_in}
use Rattle.unit.specs.Protected.{flight_size}
use Rattle.unit.specs.Send.{data_sent, data_output, alert_sent, alert_output}
use Rattle.unit.specs.Unit.{with_state, with_window, opened}
use Rattle.unit.specs.declared.state.State.{State}
use Rattle.unit.specs.declared.state.State.TheVariants as S
use Rattle.unit.specs.declared.state.Kind.{Kind}
use Rattle.unit.specs.declared.state.Kind.TheVariants as K
use Rattle.unit.specs.declared.state.Rule.TheVariants as T
use Rattle.unit.specs.declared.answer.Answer.{Answer}
use Rattle.unit.specs.declared.answer.Answer.TheVariants as W
use Rattle.unit.specs.declared.agree.Judged.{Judged}
use Rattle.unit.specs.declared.unit.Unit.{Unit as Ship}
use Rattle.demands.specs.Past.{shuts}
use Rattle.demands.specs.Ship.Genuine.{Protected}
use Rattle.demands.specs.Ship.Table.{Midway, Up, New, Stays, Shuts, Marked, Row, forgotten}
use Rattle.demands.specs.Ship.Table.{at_end, not_allowed, not_first, forged, too_old, repeated, bad_hello, bad_request, bad_change, bad_alert, unacceptable, checksum, ignored_request, reported_request, warning}
use Rattle.demands.specs.Ship.Table.{critical, fatal, no_change, no_alert, no_message, no_data, some_data, protected_warning, repeated_finished, protected_critical, protected_ignored, protected_reported, finished_again, wrong_finished}
use Rattle.demands.specs.Ship.Table.{row_stays, row_shuts, row_hello, row_change, row_marked, row_opens, row_bars}
use Rattle.demands.specs.Ship.Changes.{Alike}
use Rattle.demands.specs.Ship.Events.{Event, took, greeting, repeating, sending, alerting, closing, starting, next, after, Happened, answered, greeted, said_again, wrote, closed, started, refused, if_done, written_by, happening, history}
use Rattle.demands.specs.Ship.Runs.{fresh_ship}
use Rattle.demands.specs.Ship.Past.{is_hello, offer_named, said, last_hello, read, read_as, last_read, keys_for}
use Rattle.demands.specs.Ship.Finished.{Quiet, Verified, OnlyAfterFinished}
use Rattle.demands.proofs.Exactly.Reasons.{decide}
use Rattle.demands.proofs.Ship.Table.{Guards, data-up, ruled-says, row_of}
use Rattle.demands.proofs.Ship.Changes.{alike, data-alike, alert-alike, again_same}
use Rattle.demands.proofs.Ship.HandedOut.{up-not-midway, up-not-over, guards-not-over, kind-content, data_facts}
use Rattle.std.specs.Prelude.{Err, None, Ok, Option, Result, Some, ⊤}
use Rattle.connection.specs.declared.refusal.Refusal.{Refusal}
use Rattle.message.specs.declared.offer.Kinds.{Kinds}

-- ---- how far the handshake has come

abbrev Reading : State → Type 0
Reading s = (s ≡ S.Replied) ⊎ (s ≡ S.Spec)

record Greeted (past : List Happened) (u : Ship) : Type 0 where
  random : List ℕ
  offer : Offer
  last : last_hello past ≡ said random offer
  client_is : u.protection.keys.client ≡ random
  offer-is : u.offer ≡ offer

record HasRead (id secret : List ℕ) (past : List Happened) (u : Ship) : Type 0 where
  random : List ℕ
  offer : Offer
  m : List ℕ
  plan : Plan
  last : last_read past ≡ read random offer m
  agreed : agreement_of m id offer ≡ Ok plan
  keys_are : u.protection.keys ≡ keys_for secret random m plan
  expected_is : u.expected ≡ server_verify secret (offer_hello random id offer) m

record Progress (id secret : List ℕ) (past : List Happened) (u : Ship) : Type 0 where
  own : u.state ≢ S.Barred → (u.id ≡ id) × (u.protection.keys.secret ≡ secret)
  greeted-so : Midway u.state → Greeted past u
  read-so : Reading u.state → HasRead id secret past u
  up-so : Up u.state → Verified id secret past

-- what an event that is no hello, no ServerHello and no opening leaves, as far as this goes
record Carries (u x : Ship) : Type 0 where
  barred-from : x.state ≢ S.Barred → u.state ≢ S.Barred
  midway-from : Midway x.state → Midway u.state
  reading-from : Reading x.state → Reading u.state
  up_from : Up x.state → Up u.state
  id_same : x.state ≢ S.Barred → x.id ≡ u.id
  keys_same : x.state ≢ S.Barred → x.protection.keys ≡ u.protection.keys
  offer_same : Midway x.state → x.offer ≡ u.offer
  expected_same : Reading x.state → x.expected ≡ u.expected

midway-live : (s : State) → Midway s → s ≢ S.Barred
midway-live s (inl e) f = let y = sym e ∙ f in let z : ◌≡◌ {A = ℕ} 0 1 = cc in omega arith
midway-live s (inr (inl e)) f = let y = sym e ∙ f in let z : ◌≡◌ {A = ℕ} 0 1 = cc in omega arith
midway-live s (inr (inr e)) f = let y = sym e ∙ f in let z : ◌≡◌ {A = ℕ} 0 1 = cc in omega arith

reading-live : (s : State) → Reading s → s ≢ S.Barred
reading-live s (inl e) = midway-live s (inr (inl e))
reading-live s (inr e) = midway-live s (inr (inr e))

up-not-reading : {P : Type 0} (s : State) → Up s → Reading s → P
up-not-reading s o (inl e) = up-not-midway s o (inr (inl e))
up-not-reading s o (inr e) = up-not-midway s o (inr (inr e))

module _ (id secret : List ℕ) (past : List Happened) (u : Ship) (p : Progress id secret past u) where
  -- the history goes on quietly, and the unit with it
  carry : (what : Happened) (x : Ship) → last_hello (what ∷ past) ≡ last_hello past → last_read (what ∷ past) ≡ last_read past
      → (Up x.state → Quiet (what ∷ [])) → Carries u x → Progress id secret (what ∷ past) x
  carry what x eh er q s =
      record {
        own = λ n. let o = p.own (s.barred-from n) in
            (s.id_same n ∙ o.0, ap (λ k. k.secret) (s.keys_same n) ∙ o.1);
        greeted-so = λ m.
            let g = p.greeted-so (s.midway-from m) in
            record {
              random = g.random;
              offer = g.offer;
              last = eh ∙ g.last;
              client_is = ap (λ k. k.client) (s.keys_same (midway-live x.state m)) ∙ g.client_is;
              offer-is = s.offer_same m ∙ g.offer-is;
            };
        read-so = λ m.
            let g = p.read-so (s.reading-from m) in
            record {
              random = g.random;
              offer = g.offer;
              m = g.m;
              plan = g.plan;
              last = er ∙ g.last;
              agreed = g.agreed;
              keys_are = s.keys_same (reading-live x.state m) ∙ g.keys_are;
              expected_is = s.expected_same m ∙ g.expected_is;
            };
        up-so = λ o.
            let v = p.up-so (s.up_from o) in
            record {
              between = what ∷ v.between;
              d = v.d;
              r = v.r;
              size = v.size;
              before = v.before;
              split = ap (λ l. what ∷ l) v.split;
              quiet = quiet-more what (q o) v.between v.quiet;
              random = v.random;
              offer = v.offer;
              m = v.m;
              replied = v.replied;
              plan = v.plan;
              agreed = v.agreed;
              handshake = v.handshake;
              c = v.c;
              coded = v.coded;
              finished = v.finished;
            };
      }
    where
      quiet-more : (what : Happened) → Quiet (what ∷ []) → (l : List Happened) → Quiet l → Quiet (what ∷ l)
      quiet-more (answered d r a) (a1, a2, a3) l b = (a1, a2, b)
      quiet-more (greeted random macs refresh bytes) a l b = a
      quiet-more (said_again bytes) a l b = b
      quiet-more (wrote protected bytes) a l b = b
      quiet-more closed a l b = a
      quiet-more started a l b = a
      quiet-more refused a l b = b

  carried : Carries u u
  carried =
      record {
        barred-from = λ n. n;
        midway-from = λ m. m;
        reading-from = λ m. m;
        up_from = λ o. o;
        id_same = λ n. refl;
        keys_same = λ n. refl;
        offer_same = λ m. refl;
        expected_same = λ m. refl;
      }

  alike-carries : (x : Ship) → Alike u x → Carries u x
  alike-carries x a =
      record {
        barred-from = λ n e. n (a.state_same ∙ e);
        midway-from = λ m. subst Midway a.state_same m;
        reading-from = λ m. subst Reading a.state_same m;
        up_from = λ o. subst Up a.state_same o;
        id_same = λ n. a.id_same;
        keys_same = λ n. a.keys_same;
        offer_same = λ m. a.offer_same;
        expected_same = λ m. a.expected_same;
      }

  -- a unit in none of these states
  rest-carries : (x : Ship) → u.state ≢ S.Barred → (Midway x.state → ⊥) → (Up x.state → ⊥) → x.id ≡ u.id
      → x.protection.keys ≡ u.protection.keys → Carries u x
  rest-carries x n m o ei ek =
      record {
        barred-from = λ _. n;
        midway-from = λ y. absurd (m y);
        reading-from = λ y. absurd (m (reading-midway x.state y));
        up_from = λ y. absurd (o y);
        id_same = λ _. ei;
        keys_same = λ _. ek;
        offer_same = λ y. absurd (m y);
        expected_same = λ y. absurd (m (reading-midway x.state y));
      }
    where
      reading-midway : (s : State) → Reading s → Midway s
      reading-midway s (inl e) = inr (inl e)
      reading-midway s (inr e) = inr (inr e)

closed-not-midway : Midway S.Closed → ⊥
closed-not-midway (inl e) = let z : ◌≡◌ {A = ℕ} 0 1 = cc in omega arith
closed-not-midway (inr (inl e)) = let z : ◌≡◌ {A = ℕ} 0 1 = cc in omega arith
closed-not-midway (inr (inr e)) = let z : ◌≡◌ {A = ℕ} 0 1 = cc in omega arith

closed-not-up : Up S.Closed → ⊥
closed-not-up (inl e) = let z : ◌≡◌ {A = ℕ} 0 1 = cc in omega arith
closed-not-up (inr e) = let z : ◌≡◌ {A = ℕ} 0 1 = cc in omega arith

idle-not-midway : Midway S.Idle → ⊥
idle-not-midway (inl e) = let z : ◌≡◌ {A = ℕ} 0 1 = cc in omega arith
idle-not-midway (inr (inl e)) = let z : ◌≡◌ {A = ℕ} 0 1 = cc in omega arith
idle-not-midway (inr (inr e)) = let z : ◌≡◌ {A = ℕ} 0 1 = cc in omega arith

idle-not-reading : {P : Type 0} → Reading S.Idle → P
idle-not-reading (inl e) = let z : ◌≡◌ {A = ℕ} 0 1 = cc in absurd (omega arith)
idle-not-reading (inr e) = let z : ◌≡◌ {A = ℕ} 0 1 = cc in absurd (omega arith)

idle-not-up : Up S.Idle → ⊥
idle-not-up (inl e) = let z : ◌≡◌ {A = ℕ} 0 1 = cc in omega arith
idle-not-up (inr e) = let z : ◌≡◌ {A = ℕ} 0 1 = cc in omega arith

guards-live : (s : State) (k : Kind) → Guards s k → s ≢ S.Barred
guards-live s k g e = guards-not-over s k (inr e) g

module _ (id secret : List ℕ) (past : List Happened) (u : Ship) (p : Progress id secret past u) (d : List ℕ) (r : Record) where
  stays-quiet : {a : Answer} → Stays u d r a → (is_hello a ≡ false) × (shuts (as_ashore a) ≡ false)
  stays-quiet (at_end e) = (refl, refl)
  stays-quiet (not_allowed e) = (refl, refl)
  stays-quiet (not_first e z) = (refl, refl)
  stays-quiet (forged e never) = (refl, refl)
  stays-quiet (too_old c e s q) = (refl, refl)
  stays-quiet (repeated c e s q) = (refl, refl)
  stays-quiet (bad_hello e z q) = (refl, refl)
  stays-quiet (bad_request e q) = (refl, refl)
  stays-quiet (bad_change e q) = (refl, refl)
  stays-quiet (bad_alert e q) = (refl, refl)
  stays-quiet (unacceptable term e z q) = (refl, refl)
  stays-quiet (checksum a e q m) = (refl, refl)
  stays-quiet (ignored_request e q m) = (refl, refl)
  stays-quiet (reported_request e q m) = (refl, refl)
  stays-quiet (warning a e q m l) = (refl, refl)

  -- an answer to a record that is no ServerHello
  carry-answer : (a : Answer) (x : Ship) → is_hello a ≡ false → (Up x.state → shuts (as_ashore a) ≡ false) → Carries u x
      → Progress id secret (answered d r a ∷ past) x
  unfolding last_hello last_read
  carry-answer a x h s c =
      carry id secret past u p (answered d r a) x refl
      (ap (λ b. pick b (read_as (last_hello past) (fragment_of d r)) (last_read past)) h) (λ o. (h, s o, tt)) c

  shut-answer : (a : Answer) → is_hello a ≡ false → u.state ≢ S.Barred → Progress id secret (answered d r a ∷ past) (with_state u S.Closed)
  shut-answer a h n =
      carry-answer a (with_state u S.Closed) h (λ o. absurd (closed-not-up o))
      (rest-carries id secret past u p (with_state u S.Closed) n closed-not-midway closed-not-up refl refl)

  shuts-row : {a : Answer} → Shuts u d r a → Progress id secret (answered d r a ∷ past) (with_state u S.Closed)
  shuts-row (critical a e q m l) = shut-answer (W.Critical a.description) refl (midway-live u.state (ruled-says u d r T.Hear e).0)
  shuts-row (fatal a e q m l) = shut-answer (W.Fatal a.description) refl (midway-live u.state (ruled-says u d r T.Hear e).0)

  module _ (c : List ℕ) (w : Window) (n : New u d r c w) where
    live : u.state ≢ S.Barred
    live = guards-live u.state (kind_in d r) (ruled-says u d r T.Unprotect n.ruled)

    abbrev left : State → Ship
    left s = with_state (with_window u w) s

    stay-marked : (a : Answer) → is_hello a ≡ false → shuts (as_ashore a) ≡ false → Progress id secret (answered d r a ∷ past) (left u.state)
    stay-marked a h s =
        carry-answer a (left u.state) h (λ o. s)
        (record {
          barred-from = λ y. y;
          midway-from = λ y. y;
          reading-from = λ y. y;
          up_from = λ y. y;
          id_same = λ y. refl;
          keys_same = λ y. refl;
          offer_same = λ y. refl;
          expected_same = λ y. refl;
        })

    settle-marked : (a : Answer) → is_hello a ≡ false → shuts (as_ashore a) ≡ false → Up u.state
        → Progress id secret (answered d r a ∷ past) (left S.Open)
    settle-marked a h s o =
        carry-answer a (left S.Open) h (λ y. s)
        (record {
          barred-from = λ y. live;
          midway-from = λ y. up-not-midway S.Open (inr refl) y;
          reading-from = λ y. up-not-reading S.Open (inr refl) y;
          up_from = λ y. o;
          id_same = λ y. refl;
          keys_same = λ y. refl;
          offer_same = λ y. refl;
          expected_same = λ y. refl;
        })

    close-marked : (a : Answer) → is_hello a ≡ false → Progress id secret (answered d r a ∷ past) (left S.Closed)
    close-marked a h =
        carry-answer a (left S.Closed) h (λ o. absurd (closed-not-up o))
        (rest-carries id secret past u p (left S.Closed) live closed-not-midway closed-not-up refl refl)

    marked_row : {a : Answer} {s : State} → Marked u d r c a s → Progress id secret (answered d r a ∷ past) (left s)
    marked_row (no_change k) = stay-marked (W.Refused X.Malformed) refl refl
    marked_row (no_alert k q) = stay-marked (W.Refused X.Malformed) refl refl
    marked_row (no_message k q v) = stay-marked (W.Refused X.Malformed) refl refl
    marked_row (no_data k z) = stay-marked (W.Refused X.Malformed) refl refl
    marked_row (some_data k z) =
        settle-marked (W.Data r.number (r.start + r.head) (length c)) refl refl
        (data-up u.state (kind_in d r) k (ruled-says u d r T.Unprotect n.ruled))
    marked_row (protected_warning a k q l z) = stay-marked (W.Warning a.description) refl refl
    marked_row (repeated_finished a k q l z o) = settle-marked (W.Warning a.description) refl refl o
    marked_row (protected_critical a k q l) = close-marked (W.Critical a.description) refl
    marked_row (protected_ignored k q o) = stay-marked W.Ignored refl refl
    marked_row (protected_reported k q o) = stay-marked W.Request refl refl
    marked_row (finished_again k q v o) = stay-marked W.Again refl refl
    marked_row (wrong_finished k q v) = close-marked (W.Refused X.WrongFinished) refl

    opens_row : u.state ≡ S.Spec → kind_in d r ≡ K.ProtectedHandshake → judged_of c u.expected ≡ Ok tt → (size : ℕ)
        → Progress id secret (answered d r (W.Open size) ∷ past) (opened (with_window u w))
    unfolding opened
    opens_row s k v size =
        let g = p.read-so (inr s) in
        record {
          own = λ y. p.own live;
          greeted-so = λ y. up-not-midway S.Opening (inl refl) y;
          read-so = λ y. up-not-reading S.Opening (inl refl) y;
          up-so = λ y. record {
            between = [];
            d = d;
            r = r;
            size = size;
            before = past;
            split = refl;
            quiet = tt;
            random = g.random;
            offer = g.offer;
            m = g.m;
            replied = g.last;
            plan = g.plan;
            agreed = g.agreed;
            handshake = kind-content d r K.ProtectedHandshake n.coded.is_protected k;
            c = c;
            coded = subst (λ x. Protected x d r c) g.keys_are n.coded;
            finished = sym (ap (judged_of c) g.expected_is) ∙ v;
          };
        }

  hello-row : (plan : Plan) → Midway u.state → agreement_of (fragment_of d r) u.id u.offer ≡ Ok plan
      → Progress id secret (answered d r W.Hello ∷ past) (agreed_with u (fragment_of d r) plan)
  unfolding agreed_with shore_verify last_hello last_read
  hello-row plan m q =
      let o = p.own (midway-live u.state m) in
      let g = p.greeted-so m in
      let frag = fragment_of d r in
      record {
        own = λ y. o;
        greeted-so = λ y. record { random = g.random; offer = g.offer; last = g.last; client_is = g.client_is; offer-is = g.offer-is };
        read-so = λ y. record {
          random = g.random;
          offer = g.offer;
          m = frag;
          plan = plan;
          last = ap (λ x. read_as x frag) g.last;
          agreed = sym (ap₂ (λ x z. agreement_of frag x z) o.0 g.offer-is) ∙ q;
          keys_are = ap₂ (λ x z. keys_for x z frag plan) o.1 g.client_is;
          expected_is = λ i. server_verify (o.1 i) (offer_hello (g.client_is i) (o.0 i) (g.offer-is i)) frag;
        };
        up-so = λ y. up-not-midway S.Replied y (inr (inl refl));
      }

  change_row : (w : Window) → u.state ≡ S.Replied → Progress id secret (answered d r W.Spec ∷ past) (with_state (with_window u w) S.Spec)
  change_row w e =
      carry-answer W.Spec (with_state (with_window u w) S.Spec) refl (λ o. refl)
      (record {
        barred-from = λ y. midway-live u.state (inr (inl e));
        midway-from = λ y. inr (inl e);
        reading-from = λ y. inl e;
        up_from = λ y. up-not-midway S.Spec y (inr (inr refl));
        id_same = λ y. refl;
        keys_same = λ y. refl;
        offer_same = λ y. refl;
        expected_same = λ y. refl;
      })

  bars-row : (a : Answer) (x : Ship) → x.state ≡ S.Barred → Progress id secret (answered d r a ∷ past) x
  bars-row a x e =
      record {
        own = λ y. absurd (y e);
        greeted-so = λ y. absurd (midway-live x.state y e);
        read-so = λ y. absurd (reading-live x.state y e);
        up-so = λ y. up-not-over x.state y (inr e);
      }

  row-progress : {j : Judged} → Row u d r j → Progress id secret (answered d r j.answer ∷ past) j.unit
  row-progress (row_stays {a = a} s) = carry-answer a u (stays-quiet s).0 (λ o. (stays-quiet s).1) (carried id secret past u p)
  row-progress (row_shuts s) = shuts-row s
  row-progress (row_hello plan e z q) = hello-row plan (ruled-says u d r T.Agree e).0 q
  row-progress (row_change e q) = change_row (emptied u.protection.window) (ruled-says u d r T.Change e).0
  row-progress (row_marked c w n m) = marked_row c w n m
  row-progress (row_opens c w n s k q v) = opens_row c w n s k v (flight_size u.protection.keys.mac)
  row-progress (row_bars c w a n k q l) = bars-row (W.Barred a.description) (forgotten (with_window u w)) refl

-- ---- the calls

record Says (u x : Ship) (random macs : List ℕ) (refresh : ℕ) : Type 0 where
  state_is : x.state ≡ S.Sent
  id_same : x.id ≡ u.id
  secret-same : x.protection.keys.secret ≡ u.protection.keys.secret
  client_is : x.protection.keys.client ≡ random
  offer-is : x.offer ≡ offer_named (kinds_named macs) refresh
  idle : u.state ≡ S.Idle

abbrev HelloLeaves : Ship → List ℕ → List ℕ → ℕ → Result ⊤ Refusal → Ship → Type 0
HelloLeaves u random macs refresh (Ok tt) x = Says u x random macs refresh
HelloLeaves u random macs refresh (Err y) x = x ≡ u

module _ (u : Ship) (random macs : List ℕ) (refresh room : ℕ) where
  named-leaves : (n : Option Kinds) → kinds_named macs ≡ n → (s : State) → u.state ≡ s
      → HelloLeaves u random macs refresh (hello_as u random refresh room n).outcome (hello_as u random refresh room n).unit
  unfolding greeted_with
  named-leaves (Some kinds) e S.Idle f =
      decide (leb (length (hello_datagram u.id random (offer_of kinds refresh))) room)
      (λ b. rw (f, b) (record {
        state_is = refl;
        id_same = refl;
        secret-same = refl;
        client_is = refl;
        offer-is = ap (λ n. offer_named n refresh) (sym e);
        idle = refl;
      }))
      (λ b. rw (f, b) refl)
  named-leaves (Some kinds) e S.Sent f = rw f refl
  named-leaves (Some kinds) e S.Replied f = rw f refl
  named-leaves (Some kinds) e S.Spec f = rw f refl
  named-leaves (Some kinds) e S.Opening f = rw f refl
  named-leaves (Some kinds) e S.Open f = rw f refl
  named-leaves (Some kinds) e S.Closed f = rw f refl
  named-leaves (Some kinds) e S.Barred f = rw f refl
  named-leaves None e s f = refl

  hello-leaves : HelloLeaves u random macs refresh (hello_sent u random macs refresh room).outcome (hello_sent u random macs refresh room).unit
  unfolding hello_sent
  hello-leaves =
      decide (eqb (length random) 16)
      (λ a. decide (ltb 255 refresh) (λ b. rw (a, b) refl) (λ b. rw (a, b) (named-leaves (kinds_named macs) refl u.state refl)))
      (λ a. rw a refl)

module _ (id secret : List ℕ) (past : List Happened) (u : Ship) (p : Progress id secret past u) where
  -- a refused call, and one that says something again
  same-progress : (what : Happened) (x : Ship) → last_hello (what ∷ past) ≡ last_hello past → last_read (what ∷ past) ≡ last_read past → Quiet (what ∷ [])
      → x ≡ u → Progress id secret (what ∷ past) x
  same-progress what x eh er q e =
      subst (Progress id secret (what ∷ past)) (sym e) (carry id secret past u p what u eh er (λ o. q) (carried id secret past u p))

  done-progress : (o : Result ⊤ Refusal) (what : Happened) (x : Ship) → last_hello (what ∷ past) ≡ last_hello past → last_read (what ∷ past) ≡ last_read past
      → Quiet (what ∷ []) → Alike u x → Progress id secret (if_done o what ∷ past) x
  unfolding last_hello last_read
  done-progress (Ok tt) what x eh er q a = carry id secret past u p what x eh er (λ o. q) (alike-carries id secret past u p x a)
  done-progress (Err y) what x eh er q a = carry id secret past u p refused x refl refl (λ o. tt) (alike-carries id secret past u p x a)

  greet-progress : (random macs : List ℕ) (refresh : ℕ) (bytes : List ℕ) (o : Result ⊤ Refusal) (x : Ship) → HelloLeaves u random macs refresh o x
      → Progress id secret (if_done o (greeted random macs refresh bytes) ∷ past) x
  unfolding last_hello last_read
  greet-progress random macs refresh bytes (Err y) x e = same-progress refused x refl refl tt e
  greet-progress random macs refresh bytes (Ok tt) x s =
      let w = p.own (λ b. let y = sym s.idle ∙ b in let z : ◌≡◌ {A = ℕ} 0 1 = cc in omega arith) in
      record {
        own = λ y. (s.id_same ∙ w.0, s.secret-same ∙ w.1);
        greeted-so = λ y. record {
          random = random;
          offer = offer_named (kinds_named macs) refresh;
          last = refl;
          client_is = s.client_is;
          offer-is = s.offer-is;
        };
        read-so = λ y. not-reading x.state s.state_is y;
        up-so = λ y. up-not-midway x.state y (inl s.state_is);
      }
    where
      not-reading : {P : Type 0} (s : State) → s ≡ S.Sent → Reading s → P
      not-reading s e (inl f) = let y = sym e ∙ f in let z : ◌≡◌ {A = ℕ} 0 1 = cc in absurd (omega arith)
      not-reading s e (inr f) = let y = sym e ∙ f in let z : ◌≡◌ {A = ℕ} 0 1 = cc in absurd (omega arith)

  shut : (s : State) → u.state ≡ s → s ≢ S.Barred → Progress id secret (closed ∷ past) (with_state u S.Closed)
  unfolding last_hello last_read
  shut s e n =
      carry id secret past u p closed (with_state u S.Closed) refl refl (λ o. absurd (closed-not-up o))
      (rest-carries id secret past u p (with_state u S.Closed) (λ b. n (sym e ∙ b)) closed-not-midway closed-not-up refl refl)

  close-progress : (s : State) → u.state ≡ s → Progress id secret (if_done (closed_in u s).outcome closed ∷ past) (closed_in u s).unit
  unfolding last_hello last_read
  close-progress S.Barred e = same-progress refused u refl refl tt refl
  close-progress S.Idle e = shut S.Idle e (λ y. let z : ◌≡◌ {A = ℕ} 0 1 = cc in omega arith)
  close-progress S.Sent e = shut S.Sent e (λ y. let z : ◌≡◌ {A = ℕ} 0 1 = cc in omega arith)
  close-progress S.Replied e = shut S.Replied e (λ y. let z : ◌≡◌ {A = ℕ} 0 1 = cc in omega arith)
  close-progress S.Spec e = shut S.Spec e (λ y. let z : ◌≡◌ {A = ℕ} 0 1 = cc in omega arith)
  close-progress S.Opening e = shut S.Opening e (λ y. let z : ◌≡◌ {A = ℕ} 0 1 = cc in omega arith)
  close-progress S.Open e = shut S.Open e (λ y. let z : ◌≡◌ {A = ℕ} 0 1 = cc in omega arith)
  close-progress S.Closed e = shut S.Closed e (λ y. let z : ◌≡◌ {A = ℕ} 0 1 = cc in omega arith)

  start-progress : (s : State) → u.state ≡ s → Progress id secret (if_done (started_in u s).outcome started ∷ past) (started_in u s).unit
  unfolding last_hello last_read
  start-progress S.Idle e = same-progress refused u refl refl tt refl
  start-progress S.Sent e = same-progress refused u refl refl tt refl
  start-progress S.Replied e = same-progress refused u refl refl tt refl
  start-progress S.Spec e = same-progress refused u refl refl tt refl
  start-progress S.Opening e = same-progress refused u refl refl tt refl
  start-progress S.Open e = same-progress refused u refl refl tt refl
  start-progress S.Closed e =
      record {
        own = λ n. p.own (λ b. let y = sym e ∙ b in let z : ◌≡◌ {A = ℕ} 0 1 = cc in omega arith);
        greeted-so = λ m. absurd (idle-not-midway m);
        read-so = λ m. idle-not-reading m;
        up-so = λ o. absurd (idle-not-up o);
      }
  start-progress S.Barred e = same-progress refused u refl refl tt refl

  event-progress : (e : Event) → Progress id secret (happening u e ∷ past) (next u e)
  unfolding last_hello last_read
  event-progress (took d r) = row-progress id secret past u p d r (row_of u d r)
  event-progress (greeting random macs refresh out) =
      let s = hello_sent u random macs refresh (length out) in
      greet-progress random macs refresh (written_by s (hello_output u random macs refresh out)) s.outcome s.unit
      (hello-leaves u random macs refresh (length out))
  event-progress (repeating out) =
      let s = again_sent u (length out) in
      subst (λ x. Progress id secret (happening u (repeating out) ∷ past) x) (sym (again_same u (length out)))
      (done-progress s.outcome (said_again (written_by s (again_output u out))) u refl refl tt (alike u))
  event-progress (sending bytes out) =
      let s = data_sent u bytes (length out) in
      done-progress s.outcome (wrote true (written_by s (data_output u bytes out))) s.unit refl refl tt (data-alike u bytes (length out))
  event-progress (alerting protected level description lent out) =
      let s = alert_sent u protected level description lent (length out) in
      done-progress s.outcome (wrote protected (written_by s (alert_output u protected level description lent out))) s.unit refl refl tt
      (alert-alike u protected level description lent (length out))
  event-progress closing = close-progress u.state refl
  event-progress starting = start-progress u.state refl

progress_all : (id secret : List ℕ) (es : List Event) (past : List Happened) (u : Ship) → Progress id secret past u
    → Progress id secret (history u es past) (after u es)
unfolding history after
progress_all id secret [] past u p = p
progress_all id secret (e ∷ es) past u p = progress_all id secret es (happening u e ∷ past) (next u e) (event-progress id secret past u p e)

progress_fresh : (id secret : List ℕ) (width : ℕ) → Progress id secret [] (fresh_ship id secret width)
progress_fresh id secret width =
    record {
      own = λ n. (refl, refl);
      greeted-so = λ m. absurd (idle-not-midway m);
      read-so = λ m. idle-not-reading m;
      up-so = λ o. absurd (idle-not-up o);
    }

pub only_after_finished : OnlyAfterFinished
unfolding OnlyAfterFinished
only_after_finished id secret width es d r z =
    let u = after (fresh_ship id secret width) es in
    let f = data_facts u d r (row_of u d r) z in
    (progress_all id secret es [] (fresh_ship id secret width) (progress_fresh id secret width)).up-so
    (data-up u.state (kind_in d r) f.kind (ruled-says u d r T.Unprotect f.new.ruled))
