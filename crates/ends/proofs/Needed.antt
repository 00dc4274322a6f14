-- Three premises are needed: behind the handshake, what a datagram that they exclude does to the shore.
use mathlib.Core.Path.{◌≡◌, refl, sym, ◌∙◌, ap, subst}
use mathlib.Core.Logic.{inl, inr}
use mathlib.Core.List.{List, [], ◌∷◌, ◌++◌}
use Prim.Native.Nat.{ℕ, ◌+◌, ◌≤◌, ◌<◌}
use native.Mathlib.Omega.{arith}
use lib.ListN.{length}
use Rattle.digest.specs.Mac.{size_of}
use Rattle.record.specs.Datagram.{framed, framing_of}
use Rattle.record.specs.History.{highest_of, window_of, arrived_of}
use Rattle.record.specs.Protection.{record_under}
use Rattle.record.specs.Window.{Held, accept_of}
use Rattle.record.specs.declared.header.Content.{Content}
use Rattle.record.specs.declared.header.Content.TheVariants as C
use Rattle.record.specs.declared.keys.Keys.{Keys}
use Rattle.record.specs.declared.keys.Sense.TheVariants.{FromUnit, FromShore}
use Rattle.record.specs.declared.reader.Record.{Record}
use Rattle.record.specs.declared.window.Window.{Window}
use Rattle.record.proofs.Histories.{meaning, old_when}
use Rattle.message.specs.Alert.{alert_bytes}
use Rattle.message.specs.declared.alert.Description.TheVariants as D
use Rattle.message.specs.declared.alert.Level.TheVariants as L
use Rattle.message.proofs.AlertLaws.{alert_back}
use Rattle.connection.specs.Answer.{part_at}
use Rattle.connection.specs.Connection.{connection_of}
use Rattle.connection.specs.Handshake.{with_state, with_window, none_started}
use Rattle.connection.specs.Receive as Ashore
use Rattle.connection.specs.declared.answer.Answer.TheVariants as W
use Rattle.connection.specs.declared.connection.Connection.{Connection}
use Rattle.connection.specs.declared.receive.Received.{Received}
use Rattle.connection.specs.declared.receive.Untaken.TheVariants as T
use Rattle.connection.specs.declared.refusal.Refusal.TheVariants as X
use Rattle.connection.specs.declared.state.State.TheVariants as S
use Rattle.demands.specs.Asked.{RightBeside, tells, asks_protected, left_open, left_ended}
use Rattle.demands.specs.Calls.{Chain, chain_end, chain_more}
use Rattle.demands.specs.Genuine.{Protected, keys_of}
use Rattle.unit.specs.declared.unit.Unit.{Unit as ShipsUnit}
use Rattle.demands.specs.Acts.{acts_in, records_in}
use Rattle.demands.specs.LeftOut.{Unreplaced}
use Rattle.demands.specs.Runs as Shore
use Rattle.demands.specs.Ship.Runs as ShipRuns
use Rattle.demands.specs.Table.{New, row_data, row_critical, row_old}
use Rattle.ends.specs.Sides.{ends_of}
use Rattle.ends.specs.InOrder.{Setting, ListedSetting, Rooms, ListedRooms, Met}
use Rattle.ends.specs.Link.{aboard, done_by, Report, handed, sends, takes, out_ashore, if_done, trace_of, Linked, AllSentAs, Within}
use Rattle.ends.specs.BothEnds.{Premises, StayOpen}
use Rattle.ends.specs.Needed.{comes, unit_data, critical_alert, ListedData, ListedRoom, report_datagram, brought_twice, Needed, ThreeNeeded}
use Rattle.ends.proofs.Aboard as Ship
use Rattle.ends.proofs.Ashore as Laws
use Rattle.ends.proofs.AtShore.{acts_are}
use Rattle.ends.proofs.InOrder as P
use Rattle.ends.proofs.JustOpen as J
use Rattle.ends.proofs.OneMeeting.{same_hello, same_reply, same_flight, same_unit, same_shore}
use Rattle.ends.proofs.OnWire.{lone, wired_framed, wired_genuine}
use Rattle.ends.proofs.Reports.{takes as takes-above, reported_part}
use Rattle.std.specs.Prelude.{Ok}

-- ---- an open shore and one protected record of the unit

one_data : (d : List ℕ) (n at size : ℕ) → out_ashore d (Ashore.slots_of (W.Data n at size ∷ [])) ≡ handed n (part_at d at size) ∷ []
unfolding out_ashore Ashore.slots_of
one_data d n at size = refl

one_refused : (d : List ℕ) → out_ashore d (Ashore.slots_of (W.Refused X.TooOld ∷ [])) ≡ []
unfolding out_ashore Ashore.slots_of
one_refused d = refl

module _ (k : Keys) (c : Connection) (is_open : c.handshake.state ≡ S.Open) (keys : c.handshake.protection.keys ≡ k) (width : ℕ) (held : Held width)
    (numbers : List ℕ) (window : c.handshake.protection.window ≡ window_of width numbers) where
  module _ (content : Content) (n : ℕ) (few : n ≤ 65535) (body : List ℕ) (most : length body ≤ 1300) where
    abbrev d : List ℕ
    d = record_under k FromUnit content n body

    abbrev r : Record
    r = lone k FromUnit content n few body most

    coded : Protected (keys_of c.handshake) d r body
    coded =
        subst (λ x. Protected x d r body) (sym keys)
        (record { is_protected = refl; is_coded = (wired_genuine k FromUnit content n few body most).is_coded })

    abbrev w : Window
    w = window_of width (n ∷ numbers)

    new : highest_of numbers < n → New c.handshake d r body w
    new l =
        record {
          guarded = record { protection = refl; kind = inr is_open };
          coded = coded;
          arrived = arrived_of width (n ∷ numbers);
          accepted = ap (λ x. accept_of x n) window ∙ takes-above width held numbers n l;
        }

  -- data, above all that were accepted: handed out
  module _ (n : ℕ) (few : n ≤ 65535) (above : highest_of numbers < n) (bytes : List ℕ) (some : 1 ≤ length bytes) (most : length bytes ≤ 1300)
      (random out : List ℕ) (lr : length random ≡ 16) (lo : 128 ≤ length out) where
    not_handshake : RightBeside c (d C.Data n few bytes most) (r C.Data n few bytes most) → ⊥
    not_handshake q = let z : C.Data ≡ C.Handshake = q.handshake in let y : ◌≡◌ {A = ℕ} 0 1 = cc in omega arith

    pub left : Connection
    left = connection_of (with_window c.handshake (w C.Data n few bytes most)) c.started c.sent

    chain : Chain random (d C.Data n few bytes most) c (r C.Data n few bytes most ∷ []) (W.Data n 3 (length bytes) ∷ []) left
    unfolding left
    chain =
        chain_more
        (tells (asks_protected is_open refl not_handshake) (row_data bytes (w C.Data n few bytes most) (new C.Data n few bytes most above) refl some) (left_open is_open))
        chain_end

    pub data_gives : Ashore.received_of c (d C.Data n few bytes most) random (length out)
        ≡ record {
          taken = Ok 1;
          answers = Ashore.slots_of (W.Data n 3 (length bytes) ∷ []);
          written = length (Ashore.first_reply c random (d C.Data n few bytes most) (r C.Data n few bytes most ∷ []));
          connection = left;
        }
    data_gives =
        (Laws.took c (d C.Data n few bytes most) random out (r C.Data n few bytes most ∷ []) (W.Data n 3 (length bytes) ∷ []) left lr lo (wired_framed k FromUnit C.Data n few bytes most) chain).gives

    pub data_out_lem : out_ashore (d C.Data n few bytes most) (Ashore.received_of c (d C.Data n few bytes most) random (length out)).answers ≡ handed n bytes ∷ []
    data_out_lem =
        ap (λ (x : Received). out_ashore (d C.Data n few bytes most) x.answers) data_gives
        ∙ one_data (d C.Data n few bytes most) n 3 (length bytes)
        ∙ ap (λ x. handed n x ∷ []) (reported_part k FromUnit n few bytes some most)

    pub data_leaves : (Ashore.received_of c (d C.Data n few bytes most) random (length out)).connection ≡ left
    data_leaves = ap (λ (x : Received). x.connection) data_gives

  -- data that is too old: refused
  module _ (n : ℕ) (few : n ≤ 65535) (old : n + width ≤ highest_of numbers) (bytes : List ℕ) (most : length bytes ≤ 1300)
      (random out : List ℕ) (lr : length random ≡ 16) (lo : 128 ≤ length out) where
    not_finished : RightBeside c (d C.Data n few bytes most) (r C.Data n few bytes most) → ⊥
    not_finished q = let z : C.Data ≡ C.Handshake = q.handshake in let y : ◌≡◌ {A = ℕ} 0 1 = cc in omega arith

    old_chain : Chain random (d C.Data n few bytes most) c (r C.Data n few bytes most ∷ []) (W.Refused X.TooOld ∷ []) (connection_of c.handshake c.started c.sent)
    old_chain =
        chain_more
        (tells (asks_protected is_open refl not_finished)
        (row_old bytes (record { protection = refl; kind = inr is_open }) (coded C.Data n few bytes most)
        (ap (λ x. accept_of x n) window ∙ meaning width held numbers n ∙ old_when width numbers n old))
        (left_open is_open))
        chain_end

    pub old_out : out_ashore (d C.Data n few bytes most) (Ashore.received_of c (d C.Data n few bytes most) random (length out)).answers ≡ []
    old_out =
        ap (λ (x : Received). out_ashore (d C.Data n few bytes most) x.answers)
        (Laws.took c (d C.Data n few bytes most) random out (r C.Data n few bytes most ∷ []) (W.Refused X.TooOld ∷ []) (connection_of c.handshake c.started c.sent) lr lo
        (wired_framed k FromUnit C.Data n few bytes most) old_chain).gives
        ∙ one_refused (d C.Data n few bytes most)

  -- a critical alert: the shore closes
  module _ (n : ℕ) (few : n ≤ 65535) (above : highest_of numbers < n) (random out : List ℕ) (lr : length random ≡ 16) (lo : 128 ≤ length out) where
    abbrev body : List ℕ
    body = alert_bytes L.Critical D.ConnectionCloseNotify 0

    abbrev few_bytes : length body ≤ 1300
    few_bytes = omega arith

    not_message : RightBeside c (d C.Alert n few body few_bytes) (r C.Alert n few body few_bytes) → ⊥
    not_message q = let z : C.Alert ≡ C.Handshake = q.handshake in let y : ◌≡◌ {A = ℕ} 0 1 = cc in omega arith

    closed_not : S.Closed ≡ S.Open → ⊥
    closed_not z = let y : ◌≡◌ {A = ℕ} 0 1 = cc in omega arith

    shut : Connection
    shut = connection_of (with_state (with_window c.handshake (w C.Alert n few body few_bytes)) S.Closed) none_started c.sent

    shut_chain : Chain random (d C.Alert n few body few_bytes) c (r C.Alert n few body few_bytes ∷ []) (W.Critical D.ConnectionCloseNotify ∷ []) shut
    unfolding shut
    shut_chain =
        chain_more
        (tells (asks_protected is_open refl not_message)
        (row_critical body (w C.Alert n few body few_bytes) (record { level = L.Critical; description = D.ConnectionCloseNotify; checksum = 0 })
        (new C.Alert n few body few_bytes above) refl (alert_back L.Critical D.ConnectionCloseNotify 0 (omega arith)) refl)
        (left_ended closed_not))
        chain_end

    pub shuts : (Ashore.received_of c (d C.Alert n few body few_bytes) random (length out)).connection.handshake.state ≡ S.Closed
    unfolding shut
    shuts =
        ap (λ (x : Received). x.connection.handshake.state)
        (Laws.took c (d C.Alert n few body few_bytes) random out (r C.Alert n few body few_bytes ∷ []) (W.Critical D.ConnectionCloseNotify ∷ []) shut lr lo
        (wired_framed k FromUnit C.Alert n few body few_bytes) shut_chain).gives

-- ---- behind the handshake

module _ (s : Setting) (ls : ListedSetting s) where
  abbrev c₂ : Connection
  c₂ = P.c₂ s ls

  abbrev keys_used : Keys
  keys_used = P.k s ls

  abbrev sw : ℕ
  sw = s.shore_width

  opened : c₂.handshake.state ≡ S.Open
  opened = (P.together s ls).is_open

  keyed : c₂.handshake.protection.keys ≡ keys_used
  keyed = sym (P.together s ls).same_keys ∙ P.unit_keys s ls

  low : highest_of (0 ∷ []) < 1
  unfolding highest_of
  low = omega arith

  low_far : highest_of (0 ∷ []) < 1 + sw
  unfolding highest_of
  low_far = omega arith

  far : 1 + sw ≤ highest_of ((1 + sw) ∷ 0 ∷ [])
  unfolding highest_of
  far = omega arith

  few_1 : 1 ≤ 65535
  few_1 = omega arith

  few_far : 1 + sw ≤ 65535
  few_far = let l = ls.shore_held.1 in omega arith

  used_before : (bytes random out : List ℕ) → ListedData bytes → ListedRoom random out
      → Within [] (trace_of FromUnit (J.e s ls) (comes (unit_data keys_used 1 bytes) random out ∷ [])) → ⊥
  unfolding trace_of Within
  used_before bytes random out b o within =
      (subst (λ x. AllSentAs [] (unit_data keys_used 1 bytes) x)
      (data_out_lem keys_used c₂ opened keyed sw ls.shore_held (0 ∷ []) (P.shore_window s ls) 1 few_1 low bytes b.some b.most random out o.random_size o.room)
      within.0).0

  on_its_way : (random out : List ℕ) → ListedRoom random out → StayOpen (J.e s ls) (comes (critical_alert keys_used 1) random out ∷ []) → ⊥
  unfolding Shore.step_of
  on_its_way random out o stays =
      let closed = shuts keys_used c₂ opened keyed sw ls.shore_held (0 ∷ []) (P.shore_window s ls) 1 few_1 low random out o.random_size o.room in
      let z : S.Closed ≡ S.Open = sym closed ∙ stays.2.0 in
      let y : ◌≡◌ {A = ℕ} 0 1 = cc in
      omega arith

  module _ (first later random out : List ℕ) (b : ListedData first) (f : ListedData later) (o : ListedRoom random out) where
    behind_it : Connection
    behind_it = left keys_used c₂ opened keyed sw ls.shore_held (0 ∷ []) (P.shore_window s ls) (1 + sw) few_far low_far later f.some f.most random out o.random_size o.room

    late_leaves : (Ashore.received_of c₂ (unit_data keys_used (1 + sw) later) random (length out)).connection ≡ behind_it
    unfolding behind_it
    late_leaves =
        data_leaves keys_used c₂ opened keyed sw ls.shore_held (0 ∷ []) (P.shore_window s ls) (1 + sw) few_far low_far later f.some f.most random out o.random_size o.room

    late_open : behind_it.handshake.state ≡ S.Open
    unfolding behind_it left
    late_open = opened

    late_keyed : behind_it.handshake.protection.keys ≡ keys_used
    unfolding behind_it left
    late_keyed = keyed

    late_window : behind_it.handshake.protection.window ≡ window_of sw ((1 + sw) ∷ 0 ∷ [])
    unfolding behind_it left
    late_window = refl

    late_out : out_ashore (unit_data keys_used 1 first) (Ashore.received_of behind_it (unit_data keys_used 1 first) random (length out)).answers ≡ []
    late_out =
        old_out keys_used behind_it late_open late_keyed sw ls.shore_held ((1 + sw) ∷ 0 ∷ []) late_window 1 few_1 far first b.most random out o.random_size o.room

    too_late : trace_of FromUnit (done_by (J.e s ls) (comes (unit_data keys_used (1 + sw) later) random out)) (comes (unit_data keys_used 1 first) random out ∷ [])
        ≡ takes (unit_data keys_used 1 first) [] ∷ []
    unfolding trace_of Shore.step_of
    too_late =
        ap (λ (x : Connection). takes (unit_data keys_used 1 first) (out_ashore (unit_data keys_used 1 first) (Ashore.received_of x (unit_data keys_used 1 first) random (length out)).answers) ∷ []) late_leaves
        ∙ ap (λ x. takes (unit_data keys_used 1 first) x ∷ []) late_out

  -- ---- a run that meets the premises

  -- data is no Finished, whatever the shore has
  unreplaced : (c : Connection) (x random space : List ℕ) (q : Record) → length random ≡ 16 → 128 ≤ length space → framing_of x ≡ framed (q ∷ []) → q.content ≡ C.Data
      → Unreplaced c (acts_in (Shore.receive x random space))
  unfolding Unreplaced
  unreplaced c x random space q lr lo f is_data_lem =
      subst (Unreplaced c) (sym (acts_are c x random space lr lo ∙ ap (records_in random x) f))
      ((λ z. let y : C.Data ≡ C.Handshake = sym is_data_lem ∙ z.handshake in let v : ◌≡◌ {A = ℕ} 0 1 = cc in omega arith), tt)

  module _ (bytes out random space : List ℕ) (b : ListedData bytes) (room : 3 + length bytes + size_of keys_used.mac ≤ length out) (o : ListedRoom random space) where
    few_now : (P.u₂ s ls).protection.protected ≤ 65535
    few_now = let e = P.next_aboard s ls in omega arith

    fits : 3 + length bytes + size_of (P.u₂ s ls).protection.keys.mac ≤ length out
    fits = subst (λ (k : Keys). 3 + length bytes + size_of k.mac ≤ length out) (sym (P.unit_keys s ls)) room

    went : Ship.Sent (P.u₂ s ls) bytes out b.some b.most (P.together s ls).talks few_now fits
    went = Ship.sends (P.u₂ s ls) bytes out b.some b.most (P.together s ls).talks few_now fits

    abbrev x : List ℕ
    x = report_datagram (J.e s ls) bytes out

    abbrev q : Record
    q = lone (P.u₂ s ls).protection.keys FromUnit C.Data (P.u₂ s ls).protection.protected few_now bytes b.most

    x_framed : framing_of x ≡ framed (q ∷ [])
    x_framed = ap framing_of went.datagram ∙ wired_framed (P.u₂ s ls).protection.keys FromUnit C.Data (P.u₂ s ls).protection.protected few_now bytes b.most

    abbrev report : Report
    report = record { number = (P.u₂ s ls).protection.protected; bytes = bytes; datagram = x }

    linked : Linked keys_used FromUnit (J.by_unit s ls) (trace_of FromUnit (J.e s ls) (brought_twice (J.e s ls) bytes out random space))
    unfolding trace_of Linked
    linked =
        subst (λ y. Linked keys_used FromUnit (J.by_unit s ls) (if_done y (sends report) ++ trace_of FromUnit (done_by (J.e s ls) (aboard (ShipRuns.send_data bytes out))) (comes x random space ∷ comes x random space ∷ []))) (sym went.done)
        (inl (inl refl), (inl (inl refl), tt))

    silent : Linked keys_used FromShore (J.by_shore s ls) (trace_of FromShore (J.e s ls) (brought_twice (J.e s ls) bytes out random space))
    unfolding trace_of Linked
    silent = tt

    a_run : Premises keys_used (J.e s ls) (J.by_unit s ls) (J.by_shore s ls) (brought_twice (J.e s ls) bytes out random space)
    a_run =
        record {
          just_open = J.just_open s ls;
          calls = (tt, ((o.random_size, o.room), ((o.random_size, o.room), tt)));
          none_beside = (tt, (unreplaced _ x random space q o.random_size o.room x_framed refl, (unreplaced _ x random space q o.random_size o.room x_framed refl, tt)));
          link_to_shore = linked;
          link_to_ship = silent;
        }

  pub needed : Needed (J.e s ls) keys_used (J.by_unit s ls) (J.by_shore s ls) sw
  needed =
      record {
        just_open = J.just_open s ls;
        met = a_run;
        used_before = used_before;
        on_its_way = on_its_way;
        too_late = too_late;
      }

module _ (s : Setting) (r : Rooms) (ls : ListedSetting s) (lr : ListedRooms r) (m : Met s r) where
  abbrev p : Met s r
  p = P.met s ls r lr

  unit_is : P.u₂ s ls ≡ m.u₂
  unit_is = sym (same_unit s r m p ∙ (P.met_at s ls r lr).0)

  shore_is : P.c₂ s ls ≡ m.c₂
  shore_is = sym (same_shore s r m p ∙ (P.met_at s ls r lr).1)

  hello_is : P.hello s ls ≡ m.hello
  hello_is = sym (same_hello s r m p ∙ (P.met_at s ls r lr).2)

  reply_is : P.reply s ls ≡ m.reply
  reply_is = sym (same_reply s r m p ∙ (P.met_at s ls r lr).3)

  flight_is : P.flight s ls ≡ m.flight
  flight_is = sym (same_flight s r m p ∙ (P.met_at s ls r lr).4)

  keys_are : P.k s ls ≡ m.u₂.protection.keys
  keys_are = sym (P.unit_keys s ls) ∙ ap (λ (u : ShipsUnit). u.protection.keys) unit_is

  pub needed_behind : Needed (ends_of m.u₂ m.c₂) m.u₂.protection.keys (m.flight ∷ m.hello ∷ []) (m.reply ∷ []) s.shore_width
  needed_behind =
      subst (λ x. Needed (ends_of m.u₂ m.c₂) m.u₂.protection.keys (m.flight ∷ m.hello ∷ []) x s.shore_width) (λ i. reply_is i ∷ [])
      (subst (λ x. Needed (ends_of m.u₂ m.c₂) m.u₂.protection.keys x (J.by_shore s ls) s.shore_width) (λ i. flight_is i ∷ hello_is i ∷ [])
      (subst (λ x. Needed (ends_of m.u₂ m.c₂) x (J.by_unit s ls) (J.by_shore s ls) s.shore_width) keys_are
      (subst (λ x. Needed x (P.k s ls) (J.by_unit s ls) (J.by_shore s ls) s.shore_width) (λ i. ends_of (unit_is i) (shore_is i)) (needed s ls))))

pub three_needed : ThreeNeeded
unfolding ThreeNeeded
three_needed s r ls lr m = needed_behind s r ls lr m
