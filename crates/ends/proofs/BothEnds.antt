-- Both ends on one bad link. The idea: each call of either end is one step of each of the two courses; what an end takes goes along with
-- its demand 3, what it sends is the next record of its own; and one course is the theorem of `Courses`, for either sense.
use mathlib.Core.Path.{◌≡◌, refl, sym, ◌∙◌, ap, subst}
use mathlib.Core.Logic.{◌⊎◌, inl, inr}
use mathlib.Core.Bool.{true, false}
use mathlib.Core.List.{List, [], ◌∷◌, ◌++◌}
use Prim.Native.Nat.{ℕ, ◌+◌, ◌≤◌}
use native.Mathlib.Omega.{arith}
use lib.ListN.{length, take}
use Rattle.digest.specs.Bytes.{word_at}
use Rattle.record.specs.Checksum.{checksum_of}
use Rattle.record.specs.Datagram.{Framing, framed, faulty, framing_of}
use Rattle.record.specs.History.{accepted}
use Rattle.record.specs.Protection.{record_under, next_record}
use Rattle.record.specs.Window.{Held}
use Rattle.record.specs.declared.header.Content.{Content}
use Rattle.record.specs.declared.header.Content.TheVariants as C
use Rattle.record.specs.declared.keys.Keys.{Keys}
use Rattle.record.specs.declared.keys.Sense.{Sense}
use Rattle.record.specs.declared.keys.Sense.TheVariants.{FromUnit, FromShore}
use Rattle.record.specs.declared.reader.Record.{Record}
use Rattle.message.specs.declared.alert.Level.TheVariants as L
use Rattle.connection.specs.Calls.{started_in, session_of}
use Rattle.connection.specs.Receive as Ashore
use Rattle.connection.specs.Send as AshoreSends
use Rattle.connection.specs.declared.connection.Connection.{Connection}
use Rattle.connection.specs.declared.handshake.Handshake.{Handshake}
use Rattle.connection.specs.declared.send.Sent.{Sent as SentAshore}
use Rattle.connection.specs.declared.state.State.TheVariants as S
use Rattle.unit.specs.Calls as AboardCalls
use Rattle.unit.specs.Receive as Aboard
use Rattle.unit.specs.Send as AboardSends
use Rattle.unit.specs.declared.send.Sent.{Sent as SentAboard}
use Rattle.unit.specs.declared.unit.Unit.{Unit as ShipsUnit}
use Rattle.demands.specs.Acts.{sends as sending, alerts, records_in, acts_in, behind}
use Rattle.demands.specs.Course.{Course, content_shuts, course_of}
use Rattle.demands.specs.HandedOut.{past_of}
use Rattle.demands.specs.LeftOut.{Unreplaced}
use Rattle.demands.specs.Past.{expected_in, accepted_in}
use Rattle.demands.specs.Runs as Shore
use Rattle.demands.specs.Ship.Course.{HoldsNumbers, course_at}
use Rattle.demands.specs.Ship.Course as ShipCourse
use Rattle.demands.specs.Ship.Events as ShipEvents
use Rattle.demands.specs.Ship.HandedOut as ShipHanded
use Rattle.demands.specs.Ship.Runs as Ship
use Rattle.demands.specs.Ship.Table.{Up}
use Rattle.demands.proofs.Genuine.{true_false}
use Rattle.demands.proofs.HandedOut.{Along, along_all, along_run}
use Rattle.demands.proofs.Lives.{clear_kept}
use Rattle.demands.proofs.Ship.Changes.{again_same, hello-up}
use Rattle.demands.proofs.Ship.HandedOut as ShipAlong
use Rattle.ends.specs.Sides.{Ends}
use Rattle.ends.specs.Link.{Doing, ashore, aboard, done_by, Report, Entry, sends, writes, takes, out_ashore, out_aboard, if_done, entries_of, trace_of, Linked}
use Rattle.ends.specs.BothEnds.{Quiet, Begun, JustOpen, Warns, Keeps, AllKeep, NoneBeside, AllNoneBeside, Premises, StayOpen, Reported, BothEnds}
use Rattle.ends.proofs.Ashore as AshoreLaws
use Rattle.ends.proofs.AtShore as AtShore
use Rattle.ends.proofs.AtShip as AtShip
use Rattle.ends.proofs.Courses.{Holds, Fine, Warned, Taken, Runs, done, delivered}
use Rattle.ends.proofs.OnWire.{report_single, warning_written}
use Rattle.ends.proofs.Onward.{Onward, idle, reports, warns, takes_in, loses}

module _ (k : Keys) (ashore_expected aboard-expected : List ℕ) (unit_first shore_first shore_width unit_width : ℕ) where
  abbrev ToShore : List (List ℕ) → List Report → ℕ → List (List ℕ) → Course → Type 0
  ToShore = Holds k FromUnit ashore_expected unit_first shore_width

  abbrev ToShip : List (List ℕ) → List Report → ℕ → List (List ℕ) → Course → Type 0
  ToShip = Holds k FromShore aboard-expected shore_first unit_width

  -- both ends with both courses: what was written, sent and seen on each, the next number and the course of the one that takes
  module _ (e : Ends) (a a' z z' : List (List ℕ)) (b b' : List Report) (n n' : ℕ) (q q' : Course) (h : ToShore a b n z q) (h' : ToShip a' b' n' z' q')
      (along : Along k ashore_expected q e.shore.handshake) (along' : ShipHanded.Along k aboard-expected q' e.unit)
      (unit_next : e.unit.protection.protected ≡ n) (shore_next : e.shore.handshake.protection.protected ≡ n') (t t' : List Entry) where
    -- after a step
    pub record Stepped (doing : Doing) : Type 0 where
      pub next : ℕ
      pub next' : ℕ
      pub course : Course
      pub course' : Course
      pub on : Onward k FromUnit ashore_expected unit_first shore_width a b n z q (entries_of FromUnit e doing) t next course
      pub on' : Onward k FromShore aboard-expected shore_first unit_width a' b' n' z' q' (entries_of FromShore e doing) t' next' course'
      pub along_shore : Along k ashore_expected course (done_by e doing).shore.handshake
      pub along_unit : ShipHanded.Along k aboard-expected course' (done_by e doing).unit
      pub unit_number : (done_by e doing).unit.protection.protected ≡ next
      pub shore_number : (done_by e doing).shore.handshake.protection.protected ≡ next'

    abbrev open_now : e.shore.handshake.state ≡ S.Open
    open_now = along.is_open h.not_shut

    abbrev up_now : Up e.unit.state
    up_now = along'.is_up h'.not_shut

    abbrev idle_to_shore : Linked k FromUnit a t → Onward k FromUnit ashore_expected unit_first shore_width a b n z q [] t n q
    idle_to_shore l = idle k FromUnit ashore_expected unit_first shore_width a b n z q h t l

    abbrev idle_to_ship : Linked k FromShore a' t' → Onward k FromShore aboard-expected shore_first unit_width a' b' n' z' q' [] t' n' q'
    idle_to_ship l = idle k FromShore aboard-expected shore_first unit_width a' b' n' z' q' h' t' l

    -- ---- a datagram comes to the shore

    module _ (d random out : List ℕ) (lr : length random ≡ 16) (lo : 128 ≤ length out) (none : Unreplaced e.shore (acts_in (Shore.receive d random out)))
        (l : Linked k FromUnit a (takes d (out_ashore d (Ashore.received_of e.shore d random (length out)).answers) ∷ t)) (l' : Linked k FromShore a' t') where
      shore_framed : (f : Framing) → framing_of d ≡ f → Stepped (ashore (Shore.receive d random out))
      unfolding Shore.step_of
      shore_framed (framed rs) f =
          let o = AtShore.framed_out e.shore d random out lr lo rs f in
          let acts-is = AtShore.acts_are e.shore d random out lr lo ∙ ap (records_in random d) f in
          let w = AtShore.take_all k ashore_expected random d [] rs f e.shore q along (subst (Unreplaced e.shore) acts-is none) in
          let on = takes_in k FromUnit ashore_expected unit_first shore_width a b n z q h t d rs (out_ashore d (Ashore.received_of e.shore d random (length out)).answers) w.end f
          (subst (λ x. Taken k FromUnit ashore_expected d q rs x w.end) (sym o.0) w.taken) l in
          record {
            next = n;
            next' = n';
            course = w.end;
            course' = q';
            on = on;
            on' = idle_to_ship l';
            along_shore = subst (λ (c : Connection). Along k ashore_expected w.end c.handshake) (sym o.1) w.along;
            along_unit = along';
            unit_number = unit_next;
            shore_number = ap (λ (c : Connection). c.handshake.protection.protected) o.1 ∙ w.number h.not_shut on.holds.not_shut ∙ shore_next;
          }
      shore_framed (faulty fault at) f =
          let o = AtShore.faulty_out e.shore d random out lr lo fault at f in
          record {
            next = n;
            next' = n';
            course = q;
            course' = q';
            on = subst (λ x. Onward k FromUnit ashore_expected unit_first shore_width a b n z q (takes d x ∷ []) t n q) (sym o.0)
                (loses k FromUnit ashore_expected unit_first shore_width a b n z q h t d fault at f (subst (λ x. Linked k FromUnit a (takes d x ∷ t)) o.0 l));
            on' = idle_to_ship l';
            along_shore = subst (λ (c : Connection). Along k ashore_expected q c.handshake) (sym o.1) along;
            along_unit = along';
            unit_number = unit_next;
            shore_number = ap (λ (c : Connection). c.handshake.protection.protected) o.1 ∙ shore_next;
          }

    -- ---- a datagram comes to the ship

    module _ (d out : List ℕ) (lo : 128 ≤ length out) (l : Linked k FromUnit a t)
        (l' : Linked k FromShore a' (takes d (out_aboard d (Aboard.received_of e.unit d (length out)).answers) ∷ t')) where
      ship_framed : (f : Framing) → framing_of d ≡ f → Stepped (aboard (Ship.receive d out))
      unfolding Ship.step_of
      ship_framed (framed rs) f =
          let o = AtShip.framed_out e.unit d out lo rs f in
          let w = AtShip.take_all k aboard-expected d [] rs f e.unit q' along' in
          let on = takes_in k FromShore aboard-expected shore_first unit_width a' b' n' z' q' h' t' d rs (out_aboard d (Aboard.received_of e.unit d (length out)).answers) w.end f
          (subst (λ x. Taken k FromShore aboard-expected d q' rs x w.end) (sym o.0) w.taken) l' in
          record {
            next = n;
            next' = n';
            course = q;
            course' = w.end;
            on = idle_to_shore l;
            on' = on;
            along_shore = along;
            along_unit = subst (ShipHanded.Along k aboard-expected w.end) (sym o.1) w.along;
            unit_number = ap (λ (u : ShipsUnit). u.protection.protected) o.1 ∙ w.number h'.not_shut on.holds.not_shut ∙ unit_next;
            shore_number = shore_next;
          }
      ship_framed (faulty fault at) f =
          let o = AtShip.faulty_out e.unit d out lo fault at f in
          record {
            next = n;
            next' = n';
            course = q;
            course' = q';
            on = idle_to_shore l;
            on' = subst (λ x. Onward k FromShore aboard-expected shore_first unit_width a' b' n' z' q' (takes d x ∷ []) t' n' q') (sym o.0)
                (loses k FromShore aboard-expected shore_first unit_width a' b' n' z' q' h' t' d fault at f (subst (λ x. Linked k FromShore a' (takes d x ∷ t')) o.0 l'));
            along_shore = along;
            along_unit = subst (ShipHanded.Along k aboard-expected q') (sym o.1) along';
            unit_number = ap (λ (u : ShipsUnit). u.protection.protected) o.1 ∙ unit_next;
            shore_number = shore_next;
          }

    -- ---- the next record of either

    shore_next_is : (content : Content) (body : List ℕ)
        → AshoreSends.next_protected e.shore.handshake content body ≡ record_under k FromShore content e.shore.handshake.protection.protected body
    unfolding AshoreSends.next_protected
    shore_next_is content body = ap (λ x. record_under x FromShore content e.shore.handshake.protection.protected body) (along.keys_same h.not_shut)

    unit_next_is : (content : Content) (body : List ℕ)
        → next_record e.unit.protection FromUnit content body ≡ record_under k FromUnit content e.unit.protection.protected body
    unit_next_is content body = ap (λ x. record_under x FromUnit content e.unit.protection.protected body) (along'.keys_same h'.not_shut)

    -- ---- the shore sends data

    module _ (bytes out : List ℕ) (none : Unreplaced e.shore (acts_in (Shore.send_data bytes out))) (l : Linked k FromUnit a t) where
      abbrev shore_data_sent : SentAshore
      shore_data_sent = AshoreSends.data_sent e.shore bytes (length out)

      shore_along_data : Along k ashore_expected q shore_data_sent.connection.handshake
      unfolding course_of behind
      shore_along_data = along_all k ashore_expected (sending bytes out ∷ []) q e.shore along none tt

      shore_data : Linked k FromShore a' (entries_of FromShore e (ashore (Shore.send_data bytes out)) ++ t') → AtShore.DataSide e.shore bytes out
          → Stepped (ashore (Shore.send_data bytes out))
      unfolding Shore.step_of
      shore_data l' (AtShore.data_refused_lem x o same) =
          let no-entry = ap (λ y. if_done y (sends (record { number = e.shore.handshake.protection.protected; bytes = bytes; datagram = take shore_data_sent.written (AshoreSends.data_output e.shore bytes out) }))) o in
          record {
            next = n;
            next' = n';
            course = q;
            course' = q';
            on = idle_to_shore l;
            on' = subst (λ x. Onward k FromShore aboard-expected shore_first unit_width a' b' n' z' q' x t' n' q') (sym no-entry)
                (idle_to_ship (subst (λ x. Linked k FromShore a' (x ++ t')) no-entry l'));
            along_shore = shore_along_data;
            along_unit = along';
            unit_number = unit_next;
            shore_number = ap (λ (c : Connection). c.handshake.protection.protected) same ∙ shore_next;
          }
      shore_data l' (AtShore.data_done good is_open few room) =
          let went = AshoreLaws.sends e.shore bytes out good is_open few room in
          let report : Report = record { number = e.shore.handshake.protection.protected; bytes = bytes; datagram = take shore_data_sent.written (AshoreSends.data_output e.shore bytes out) } in
          let entry = ap (λ y. if_done y (sends report)) went.done in
          let single = report_single k FromShore aboard-expected e.shore.handshake.protection.protected few bytes good.some good.most report.datagram
          (went.datagram ∙ shore_next_is C.Data bytes) in
          record {
            next = n;
            next' = n' + 1;
            course = q;
            course' = q';
            on = idle_to_shore l;
            on' = subst (λ x. Onward k FromShore aboard-expected shore_first unit_width a' b' n' z' q' x t' (n' + 1) q') (sym entry)
                (reports k FromShore aboard-expected shore_first unit_width a' b' n' z' q' h' t' report single shore_next (subst (λ x. Linked k FromShore a' (x ++ t')) entry l'));
            along_shore = shore_along_data;
            along_unit = along';
            unit_number = unit_next;
            shore_number = ap (λ (c : Connection). c.handshake.protection.protected) went.leaves ∙ ap (λ x. x + 1) shore_next;
          }

    -- ---- the shore sends an alert

    module _ (level description : ℕ) (answered out : List ℕ) (warning : Warns level) (l : Linked k FromUnit a t) where
      abbrev shore_alert_sent : SentAshore
      shore_alert_sent = AshoreSends.alert_sent e.shore true level description answered (length out)

      abbrev shore_alert_datagram : List ℕ
      shore_alert_datagram = take shore_alert_sent.written (AshoreSends.alert_output e.shore true level description answered out)

      shore_alert : Unreplaced e.shore (acts_in (Shore.send_alert true level description answered out))
          → Linked k FromShore a' (entries_of FromShore e (ashore (Shore.send_alert true level description answered out)) ++ t')
          → AtShore.AlertSide e.shore level description answered out → Stepped (ashore (Shore.send_alert true level description answered out))
      unfolding Shore.step_of course_of behind
      shore_alert none l' (AtShore.alert_refused_lem x o same) =
          let no-entry = ap (λ y. if_done y (writes shore_alert_datagram)) o in
          record {
            next = n;
            next' = n';
            course = q;
            course' = q';
            on = idle_to_shore l;
            on' = subst (λ x. Onward k FromShore aboard-expected shore_first unit_width a' b' n' z' q' x t' n' q') (sym no-entry)
                (idle_to_ship (subst (λ x. Linked k FromShore a' (x ++ t')) no-entry l'));
            along_shore = along_all k ashore_expected (alerts true level description answered out ∷ []) q e.shore along none tt;
            along_unit = along';
            unit_number = unit_next;
            shore_number = ap (λ (c : Connection). c.handshake.protection.protected) same ∙ shore_next;
          }
      shore_alert none l' (AtShore.alert_done v m level_is few o datagram-is leaves) =
          let entry = ap (λ y. if_done y (writes shore_alert_datagram)) o in
          let body_is = ap (λ x. AshoreSends.alert_body x m answered) (warning v level_is) in
          let written = warning_written k FromShore aboard-expected e.shore.handshake.protection.protected few m (word_at (checksum_of answered) 0) shore_alert_datagram
          (datagram-is ∙ ap (AshoreSends.next_protected e.shore.handshake C.Alert) body_is ∙ shore_next_is C.Alert (AshoreSends.alert_body L.Warning m answered)) in
          record {
            next = n;
            next' = n' + 1;
            course = q;
            course' = q';
            on = idle_to_shore l;
            on' = subst (λ x. Onward k FromShore aboard-expected shore_first unit_width a' b' n' z' q' x t' (n' + 1) q') (sym entry)
                (warns k FromShore aboard-expected shore_first unit_width a' b' n' z' q' h' t' shore_alert_datagram
                (λ r c g. subst (λ x. Warned k FromShore aboard-expected x shore_alert_datagram r c) shore_next (written r c g)) (subst (λ x. Linked k FromShore a' (x ++ t')) entry l'));
            along_shore = along_all k ashore_expected (alerts true level description answered out ∷ []) q e.shore along none tt;
            along_unit = along';
            unit_number = unit_next;
            shore_number = ap (λ (c : Connection). c.handshake.protection.protected) leaves ∙ ap (λ x. x + 1) shore_next;
          }

      -- a clear one goes out on a started handshake
      shore_clear : Linked k FromShore a' t' → Stepped (ashore (Shore.send_alert false level description answered out))
      unfolding Shore.step_of
      shore_clear l' =
          let same = clear_kept e.shore open_now level description answered (length out) in
          record {
            next = n;
            next' = n';
            course = q;
            course' = q';
            on = idle_to_shore l;
            on' = idle_to_ship l';
            along_shore = subst (Along k ashore_expected q) (sym same) along;
            along_unit = along';
            unit_number = unit_next;
            shore_number = ap (λ (x : Handshake). x.protection.protected) same ∙ shore_next;
          }

    -- ---- the unit sends data

    module _ (bytes out : List ℕ) (l' : Linked k FromShore a' t') where
      abbrev unit_data_sent : SentAboard
      unit_data_sent = AboardSends.data_sent e.unit bytes (length out)

      abbrev unit_report : Report
      unit_report = record { number = e.unit.protection.protected; bytes = bytes; datagram = take unit_data_sent.written (AboardSends.data_output e.unit bytes out) }

      unit_along_data : ShipHanded.Along k aboard-expected q' unit_data_sent.unit
      unfolding ShipCourse.course_of ShipEvents.after
      unit_along_data = ShipAlong.along_all k aboard-expected (ShipEvents.sending bytes out ∷ []) q' e.unit along' (tt, tt)

      unit_data_lem : Linked k FromUnit a (entries_of FromUnit e (aboard (Ship.send_data bytes out)) ++ t) → AtShip.DataSide e.unit up_now bytes out
          → Stepped (aboard (Ship.send_data bytes out))
      unfolding Ship.step_of
      unit_data_lem l (AtShip.data_refused_lem x same) =
          let no-entry = ap (λ (y : SentAboard). if_done y.outcome (sends unit_report)) same in
          record {
            next = n;
            next' = n';
            course = q;
            course' = q';
            on = subst (λ x. Onward k FromUnit ashore_expected unit_first shore_width a b n z q x t n q) (sym no-entry)
                (idle_to_shore (subst (λ x. Linked k FromUnit a (x ++ t)) no-entry l));
            on' = idle_to_ship l';
            along_shore = along;
            along_unit = unit_along_data;
            unit_number = ap (λ (y : SentAboard). y.unit.protection.protected) same ∙ unit_next;
            shore_number = shore_next;
          }
      unit_data_lem l (AtShip.data_done some most few o datagram-is leaves) =
          let entry = ap (λ y. if_done y (sends unit_report)) o in
          let single = report_single k FromUnit ashore_expected e.unit.protection.protected few bytes some most unit_report.datagram (datagram-is ∙ unit_next_is C.Data bytes) in
          record {
            next = n + 1;
            next' = n';
            course = q;
            course' = q';
            on = subst (λ x. Onward k FromUnit ashore_expected unit_first shore_width a b n z q x t (n + 1) q) (sym entry)
                (reports k FromUnit ashore_expected unit_first shore_width a b n z q h t unit_report single unit_next (subst (λ x. Linked k FromUnit a (x ++ t)) entry l));
            on' = idle_to_ship l';
            along_shore = along;
            along_unit = unit_along_data;
            unit_number = ap (λ (u : ShipsUnit). u.protection.protected) leaves ∙ ap (λ x. x + 1) unit_next;
            shore_number = shore_next;
          }

    -- ---- the unit sends an alert

    module _ (level description : ℕ) (answered out : List ℕ) (warning : Warns level) (l' : Linked k FromShore a' t') where
      abbrev unit_alert_sent : SentAboard
      unit_alert_sent = AboardSends.alert_sent e.unit true level description answered (length out)

      abbrev unit_alert_datagram : List ℕ
      unit_alert_datagram = take unit_alert_sent.written (AboardSends.alert_output e.unit true level description answered out)

      unit_along_alert : ShipHanded.Along k aboard-expected q' unit_alert_sent.unit
      unfolding ShipCourse.course_of ShipEvents.after
      unit_along_alert = ShipAlong.along_all k aboard-expected (ShipEvents.alerting true level description answered out ∷ []) q' e.unit along' (tt, tt)

      unit_alert : Linked k FromUnit a (entries_of FromUnit e (aboard (Ship.send_alert true level description answered out)) ++ t)
          → AtShip.AlertSide e.unit up_now level description answered out → Stepped (aboard (Ship.send_alert true level description answered out))
      unfolding Ship.step_of
      unit_alert l (AtShip.alert_refused_lem x same) =
          let no-entry = ap (λ (y : SentAboard). if_done y.outcome (writes unit_alert_datagram)) same in
          record {
            next = n;
            next' = n';
            course = q;
            course' = q';
            on = subst (λ x. Onward k FromUnit ashore_expected unit_first shore_width a b n z q x t n q) (sym no-entry)
                (idle_to_shore (subst (λ x. Linked k FromUnit a (x ++ t)) no-entry l));
            on' = idle_to_ship l';
            along_shore = along;
            along_unit = unit_along_alert;
            unit_number = ap (λ (y : SentAboard). y.unit.protection.protected) same ∙ unit_next;
            shore_number = shore_next;
          }
      unit_alert l (AtShip.alert_done v m level_is few o datagram-is leaves) =
          let entry = ap (λ y. if_done y (writes unit_alert_datagram)) o in
          let body_is = ap (λ x. AshoreSends.alert_body x m answered) (warning v level_is) in
          let written = warning_written k FromUnit ashore_expected e.unit.protection.protected few m (word_at (checksum_of answered) 0) unit_alert_datagram
          (datagram-is ∙ ap (next_record e.unit.protection FromUnit C.Alert) body_is ∙ unit_next_is C.Alert (AshoreSends.alert_body L.Warning m answered)) in
          record {
            next = n + 1;
            next' = n';
            course = q;
            course' = q';
            on = subst (λ x. Onward k FromUnit ashore_expected unit_first shore_width a b n z q x t (n + 1) q) (sym entry)
                (warns k FromUnit ashore_expected unit_first shore_width a b n z q h t unit_alert_datagram
                (λ r c g. subst (λ x. Warned k FromUnit ashore_expected x unit_alert_datagram r c) unit_next (written r c g)) (subst (λ x. Linked k FromUnit a (x ++ t)) entry l));
            on' = idle_to_ship l';
            along_shore = along;
            along_unit = unit_along_alert;
            unit_number = ap (λ (u : ShipsUnit). u.protection.protected) leaves ∙ ap (λ x. x + 1) unit_next;
            shore_number = shore_next;
          }

    -- ---- calls that change nothing

    unit_same : (doing : Ship.Call) → entries_of FromUnit e (aboard doing) ≡ [] → entries_of FromShore e (aboard doing) ≡ [] → (Ship.step_of e.unit doing).unit ≡ e.unit
        → Linked k FromUnit a t → Linked k FromShore a' t' → Stepped (aboard doing)
    unit_same doing no-entry no-entry' same l l' =
        record {
          next = n;
          next' = n';
          course = q;
          course' = q';
          on = subst (λ x. Onward k FromUnit ashore_expected unit_first shore_width a b n z q x t n q) (sym no-entry) (idle_to_shore l);
          on' = subst (λ x. Onward k FromShore aboard-expected shore_first unit_width a' b' n' z' q' x t' n' q') (sym no-entry') (idle_to_ship l');
          along_shore = along;
          along_unit = subst (ShipHanded.Along k aboard-expected q') (sym same) along';
          unit_number = ap (λ (u : ShipsUnit). u.protection.protected) same ∙ unit_next;
          shore_number = shore_next;
        }

    shore_start : Linked k FromUnit a t → Linked k FromShore a' t' → Stepped (ashore Shore.start)
    unfolding Shore.step_of
    shore_start l l' =
        let same : (started_in e.shore e.shore.handshake.state).connection ≡ e.shore = ap (λ s. (started_in e.shore s).connection) open_now in
        record {
          next = n;
          next' = n';
          course = q;
          course' = q';
          on = idle_to_shore l;
          on' = idle_to_ship l';
          along_shore = subst (λ (c : Connection). Along k ashore_expected q c.handshake) (sym same) along;
          along_unit = along';
          unit_number = unit_next;
          shore_number = ap (λ (c : Connection). c.handshake.protection.protected) same ∙ shore_next;
        }

    start_same : Up e.unit.state → (AboardCalls.started_in e.unit e.unit.state).unit ≡ e.unit
    start_same (inl s) = ap (λ x. (AboardCalls.started_in e.unit x).unit) s
    start_same (inr s) = ap (λ x. (AboardCalls.started_in e.unit x).unit) s

    -- ---- any step

    step : (doing : Doing) → Keeps doing → NoneBeside e doing → Linked k FromUnit a (entries_of FromUnit e doing ++ t) → Linked k FromShore a' (entries_of FromShore e doing ++ t')
        → Stepped doing
    unfolding Ship.step_of
    step (ashore (Shore.receive d random out)) (lr, lo) none l l' = shore_framed d random out lr lo none l l' (framing_of d) refl
    step (ashore (Shore.send_data bytes out)) keeps none l l' = shore_data bytes out none l l' (AtShore.data_side e.shore bytes out)
    step (ashore (Shore.send_alert true level description answered out)) keeps none l l' =
        shore_alert level description answered out keeps l none l' (AtShore.alert_side e.shore level description answered out)
    step (ashore (Shore.send_alert false level description answered out)) keeps none l l' = shore_clear level description answered out keeps l l'
    step (ashore Shore.close) keeps none l l' = absurd keeps
    step (ashore Shore.start) keeps none l l' = shore_start l l'
    step (aboard (Ship.hello random macs refresh out)) keeps none l l' =
        unit_same (Ship.hello random macs refresh out) refl refl (hello-up e.unit up_now random macs refresh (length out)) l l'
    step (aboard (Ship.again out)) keeps none l l' = unit_same (Ship.again out) refl refl (again_same e.unit (length out)) l l'
    step (aboard (Ship.receive d out)) keeps none l l' = ship_framed d out keeps l l' (framing_of d) refl
    step (aboard (Ship.send_data bytes out)) keeps none l l' = unit_data_lem bytes out l' l (AtShip.data_side e.unit up_now bytes out)
    step (aboard (Ship.send_alert true level description answered out)) keeps none l l' =
        unit_alert level description answered out keeps l' l (AtShip.alert_side e.unit up_now level description answered out)
    step (aboard (Ship.send_alert false level description answered out)) keeps none l l' =
        unit_same (Ship.send_alert false level description answered out) refl refl (AtShip.clear_same e.unit up_now level description answered out) l l'
    step (aboard Ship.close) keeps none l l' = absurd keeps
    step (aboard Ship.start) keeps none l l' = unit_same Ship.start refl refl (start_same up_now) l l'

  -- ---- the whole run

  pub record Ran (e : Ends) (a a' : List (List ℕ)) (b b' : List Report) (n n' : ℕ) (q q' : Course) (doings : List Doing) : Type 0 where
    pub to_shore : Runs k FromUnit ashore_expected unit_first shore_width a b n q (trace_of FromUnit e doings)
    pub to_ship : Runs k FromShore aboard-expected shore_first unit_width a' b' n' q' (trace_of FromShore e doings)
    pub stay_open : StayOpen e doings

  pub run : (doings : List Doing) (e : Ends) (a a' z z' : List (List ℕ)) (b b' : List Report) (n n' : ℕ) (q q' : Course) → ToShore a b n z q → ToShip a' b' n' z' q'
      → Along k ashore_expected q e.shore.handshake → ShipHanded.Along k aboard-expected q' e.unit
      → e.unit.protection.protected ≡ n → e.shore.handshake.protection.protected ≡ n' → AllKeep doings → AllNoneBeside e doings
      → Linked k FromUnit a (trace_of FromUnit e doings) → Linked k FromShore a' (trace_of FromShore e doings) → Ran e a a' b b' n n' q q' doings
  unfolding trace_of
  run [] e a a' z z' b b' n n' q q' h h' along along' un sn keep none l l' =
      record { to_shore = done; to_ship = done; stay_open = (along.is_open h.not_shut, along'.is_up h'.not_shut) }
  run (doing ∷ doings) e a a' z z' b b' n n' q q' h h' along along' un sn keep none l l' =
      let s = step e a a' z z' b b' n n' q q' h h' along along' un sn (trace_of FromUnit (done_by e doing) doings) (trace_of FromShore (done_by e doing) doings) doing
      keep.0 none.0 l l' in
      let more = run doings (done_by e doing) s.on.written' s.on'.written' s.on.seen' s.on'.seen' s.on.sent' s.on'.sent' s.next s.next'
      s.course s.course' s.on.holds s.on'.holds s.along_shore s.along_unit s.unit_number s.shore_number keep.1 none.1 s.on.linked s.on'.linked in
      record {
        to_shore = s.on.runs more.to_shore;
        to_ship = s.on'.runs more.to_ship;
        stay_open = (along.is_open h.not_shut, along'.is_up h'.not_shut, more.stay_open);
      }

-- ---- from the start

quiet_fine : (k : Keys) (sense : Sense) (expected : List ℕ) (next : ℕ) (d : List ℕ) (r : Record) (c : List ℕ) → Quiet next r c
    → Fine k sense expected [] next d r c
quiet_fine k sense expected next d r c q =
    record { numbered = q.numbered; harmless = by r.content refl; data_sent_lem = λ e. absurd (q.no_data e) }
  where
    by : (x : Content) → r.content ≡ x → (content_shuts r.content c expected ≡ false) ⊎ (r.number ≡ 0)
    by C.ChangeCipherSpec e = inl (ap (λ y. content_shuts y c expected) e)
    by C.Alert e = inl (ap (λ y. content_shuts y c expected) e ∙ q.no_closing e)
    by C.Handshake e = inr (q.finished e)
    by C.Data e = absurd (q.no_data e)

begun_holds : (k : Keys) (sense : Sense) (expected : List ℕ) (before : List (List ℕ)) (next width : ℕ) (numbers : List ℕ) → Held width → Begun k sense before next numbers
    → Holds k sense expected next width before [] next [] (record { width = width; numbers = numbers; shut = false })
begun_holds k sense expected before next width numbers held s =
    record {
      width_is = refl;
      held = held;
      not_shut = refl;
      opened = s.opened;
      below = s.below;
      first_some = let l = s.below 0 s.opened in omega arith;
      from_first = omega arith;
      fine = λ d i r c g. quiet_fine k sense expected next d r c (s.quiet d i r c g);
      singles = λ report i. absurd i;
      unique = λ report i d j r c g e. absurd i;
      traced = λ n a. inl (s.below n a);
      ruled = λ d i. absurd i;
    }

none_accepted : {P : Type 0} (n : ℕ) → accepted [] n ≡ true → P
unfolding accepted
none_accepted n e = true_false false e refl

module _ (k : Keys) (e : Ends) (by_unit by_shore : List (List ℕ)) (doings : List Doing) (p : Premises k e by_unit by_shore doings) where
  abbrev j : JustOpen k e by_unit by_shore
  j = p.just_open

  ashore_expected : List ℕ
  ashore_expected = expected_in (session_of j.id j.secret) (past_of j.id j.secret j.width j.acts)

  abbrev shore_course : Course
  shore_course = record { width = j.width; numbers = accepted_in (past_of j.id j.secret j.width j.acts); shut = false }

  abbrev unit_course : Course
  unit_course = course_at e.unit j.numbers

  along_shore : Along k ashore_expected shore_course e.shore.handshake
  unfolding ashore_expected course_of behind Unreplaced
  along_shore =
      subst (λ (c : Connection). Along k ashore_expected shore_course c.handshake) (sym j.shore_is)
      (subst (λ x. Along x ashore_expected shore_course (behind (Shore.fresh_one j.id j.secret j.width) j.acts).handshake) j.keys_ashore
      (along_run j.id j.secret j.width j.held j.acts j.sound j.is_open [] tt tt))

  along_unit : ShipHanded.Along k e.unit.expected unit_course e.unit
  along_unit =
      subst (λ x. ShipHanded.Along x e.unit.expected unit_course e.unit) j.keys_aboard (ShipAlong.along-start e.unit j.numbers j.is_up j.holds)

  abbrev unit_first : ℕ
  unit_first = e.unit.protection.protected

  abbrev shore_first : ℕ
  shore_first = e.shore.handshake.protection.protected

  abbrev unit_width : ℕ
  unit_width = e.unit.protection.window.width

  to_shore : Holds k FromUnit ashore_expected unit_first j.width by_unit [] unit_first [] shore_course
  to_shore = begun_holds k FromUnit ashore_expected by_unit unit_first j.width (accepted_in (past_of j.id j.secret j.width j.acts)) j.held j.from_unit

  to_ship : Holds k FromShore e.unit.expected shore_first unit_width by_shore [] shore_first [] unit_course
  to_ship = begun_holds k FromShore e.unit.expected by_shore shore_first unit_width j.numbers j.holds.held j.from_shore

  ran : Ran k ashore_expected e.unit.expected unit_first shore_first j.width unit_width e by_unit by_shore [] [] unit_first shore_first shore_course unit_course doings
  ran =
      run k ashore_expected e.unit.expected unit_first shore_first j.width unit_width doings e by_unit by_shore [] [] [] [] unit_first shore_first shore_course unit_course
      to_shore to_ship along_shore along_unit refl refl p.calls p.none_beside p.link_to_shore p.link_to_ship

  pub reported : Reported k e j.width doings
  reported =
      let s = delivered k FromUnit ashore_expected unit_first j.width ran.to_shore [] to_shore [] (λ n a. none_accepted n a) in
      let u = delivered k FromShore e.unit.expected shore_first unit_width ran.to_ship [] to_ship [] (λ n a. none_accepted n a) in
      record {
        to_shore = record { within = s.0; once = s.1; exactly = s.2 };
        to_ship = record { within = u.0; once = u.1; exactly = u.2 };
        stay_open = ran.stay_open;
      }

pub both_ends : BothEnds
unfolding BothEnds
both_ends k e by_unit by_shore doings p = reported k e by_unit by_shore doings p
