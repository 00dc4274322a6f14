-- The premises are met by the worked handshake.
use mathlib.Core.Path.{◌≡◌, refl, sym, ◌∙◌, ap, subst}
use mathlib.Core.Logic.{inl, inr, ◌≢◌}
use mathlib.Core.Bool.{true, false}
use mathlib.Core.List.{List, [], ◌∷◌, ◌++◌}
use Prim.Native.Nat.{ℕ}
use native.Mathlib.Omega.{arith}
use lib.ListN.{length, length-append, get_or}
use lib.Dec.{lit≤}
use Rattle.record.specs.Datagram.{Framing, framed, framing_of}
use Rattle.record.specs.declared.header.Content.TheVariants as C
use Rattle.record.specs.declared.reader.Record.{Record}
use Rattle.record.proofs.ProtectedBytes.{size_most}
use Rattle.message.specs.Alert.{alert_bytes}
use Rattle.message.specs.declared.alert.Description.TheVariants as D
use Rattle.message.specs.declared.alert.Level.TheVariants as L
use Rattle.message.proofs.AlertLaws.{alert_back, level_back, description_back}
use Rattle.connection.specs.Answer.{judged}
use Rattle.connection.specs.Handshake.{with_window, barred, none_started}
use Rattle.connection.specs.Judge.{judged_record}
use Rattle.connection.specs.Send.{data_sent, alert_sent}
use Rattle.connection.specs.declared.state.State.TheVariants as S
use Rattle.connection.specs.declared.answer.Answer.TheVariants as W
use Rattle.connection.specs.declared.handshake.Handshake.{Handshake}
use Rattle.demands.specs.Runs.{step_of, fresh_one}
use Rattle.record.specs.declared.keys.Keys.{Keys}
use Rattle.demands.specs.Genuine.{keys_of}
use Rattle.demands.specs.Table.{Row, row_barred, Hears}
use Rattle.demands.specs.Calls.{may_alert, data_sent_lem, alert_sent_lem}
use Rattle.demands.specs.Events.{Event, took, after}
use Rattle.demands.specs.Past.{is_data}
use Rattle.demands.specs.LeftOut.{NoneGenuine}
use Rattle.demands.specs.Traps.{last_protected}
use Rattle.demands.specs.Example.{example_id, example_secret, example_width, example_random, example_out, example_data, sha_hello, sha_plan, example_hello}
use Rattle.demands.specs.Instances.{example_fresh, Instances}
use Rattle.demands.proofs.Genuine.{true_false}
use Rattle.demands.proofs.Table.{row_is}
use Rattle.demands.proofs.Calls.{call_is}
use Rattle.demands.proofs.Refusals.{outcome_in}
use Rattle.demands.proofs.Works.{Walk, reboots}
use Rattle.demands.proofs.Example.{example_heard, example_held, example_walk, opening, opening_sound, opening_leaves, opening_open, example_greeted, sha_heard, acts, acts_sound, acts_open, acts_leave}
use Rattle.demands.proofs.Gateways.{two, one_of_two, two_of_two, two_framed}
use Rattle.demands.proofs.Traps.{w₀, w₇, new_7, single, single_framed, single_protected}
use Rattle.connection.specs.Connection.{alone, connection_of}
use Rattle.connection.specs.Sent.{no_records}
use Rattle.demands.specs.Works.{Rebooted, Reboots}
use Rattle.demands.specs.Acts.{Act, behind}
use Rattle.connection.specs.Calls.{session_of}
use Rattle.connection.specs.declared.sent.SentRecords.{SentRecords}
use Rattle.connection.specs.declared.connection.Connection.{Connection}
use Rattle.std.specs.Prelude.{Ok}

abbrev w : Walk example_id example_secret example_width example_random example_data
w = example_walk

run : List Event
run = opening example_id example_secret example_random example_data refl example_walk

run_leaves : after example_fresh run ≡ w.h₃
unfolding run
run_leaves = opening_leaves example_id example_secret example_random example_data refl example_walk

-- a clear record is not genuine
in_two : (before : List Record) (r : Record) (behind : List Record) → before ++ (r ∷ behind) ≡ one_of_two ∷ two_of_two ∷ [] → r.protected ≡ false
unfolding one_of_two two_of_two
in_two [] r behind e = let same : r ≡ one_of_two = cc in ap (λ x. x.protected) same
in_two (x ∷ []) r behind e = let same : r ≡ two_of_two = cc in ap (λ x. x.protected) same
in_two (x ∷ y ∷ before) r behind e =
    let z : length (before ++ (r ∷ behind)) ≡ 0 = let rest : before ++ (r ∷ behind) ≡ [] = cc in ap length rest in
    absurd (omega (arith, length-append before (r ∷ behind)))

same_records : (rs qs : List Record) (f : Framing) → f ≡ framed rs → f ≡ framed qs → qs ≡ rs
same_records rs qs f e g = cc

two_silent : (k : Keys) → NoneGenuine k two
two_silent k r c g =
    true_false r.protected g.protected_as.is_protected
    (in_two g.in_place.before r g.in_place.behind (same_records (one_of_two ∷ two_of_two ∷ []) (g.in_place.before ++ (r ∷ g.in_place.behind)) (framing_of two) two_framed g.in_place.framing))

-- a fatal alert, number 7
fatal_alert : List ℕ
fatal_alert = alert_bytes L.Fatal D.SessionCloseNotify 0

abbrev fatal_datagram : List ℕ
fatal_datagram = last_protected (keys_of w.h₃) C.Alert 7 fatal_alert

abbrev fatal_record : Record
fatal_record = single (keys_of w.h₃) C.Alert 7 (lit≤ tt) fatal_alert

fatal_row : Row w.h₃ no_records example_random fatal_datagram fatal_record (judged (W.Barred D.SessionCloseNotify) (barred (with_window w.h₃ (w₇ example_width))))
unfolding fatal_alert single w₀
fatal_row =
    row_barred fatal_alert (w₇ example_width) (record { level = L.Fatal; description = D.SessionCloseNotify; checksum = 0 })
    (new_7 w.h₃ w.open_is example_width example_held w.window_is fatal_datagram fatal_record fatal_alert refl (single_protected (keys_of w.h₃) C.Alert 7 (lit≤ tt) fatal_alert)) refl
    (alert_back L.Fatal D.SessionCloseNotify 0 (omega arith)) refl

fatal_framed : framing_of fatal_datagram ≡ framed (fatal_record ∷ [])
unfolding fatal_alert
fatal_framed = single_framed (keys_of w.h₃) C.Alert 7 (lit≤ tt) fatal_alert (lit≤ tt)

data_is_done : (h : Handshake) → h.state ≡ S.Open → h.protection.protected ≡ 1 → (data_sent (alone h) example_data (length example_out)).outcome ≡ Ok tt
unfolding step_of
data_is_done h s n =
    ap (λ x. outcome_in x.result)
    (call_is (alone h) (data_sent_lem {bytes = example_data} {out = example_out} (record { some = lit≤ tt; most = lit≤ tt }) s (omega arith) (omega (arith, size_most h.protection.keys.mac))))

alert_is_done : (h : Handshake) → h.state ≡ S.Open → h.protection.protected ≡ 1 → (alert_sent (alone h) true 1 0 [] (length example_out)).outcome ≡ Ok tt
unfolding step_of
alert_is_done h s n =
    ap (λ x. outcome_in x.result)
    (call_is (alone h) (alert_sent_lem {protected = true} {out = example_out} {l = L.Warning} {k = D.ConnectionCloseNotify} (record { level_is = level_back L.Warning; description_is = description_back D.ConnectionCloseNotify; lent_most = lit≤ tt }) (ap (may_alert true) s) (omega arith) (omega (arith, size_most h.protection.keys.mac))))

-- a reboot: the hello with SHA on the connection that the one with SHA_80 has opened
other_hello : sha_hello ≢ example_hello
other_hello z = let n : ◌≡◌ {A = ℕ} 3 2 = ap (λ l. get_or l 35 0) z in omega arith

none_hears : {P : Type 0} → Hears S.Idle → P
none_hears (inl e) = let n : ◌≡◌ {A = ℕ} 0 1 = cc in absurd (omega arith)
none_hears (inr e) = let n : ◌≡◌ {A = ℕ} 0 1 = cc in absurd (omega arith)

abbrev boot : List Act
boot = acts example_id example_secret example_random example_data refl example_walk

from_open_lem : (c : Connection) (s : SentRecords) → c ≡ connection_of w.h₃ none_started s
    → Rebooted step_of example_secret c (session_of example_id example_secret) sha_hello example_random example_out example_data sha_plan
unfolding Reboots
from_open_lem c s e =
    subst (λ x. Rebooted step_of example_secret x (session_of example_id example_secret) sha_hello example_random example_out example_data sha_plan) (sym e)
    (reboots example_id example_secret example_width example_held (connection_of w.h₃ none_started s) w.open_is w.planted_is (ap (λ x. x.width) w.window_is)
    sha_hello example_random example_out example_data sha_plan refl (lit≤ tt) (λ z. other_hello (z ∙ w.kept_is ∙ example_greeted)) (λ h. none_hears h) sha_heard (lit≤ tt) (lit≤ tt))

pub instances : Instances
unfolding run w₀
instances =
    record {
      hello = example_heard;
      run = record {
        es = run;
        sound = opening_sound example_id example_secret example_random example_data refl example_walk;
        is_open = opening_open example_id example_secret example_random example_data refl example_walk;
        just_open = record { is_open = opening_open example_id example_secret example_random example_data refl example_walk; width = example_width; held = example_held; window_is = ap (λ x. x.protection.window) run_leaves ∙ w.window_is };
        random = example_random;
        d = w.d₄;
        r = w.r₄;
        here = (refl, record { before = []; behind = []; framing = w.framed₄ });
        handed = ap (λ x. is_data (judged_record x no_records example_random w.d₄ w.r₄).answer) run_leaves ∙ ap (λ j. is_data j.answer) (row_is w.h₃ no_records example_random w.d₄ w.r₄ (w.row₄ no_records));
        bytes = example_data;
        out = example_out;
        data_done = ap (λ x. (data_sent (alone x) example_data (length example_out)).outcome) run_leaves ∙ data_is_done w.h₃ w.open_is w.next_is;
        alert_done = ap (λ x. (alert_sent (alone x) true 1 0 [] (length example_out)).outcome) run_leaves ∙ alert_is_done w.h₃ w.open_is w.next_is;
        noise = two;
        noise_records = one_of_two ∷ two_of_two ∷ [];
        noise_framed = two_framed;
        noise_only = two_silent (keys_of (after example_fresh run));
        fatal = took no_records example_random fatal_datagram fatal_record;
        fatal_sound = (refl, record { before = []; behind = []; framing = fatal_framed });
        fatal_bars = ap (λ x. (judged_record x no_records example_random fatal_datagram fatal_record).handshake.state) run_leaves ∙ ap (λ j. j.handshake.state) (row_is w.h₃ no_records example_random fatal_datagram fatal_record fatal_row);
      };
      reboot = record {
        acts = boot;
        sound = acts_sound example_id example_secret example_random example_data refl example_walk;
        is_open = acts_open example_id example_secret example_random example_data refl example_walk;
        rebooted = from_open_lem (behind (fresh_one example_id example_secret example_width) boot) _ (acts_leave example_id example_secret example_random example_data refl example_walk);
      };
    }
