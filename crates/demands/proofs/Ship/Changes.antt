-- What a call changes of the unit. The idea: each refusal gives the unit back, and a record that is written counts on.
use mathlib.Core.Path.{◌≡◌, refl, ap}
use mathlib.Core.Logic.{inl, inr}
use mathlib.Core.Bool.{Bool, true, false}
use mathlib.Core.List.{List}
use Prim.Native.Nat.{ℕ}
use lib.ListN.{length}
use lib.Dec.{eqb, ltb, leb}
use Rattle.digest.specs.Pick.{pick}
use Rattle.record.specs.Protection.{wrote_by, next_record, writing, counted_on}
use Rattle.record.specs.declared.header.Content.{Content}
use Rattle.record.specs.declared.header.Content.TheVariants as C
use Rattle.record.specs.declared.keys.Sense.TheVariants.{FromUnit}
use Rattle.record.specs.declared.protection.Protection.{Protection}
use Rattle.record.specs.declared.protection.Unwritten.TheVariants as W
use Rattle.message.specs.Alert.{level_of, sorted_of}
use Rattle.message.specs.Offer.{kinds_named}
use Rattle.connection.specs.Send.{alert_body, clear_on}
use Rattle.connection.specs.Sent.{sum_of}
use Rattle.connection.specs.declared.refusal.Refusal.{Refusal}
use Rattle.connection.specs.declared.refusal.Refusal.TheVariants as X
use Rattle.unit.specs.Unit.{with_sent, flight_of}
use Rattle.unit.specs.Hello.{hello_sent, hello_as, greeted_with, offer_of, may_hello, again_sent, again_in, said_again, hello_said}
use Rattle.unit.specs.Send.{unsent, done_with, sent_if, may_protect, may_clear, wrote_to, protected_sent, clear_sent, next_clear, data_sent, alert_sent_by, alert_sent_as, alert_sent}
use Rattle.unit.specs.declared.send.Sent.{Sent}
use Rattle.unit.specs.declared.state.State.{State}
use Rattle.unit.specs.declared.state.State.TheVariants as S
use Rattle.unit.specs.declared.unit.Unit.{Unit as Ship}
use Rattle.demands.specs.Ship.Changes.{Alike, SendsChangeOnly, AgainChangesNothing}
use Rattle.demands.specs.Ship.Table.{Up}
use Rattle.std.specs.Prelude.{Err, None, Ok, Option, Result, Some, ⊤}
use Rattle.message.specs.declared.alert.Description.{Description}
use Rattle.message.specs.declared.alert.Level.{Level}
use Rattle.message.specs.declared.offer.Kinds.{Kinds}
use Rattle.record.specs.declared.protection.Unwritten.{Unwritten}

module _ (u : Ship) where
  pub alike : Alike u u
  alike =
      record {
        state_same = refl;
        id_same = refl;
        offer_same = refl;
        expected_same = refl;
        flight_same = refl;
        keys_same = refl;
        window_same = refl;
      }

  -- a record that was written
  sent-alike : (p : Protection) (sum : ℕ) → p.keys ≡ u.protection.keys → p.window ≡ u.protection.window → Alike u (with_sent u p sum)
  sent-alike p sum ek ew =
      record {
        state_same = refl;
        id_same = refl;
        offer_same = refl;
        expected_same = refl;
        flight_same = refl;
        keys_same = ek;
        window_same = ew;
      }

  -- by a test
  pick-alike : (b : Bool) (x y : Sent) → Alike u x.unit → Alike u y.unit → Alike u (pick b x y).unit
  pick-alike true x y ax ay = ax
  pick-alike false x y ax ay = ay

  if-alike : (o : Result ⊤ Refusal) (x : Sent) → Alike u x.unit → Alike u (sent_if u o x).unit
  if-alike (Ok tt) x a = a
  if-alike (Err y) x a = alike

  wrote-alike : (bytes : List ℕ) (p : Protection) (w : Result ℕ Unwritten) → p.keys ≡ u.protection.keys → p.window ≡ u.protection.window
      → Alike u (wrote_to u bytes p w).unit
  wrote-alike bytes p (Err why) ek ew = alike
  wrote-alike bytes p (Ok size) ek ew = sent-alike p (sum_of bytes) ek ew

  protected-alike : (content : Content) (body : List ℕ) (room : ℕ) → Alike u (protected_sent u content body room).unit
  unfolding protected_sent wrote_by
  protected-alike content body room =
      told (ltb 65535 u.protection.protected) (ltb room (length (next_record u.protection FromUnit content body)))
    where
      told : (a b : Bool)
          → let v = pick a (writing (Err W.Spent) u.protection) (pick b (writing (Err W.NoRoom) u.protection) (writing (Ok (length (next_record u.protection FromUnit content body))) (counted_on u.protection))) in
          Alike u (wrote_to u (next_record u.protection FromUnit content body) v.protection v.wrote).unit
      told true b = alike
      told false true = alike
      told false false = sent-alike (counted_on u.protection) (sum_of (next_record u.protection FromUnit content body)) refl refl

  clear-alike : (body : List ℕ) (room : ℕ) → Alike u (clear_sent u body room).unit
  unfolding clear_sent
  clear-alike body room =
      pick-alike (ltb 65535 u.protection.clear) (unsent u X.Spent)
      (pick (leb (length (next_clear u body)) room) (done_with (length (next_clear u body)) (with_sent u (clear_on u.protection) (sum_of (next_clear u body)))) (unsent u X.Room))
      alike
      (pick-alike (leb (length (next_clear u body)) room) (done_with (length (next_clear u body)) (with_sent u (clear_on u.protection) (sum_of (next_clear u body)))) (unsent u X.Room)
      (sent-alike (clear_on u.protection) (sum_of (next_clear u body)) refl refl) alike)

  pub data-alike : (bytes : List ℕ) (room : ℕ) → Alike u (data_sent u bytes room).unit
  unfolding data_sent
  data-alike bytes room =
      let goes = sent_if u (may_protect u.state) (protected_sent u C.Data bytes room) in
      pick-alike (eqb (length bytes) 0) (unsent u X.Argument) (pick (ltb 1300 (length bytes)) (unsent u X.Argument) goes) alike
      (pick-alike (ltb 1300 (length bytes)) (unsent u X.Argument) goes alike
      (if-alike (may_protect u.state) (protected_sent u C.Data bytes room) (protected-alike C.Data bytes room)))

  by_alike : (protected : Bool) (body : List ℕ) (room : ℕ) → Alike u (alert_sent_by u protected body room).unit
  unfolding alert_sent_by
  by_alike true body room = if-alike (may_protect u.state) (protected_sent u C.Alert body room) (protected-alike C.Alert body room)
  by_alike false body room = if-alike (may_clear u.state) (clear_sent u body room) (clear-alike body room)

  as-alike : (protected : Bool) (answered : List ℕ) (room : ℕ) (g : Option Level) (s : Option Description) → Alike u (alert_sent_as u protected answered room g s).unit
  as-alike protected answered room (Some level) (Some description) =
      pick-alike (ltb 1400 (length answered)) (unsent u X.Argument) (alert_sent_by u protected (alert_body level description answered) room) alike
      (by_alike protected (alert_body level description answered) room)
  as-alike protected answered room (Some level) None = alike
  as-alike protected answered room None (Some description) = alike
  as-alike protected answered room None None = alike

  pub alert-alike : (protected : Bool) (level description : ℕ) (answered : List ℕ) (room : ℕ)
      → Alike u (alert_sent u protected level description answered room).unit
  unfolding alert_sent
  alert-alike protected level description answered room = as-alike protected answered room (level_of level) (sorted_of description)

  -- what is said again changes nothing
  again-pick : (b : Bool) (n : ℕ) → (pick b (done_with n u) (unsent u X.Room)).unit ≡ u
  again-pick true n = refl
  again-pick false n = refl

  said_same : (bytes : List ℕ) (room : ℕ) → (said_again u bytes room).unit ≡ u
  unfolding said_again
  said_same bytes room = again-pick (leb (length bytes) room) (length bytes)

  again_by : (s : State) (room : ℕ) → (again_in u s room).unit ≡ u
  again_by S.Idle room = refl
  again_by S.Sent room = said_same (hello_said u) room
  again_by S.Replied room = said_same (hello_said u) room
  again_by S.Spec room = said_same (hello_said u) room
  again_by S.Opening room = said_same (flight_of u) room
  again_by S.Open room = refl
  again_by S.Closed room = refl
  again_by S.Barred room = refl

  pub again_same : (room : ℕ) → (again_sent u room).unit ≡ u
  again_same room = again_by u.state room

  -- a hello outside Idle changes nothing
  pick_same : (b : Bool) (x y : Sent) → x.unit ≡ u → y.unit ≡ u → (pick b x y).unit ≡ u
  pick_same true x y ex ey = ex
  pick_same false x y ex ey = ey

  hello-as : (random : List ℕ) (refresh room : ℕ) (n : Option Kinds) (x : Refusal) → may_hello u.state ≡ Err x → (hello_as u random refresh room n).unit ≡ u
  hello-as random refresh room (Some kinds) x e = ap (λ o. (sent_if u o (greeted_with u random (offer_of kinds refresh) room)).unit) e
  hello-as random refresh room None x e = refl

  pub hello-refused : (random macs : List ℕ) (refresh room : ℕ) (x : Refusal) → may_hello u.state ≡ Err x
      → (hello_sent u random macs refresh room).unit ≡ u
  unfolding hello_sent
  hello-refused random macs refresh room x e =
      pick_same (eqb (length random) 16)
      (pick (ltb 255 refresh) (unsent u X.Argument) (hello_as u random refresh room (kinds_named macs))) (unsent u X.Argument)
      (pick_same (ltb 255 refresh) (unsent u X.Argument) (hello_as u random refresh room (kinds_named macs)) refl (hello-as random refresh room (kinds_named macs) x e))
      refl

  pub hello-up : Up u.state → (random macs : List ℕ) (refresh room : ℕ) → (hello_sent u random macs refresh room).unit ≡ u
  hello-up (inl e) random macs refresh room = hello-refused random macs refresh room X.NotAllowed (ap may_hello e)
  hello-up (inr e) random macs refresh room = hello-refused random macs refresh room X.NotAllowed (ap may_hello e)

pub sends-change-only : SendsChangeOnly
unfolding SendsChangeOnly
sends-change-only = (data-alike, alert-alike)

pub again-changes-nothing : AgainChangesNothing
unfolding AgainChangesNothing
again-changes-nothing u room = again_same u room
