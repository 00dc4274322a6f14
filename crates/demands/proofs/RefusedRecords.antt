-- A refused record and the connection: the handshake that is asked is left as `Changes` has it, and its state says what is left of both.
use mathlib.Core.Path.{◌≡◌, refl, ◌∙◌, ap}
use mathlib.Core.Bool.{Bool, true, false}
use mathlib.Core.Logic.{inl, inr}
use mathlib.Core.List.{List}
use Prim.Native.Nat.{ℕ}
use lib.Dec.{eqb}
use Rattle.digest.specs.Pick.{pick}
use Rattle.record.specs.Window.{accept_of}
use Rattle.record.specs.declared.reader.Record.{Record}
use Rattle.record.specs.declared.reader.Fault.TheVariants as F
use Rattle.record.specs.declared.window.NotNew.TheVariants as A
use Rattle.connection.specs.Refusal.{refusal_number}
use Rattle.connection.specs.Handshake.{newcomer_to, none_started}
use Rattle.connection.specs.Connection.{connection_of}
use Rattle.connection.specs.Asked.{under_way, whom_of, asked_of}
use Rattle.connection.specs.Told.{beside_open, started_to, left_with, sent_after, judged_in, told_record}
use Rattle.connection.specs.declared.state.State.{State}
use Rattle.connection.specs.declared.state.State.TheVariants as S
use Rattle.connection.specs.declared.refusal.Refusal.{Refusal}
use Rattle.connection.specs.declared.refusal.Refusal.TheVariants as X
use Rattle.connection.specs.declared.asked.Whom.{Whom}
use Rattle.connection.specs.declared.asked.Whom.TheVariants as K
use Rattle.connection.specs.declared.handshake.Handshake.{Handshake}
use Rattle.connection.specs.declared.connection.Connection.{Connection}
use Rattle.demands.specs.Table.{Hears}
use Rattle.demands.specs.Asked.{AskedHolds, Asks, asks_only, asks_its_hello, asks_open_hello, asks_new_hello, asks_clear, asks_clear_alone, asks_right, asks_protected}
use Rattle.demands.specs.Refusals.{marked_as, refused_leaves, unless17, refused_in, RefusedRecordChangesNothing, RefusedRecordInConnection}
use Rattle.demands.proofs.Asked.{asked_holds}
use Rattle.demands.proofs.Changes.{refused_record}
use Rattle.std.specs.Prelude.{Err, Ok, Result}
use Rattle.record.specs.declared.window.NotNew.{NotNew}
use Rattle.record.specs.declared.window.Window.{Window}

marked_state : (h : Handshake) (a : Result (Window × ℕ) NotNew) → (marked_as h a).state ≡ h.state
marked_state h (Ok (w, arrived)) = refl
marked_state h (Err A.TooOld) = refl
marked_state h (Err A.Repeated) = refl

-- 17 closes, and no other refusal changes the state
after17 : Refusal → State → State
after17 x s = pick (eqb (refusal_number x) 17) S.Closed s

state_left : (h : Handshake) (protected : Bool) (s : ℕ) (x : Refusal) → (refused_leaves h protected s x).state ≡ after17 x h.state
unfolding after17
state_left h protected s (X.Framing F.Size) = refl
state_left h protected s (X.Framing F.Header) = refl
state_left h protected s (X.Framing F.Kind) = refl
state_left h protected s (X.Framing F.Fragment) = refl
state_left h protected s (X.Framing F.Ninth) = refl
state_left h protected s X.Room = refl
state_left h protected s X.Ended = refl
state_left h protected s X.NotAllowed = refl
state_left h protected s X.Forged = refl
state_left h protected s X.TooOld = refl
state_left h protected s X.Repeated = refl
state_left h true s X.Malformed = marked_state h (accept_of h.protection.window s)
state_left h false s X.Malformed = refl
state_left h protected s X.Unacceptable = refl
state_left h protected s X.Checksum = refl
state_left h protected s X.Spent = refl
state_left h protected s X.Argument = refl
state_left h protected s X.WrongFinished = refl

-- by the state that the one which was asked had
open_left : (started : Handshake) (x : Refusal) → beside_open started (after17 x S.Open) ≡ unless17 x started
unfolding after17
open_left started x = told (eqb (refusal_number x) 17)
  where
    told : (b : Bool) → beside_open started (pick b S.Closed S.Open) ≡ pick b none_started started
    told true = refl
    told false = refl

started_left : (c : Connection) (h : Handshake) (x : Refusal) (s : State) → Hears s
    → started_to c h c.sent (after17 x s) ≡ connection_of c.handshake (unless17 x h) c.sent
unfolding after17
started_left c h x s (inl e) = ap (λ t. started_to c h c.sent (after17 x t)) e ∙ told (eqb (refusal_number x) 17)
  where
    told : (b : Bool) → started_to c h c.sent (pick b S.Closed S.Replied) ≡ connection_of c.handshake (pick b none_started h) c.sent
    told true = refl
    told false = refl
started_left c h x s (inr e) = ap (λ t. started_to c h c.sent (after17 x t)) e ∙ told (eqb (refusal_number x) 17)
  where
    told : (b : Bool) → started_to c h c.sent (pick b S.Closed S.Spec) ≡ connection_of c.handshake (pick b none_started h) c.sent
    told true = refl
    told false = refl

none_left : (x : Refusal) → under_way (after17 x S.Idle) ≡ false
unfolding after17
none_left x = told (eqb (refusal_number x) 17)
  where
    told : (b : Bool) → under_way (pick b S.Closed S.Idle) ≡ false
    told true = refl
    told false = refl

module _ (c : Connection) (d : List ℕ) (r : Record) (x : Refusal) where
  left : Handshake → Handshake
  left h = refused_leaves h r.protected r.number x

  open_place : c.handshake.state ≡ S.Open
      → connection_of (left c.handshake) (beside_open c.started (left c.handshake).state) c.sent
      ≡ refused_in c K.Open r.protected r.number x
  unfolding left
  open_place o =
      ap (λ t. connection_of (left c.handshake) (beside_open c.started t) c.sent) (state_left c.handshake r.protected r.number x ∙ ap (after17 x) o)
      ∙ ap (λ b. connection_of (left c.handshake) b c.sent) (open_left c.started x)

  started_place_lem : Hears c.started.state
      → started_to c (left c.started) c.sent (left c.started).state ≡ refused_in c K.Started r.protected r.number x
  unfolding left
  started_place_lem o =
      ap (started_to c (left c.started) c.sent) (state_left c.started r.protected r.number x)
      ∙ started_left c (left c.started) x c.started.state o

  newcomer_place : connection_of c.handshake (pick (under_way (left (newcomer_to c.handshake)).state) (left (newcomer_to c.handshake)) c.started) c.sent ≡ c
  unfolding left
  newcomer_place =
      ap (λ b. connection_of c.handshake (pick b (left (newcomer_to c.handshake)) c.started) c.sent)
      (ap under_way (state_left (newcomer_to c.handshake) r.protected r.number x) ∙ none_left x)

  by_whom : (w : Whom) → Asks c d r w → left_with c (left (asked_of c w)) c.sent w ≡ refused_in c w r.protected r.number x
  unfolding left
  by_whom K.Only (asks_only n) = refl
  by_whom K.Open (asks_open_hello o i f n k) = open_place o
  by_whom K.Open (asks_protected o p n) = open_place o
  by_whom K.Started (asks_its_hello o i f h k) = started_place_lem h
  by_whom K.Started (asks_clear o p n h) = started_place_lem h
  by_whom K.Started (asks_right b) = started_place_lem (inr b.in_spec)
  by_whom K.Newcomer (asks_new_hello o i f n k) = newcomer_place
  by_whom K.Newcomer (asks_clear_alone o p n h) = newcomer_place

pub refused_record_in : RefusedRecordInConnection
unfolding RefusedRecordInConnection RefusedRecordChangesNothing AskedHolds told_record judged_in left
refused_record_in c random d r x e =
    let w = whom_of c d r in
    let h = refused_record (asked_of c w) c.sent random d r x e in
    (λ i. left_with c (h i) (sent_after c.sent (h i).kept (e i)) w)
    ∙ by_whom c d r x w ((asked_holds c d r w).0 refl)
