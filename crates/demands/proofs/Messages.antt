-- A run of messages is the run of its gathered datagrams: by induction, each message by whether it shows a datagram.
use mathlib.Core.Path.{◌≡◌, refl, sym, ap, ◌∙◌}
use mathlib.Core.Bool.{Bool, true, false}
use mathlib.Core.List.{List, [], ◌∷◌, ◌++◌}
use Prim.Native.Nat.{ℕ}
use Rattle.connection.specs.Receive.{whole_of}
use Rattle.connection.specs.declared.connection.Connection.{Connection}
use Rattle.short.specs.Message.{is_shown, taken_of, heard_of, message_of}
use Rattle.demands.specs.Runs.{Call, step_of, steps_of, final_of}
use Rattle.demands.specs.LeftOut.{LeavesOut}
use Rattle.demands.specs.Messages.{Posted, message, dropping, on_connection, Gathering, gathers, gathering_after, calls_at, calls_in, Link, link_after, link_end, steps_at, steps_in, MessagesRun, MessagesLeaveOut}
use Rattle.demands.proofs.LeftOut.{leaves_out}

-- ---- runs of calls joined

pub final_join : (c : Connection) (xs ys : List Call)
    → final_of step_of c (xs ++ ys) ≡ final_of step_of (final_of step_of c xs) ys
unfolding final_of
final_join c [] ys = refl
final_join c (x ∷ xs) ys = final_join (step_of c x).connection xs ys

pub steps_join : (c : Connection) (xs ys : List Call)
    → steps_of step_of c (xs ++ ys) ≡ steps_of step_of c xs ++ steps_of step_of (final_of step_of c xs) ys
unfolding final_of steps_of
steps_join c [] ys = refl
steps_join c (x ∷ xs) ys = ap (λ zs. step_of c x ∷ zs) (steps_join (step_of c x).connection xs ys)

-- ---- one call

-- the gathering goes its own way
gathering_at : (l : Link) (p : Posted) → (link_after l p).gathering ≡ gathering_after l.gathering p
unfolding message_of taken_of
gathering_at l (message bytes random out) = refl
gathering_at l (dropping reference) = refl
gathering_at l (on_connection call) = refl

-- what a message leaves of the connection, and what it gives, by whether its answer shows a datagram
module _ (c : Connection) (g : Gathering) (bytes random out : List ℕ) where
  abbrev l : Link
  l = record { connection = c; gathering = g }

  abbrev p : Posted
  p = message bytes random out

  connection_shown : (b : Bool) → is_shown (gathers g bytes random out).answer ≡ b
      → (link_after l p).connection ≡ final_of step_of c (calls_at g p)
  unfolding message_of taken_of final_of step_of whole_of
  connection_shown true e = rw e refl
  connection_shown false e = rw e refl

  steps_shown : (b : Bool) → is_shown (gathers g bytes random out).answer ≡ b → steps_at l p ≡ steps_of step_of c (calls_at g p)
  unfolding message_of taken_of heard_of steps_of step_of
  steps_shown true e = rw e refl
  steps_shown false e = rw e refl

connection_at : (l : Link) (p : Posted) → (link_after l p).connection ≡ final_of step_of l.connection (calls_at l.gathering p)
unfolding final_of
connection_at l (message bytes random out) = connection_shown l.connection l.gathering bytes random out (is_shown (gathers l.gathering bytes random out).answer) refl
connection_at l (dropping reference) = refl
connection_at l (on_connection call) = refl

steps_at_lem : (l : Link) (p : Posted) → steps_at l p ≡ steps_of step_of l.connection (calls_at l.gathering p)
unfolding steps_of
steps_at_lem l (message bytes random out) = steps_shown l.connection l.gathering bytes random out (is_shown (gathers l.gathering bytes random out).answer) refl
steps_at_lem l (dropping reference) = refl
steps_at_lem l (on_connection call) = refl

-- ---- the run

connections : (l : Link) (ps : List Posted) → (link_end l ps).connection ≡ final_of step_of l.connection (calls_in l.gathering ps)
unfolding link_end calls_in final_of
connections l [] = refl
connections l (p ∷ ps) =
    connections (link_after l p) ps
    ∙ (λ i. final_of step_of (connection_at l p i) (calls_in (gathering_at l p i) ps))
    ∙ sym (final_join l.connection (calls_at l.gathering p) (calls_in (gathering_after l.gathering p) ps))

steps : (l : Link) (ps : List Posted) → steps_in l ps ≡ steps_of step_of l.connection (calls_in l.gathering ps)
unfolding steps_in calls_in steps_of
steps l [] = refl
steps l (p ∷ ps) =
    (λ i. steps_at_lem l p i ++ steps (link_after l p) ps i)
    ∙ (λ i. steps_of step_of l.connection (calls_at l.gathering p) ++ steps_of step_of (connection_at l p i) (calls_in (gathering_at l p i) ps))
    ∙ sym (steps_join l.connection (calls_at l.gathering p) (calls_in (gathering_after l.gathering p) ps))

pub messages_run : MessagesRun
unfolding MessagesRun
messages_run l ps = record { same_connection = connections l ps; same_steps = steps l ps }

-- demand 3 holds of the gathered datagrams, and the messages leave what they leave
pub messages_leave_out : MessagesLeaveOut
unfolding MessagesLeaveOut LeavesOut
messages_leave_out c is_open g g' ps ps' out =
    let same = leaves_out c c refl is_open (calls_in g ps) (calls_in g' ps') out in (
      ap (λ x. x.handshake) (connections (record { connection = c; gathering = g }) ps) ∙ same.same_open
          ∙ sym (ap (λ x. x.handshake) (connections (record { connection = c; gathering = g' }) ps')),
      same.same_handed,
    )
