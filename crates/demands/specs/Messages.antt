-- Short messages (02, P2: "Demand 3 starts at the gathered datagram"): a run of messages is the run of its gathered datagrams.
-- Which datagrams these are is said by the gathering alone, whatever the connection; and each is received as any other.
use Rattle.std.specs.Prelude.{◌≡◌, List, [], ◌∷◌, ◌++◌, ℕ, length, Option, Some, None}
use Rattle.digest.specs.Pick.{pick}
use Rattle.gather.specs.Gatherer.{Left, drop_of, datagram_of}
use Rattle.gather.specs.declared.gatherer.Gatherer.{Gatherer}
use Rattle.connection.specs.declared.connection.Connection.{Connection}
use Rattle.connection.specs.declared.state.State.TheVariants.{Open}
use Rattle.connection.specs.declared.receive.Received.{Received}
use Rattle.short.specs.Message.{Leaves, is_shown, connection_after, gathered_of, message_of}
use Rattle.demands.specs.Genuine.{keys_of}
use Rattle.demands.specs.Runs.{Call, receive, Step, received_as, step_of, steps_of, final_of}
use Rattle.demands.specs.LeftOut as O

-- the calls of a link whose reports come as short messages: a message, a drop, or a call on the connection
pub data Posted : Type 0 where
  message : (bytes random out : List ℕ) → Posted
  dropping : (reference : ℕ) → Posted
  on_connection : Call → Posted

-- what is kept of the gathering between calls: the gatherer, its store and the assembly buffer
pub record Gathering : Type 0 where
  pub gatherer : Gatherer
  pub store : List ℕ
  pub assembly : List ℕ

-- ---- the gathered datagrams, by the gathering alone

abbrev pub left_by : Left → Gathering
left_by l = record { gatherer = l.gatherer; store = l.store; assembly = l.assembly }

abbrev pub gathers : Gathering → List ℕ → List ℕ → List ℕ → Left
gathers g bytes random out = gathered_of g.gatherer g.store bytes g.assembly random (length out)

abbrev pub gathering_after : Gathering → Posted → Gathering
gathering_after g (message bytes random out) = left_by (gathers g bytes random out)
gathering_after g (dropping reference) =
    record { gatherer = drop_of g.gatherer reference; store = g.store; assembly = g.assembly }
gathering_after g (on_connection call) = g

-- a datagram that is shown is received; nothing else of a message reaches the connection
abbrev pub datagram_in : List ℕ → List ℕ → List ℕ → Left → List Call
datagram_in bytes random out l =
    pick (is_shown l.answer) (receive (datagram_of l.answer bytes l.assembly) random out ∷ []) []

abbrev pub calls_at : Gathering → Posted → List Call
calls_at g (message bytes random out) = datagram_in bytes random out (gathers g bytes random out)
calls_at g (dropping reference) = []
calls_at g (on_connection call) = call ∷ []

unfoldable pub calls_in : Gathering → List Posted → List Call
calls_in g [] = []
calls_in g (p ∷ ps) = calls_at g p ++ calls_in (gathering_after g p) ps

-- ---- the run of messages, by the contracts

pub record Link : Type 0 where
  pub connection : Connection
  pub gathering : Gathering

abbrev pub takes : Link → List ℕ → List ℕ → List ℕ → Leaves
takes l bytes random out =
    message_of l.connection l.gathering.gatherer l.gathering.store bytes l.gathering.assembly random out

abbrev pub link_by : Connection → Leaves → Link
link_by c m =
    record {
      connection = connection_after c m.back.received;
      gathering = record { gatherer = m.gatherer; store = m.store; assembly = m.assembly };
    }

abbrev pub link_after : Link → Posted → Link
link_after l (message bytes random out) = link_by l.connection (takes l bytes random out)
link_after l (dropping reference) = record { connection = l.connection; gathering = gathering_after l.gathering (dropping reference) }
link_after l (on_connection call) = record { connection = (step_of l.connection call).connection; gathering = l.gathering }

unfoldable pub link_end : Link → List Posted → Link
link_end l [] = l
link_end l (p ∷ ps) = link_end (link_after l p) ps

-- what a call gives: of a message, what its datagram got and what the output then holds, where it shows one
abbrev pub step_shown : Option Received → List ℕ → List Step
step_shown None out = []
step_shown (Some received) out = received_as received out ∷ []

abbrev pub shown_step : Leaves → List Step
shown_step m = step_shown m.back.received m.out

abbrev pub steps_at : Link → Posted → List Step
steps_at l (message bytes random out) = shown_step (takes l bytes random out)
steps_at l (dropping reference) = []
steps_at l (on_connection call) = step_of l.connection call ∷ []

unfoldable pub steps_in : Link → List Posted → List Step
steps_in l [] = []
steps_in l (p ∷ ps) = steps_at l p ++ steps_in (link_after l p) ps

-- ---- the statements

-- The run of messages leaves the connection that the run of its gathered datagrams leaves, and gives, message by message, what that
-- gives; the gathering goes its own way.
pub record SameRun (l : Link) (ps : List Posted) : Type 0 where
  pub same_connection : (link_end l ps).connection ≡ final_of step_of l.connection (calls_in l.gathering ps)
  pub same_steps : steps_in l ps ≡ steps_of step_of l.connection (calls_in l.gathering ps)

unfoldable pub MessagesRun : Type 0
MessagesRun = (l : Link) (ps : List Posted) → SameRun l ps

-- Demand 3 for short messages: two runs of messages on one open connection, whose gathered datagrams are the same but for some
-- without a genuine record, leave the same open handshake; and what they hand out is the same, in the same order. As in `LeftOut`, no
-- record of either is right under the started keys.
unfoldable pub MessagesLeaveOut : Type 0
MessagesLeaveOut =
    (c : Connection) → c.handshake.state ≡ Open
    → (g g' : Gathering) (ps ps' : List Posted)
    → O.LeftOut step_of (keys_of c.handshake) c c (calls_in g ps) (calls_in g' ps')
    → O.SameOpen (link_end (record { connection = c; gathering = g }) ps).connection
    (link_end (record { connection = c; gathering = g' }) ps').connection
    × (O.handed_by step_of c (calls_in g ps) ≡ O.handed_by step_of c (calls_in g' ps'))
