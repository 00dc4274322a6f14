-- Demand 3: "Take an open connection, .. and any run of datagrams, up to the first genuine record that closes it or
-- our own closing. .. Leave out every datagram without a genuine record: the data handed out, its order and the
-- connection are the same." 02, P6: it "speaks of the open connection until that replacement; when datagrams are left out, the
-- started handshake, its keys and the kept list of records sent may differ. Genuine means under the open keys; both runs compared
-- end at the first record that is right under the started keys in either."
use Rattle.std.specs.Prelude.{◌≡◌, ◌≢◌, List, [], ◌∷◌, ◌++◌, map, ℕ}
use Rattle.digest.specs.Pick.{pick}
use Rattle.record.specs.declared.reader.Record.{Record}
use Rattle.connection.specs.Answer.{handed_of}
use Rattle.connection.specs.Told.{told_record}
use Rattle.connection.specs.Receive.{end_of}
use Rattle.record.specs.Datagram.{framed, framing_of}
use Rattle.connection.specs.Tally.{counted_of}
use Rattle.connection.specs.declared.answer.Slot.{Slot}
use Rattle.connection.specs.declared.connection.Connection.{Connection}
use Rattle.connection.specs.declared.state.State.{State}
use Rattle.connection.specs.declared.state.State.TheVariants.{Open, Closed}
use Rattle.connection.specs.declared.tally.Tally.{Tally}
use Rattle.demands.specs.Runs.{Call, receive, send_data, send_alert, close, start, Returned, received, sent, called, Gateway, final_of}
use Rattle.record.specs.declared.keys.Keys.{Keys}
use Rattle.demands.specs.Genuine.{Genuine, RecordOf, keys_of}
use Rattle.demands.specs.Asked.{RightBeside}
use Rattle.demands.specs.Acts.{Act, comes, sends, alerts, closes, starts, leaves, behind, acts_in}
use Rattle.demands.specs.Past.{is_data}

-- a datagram without a genuine record
abbrev pub NoneGenuine : Keys → List ℕ → Type 0
NoneGenuine k d = (r : Record) (c : List ℕ) → Genuine k d r c → ⊥

-- ---- record by record

-- an act of such a run: no record that is right under the started keys, and no start again that takes effect, which is one in Closed
abbrev pub GoesOn : Connection → Act → Type 0
GoesOn c (comes random d r) = RightBeside c d r → ⊥
GoesOn c (sends bytes out) = Unit
GoesOn c (alerts protected level description answered out) = Unit
GoesOn c closes = Unit
GoesOn c starts = c.handshake.state ≢ Closed

-- The second list is the first with some records left out, each not genuine under the open keys k; c and e are the connections that
-- the two runs have left so far. They end before the first act that does not go on, in either.
pub data Without (k : Keys) : Connection → Connection → List Act → List Act → Type 0 where
  ends : {c e : Connection} → Without k c e [] []
  both : {c e : Connection} {a : Act} {acts bs : List Act} → GoesOn c a → GoesOn e a
      → Without k (leaves c a) (leaves e a) acts bs → Without k c e (a ∷ acts) (a ∷ bs)
  but : {c e : Connection} {random d : List ℕ} {r : Record} {acts bs : List Act} → RecordOf d r → ((x : List ℕ) → Genuine k d r x → ⊥)
      → GoesOn c (comes random d r) → Without k (leaves c (comes random d r)) e acts bs
      → Without k c e (comes random d r ∷ acts) bs

-- the byte strings that a run hands out, in order
abbrev pub handed_at : Connection → Act → List (List ℕ)
handed_at c (comes random d r) =
    pick (is_data (told_record c random d r).answer) (handed_of d (told_record c random d r).answer ∷ []) []
handed_at c (sends bytes out) = []
handed_at c (alerts protected level description answered out) = []
handed_at c closes = []
handed_at c starts = []

unfoldable pub handed_over : Connection → List Act → List (List ℕ)
handed_over c [] = []
handed_over c (a ∷ acts) = handed_at c a ++ handed_over (leaves c a) acts

-- the same open handshake: state, session, width, keys, window, kept hello and reply, sending numbers
abbrev pub SameOpen : Connection → Connection → Type 0
SameOpen c e = c.handshake ≡ e.handshake

unfoldable pub LeavesOutRecords : Type 0
LeavesOutRecords =
    (c e : Connection) → SameOpen c e → c.handshake.state ≡ Open → (acts bs : List Act) → Without (keys_of c.handshake) c e acts bs
    → SameOpen (behind c acts) (behind e bs) × (handed_over c acts ≡ handed_over e bs)

-- "No datagram without a record genuine under the open keys, or right under the started ones, changes the open handshake."
unfoldable pub Unreplaced : Connection → List Act → Type 0
Unreplaced c [] = Unit
Unreplaced c (comes random d r ∷ acts) = (RightBeside c d r → ⊥) × Unreplaced (leaves c (comes random d r)) acts
Unreplaced c (sends bytes out ∷ acts) = Unreplaced (leaves c (sends bytes out)) acts
Unreplaced c (alerts protected level description answered out ∷ acts) =
    Unreplaced (leaves c (alerts protected level description answered out)) acts
Unreplaced c (closes ∷ acts) = Unreplaced (leaves c closes) acts
Unreplaced c (starts ∷ acts) = Unreplaced (leaves c starts) acts

unfoldable pub OpenKept : Type 0
OpenKept =
    (c : Connection) → c.handshake.state ≡ Open → (random d : List ℕ) (rs : List Record) → framing_of d ≡ framed rs
    → NoneGenuine (keys_of c.handshake) d → Unreplaced c (map (comes random d) rs)
    → (end_of c random d rs).handshake ≡ c.handshake

-- ---- call by call, of any gateway

-- the calls of such a run, in a state: no start again that takes effect
abbrev pub Continues : State → Call → Type 0
Continues s (receive d random out) = Unit
Continues s (send_data bytes out) = Unit
Continues s (send_alert protected level description answered out) = Unit
Continues s close = Unit
Continues s start = s ≢ Closed

-- the second list is the first with some datagrams left out, each without a genuine record; no record of either run is right under
-- the started keys
pub data LeftOut (g : Gateway) (k : Keys) : Connection → Connection → List Call → List Call → Type 0 where
  end : {c e : Connection} → LeftOut g k c e [] []
  stays : {c e : Connection} {call : Call} {calls rest : List Call} → Continues c.handshake.state call
      → Unreplaced c (acts_in call) → Unreplaced e (acts_in call)
      → LeftOut g k (g c call).connection (g e call).connection calls rest → LeftOut g k c e (call ∷ calls) (call ∷ rest)
  left : {c e : Connection} {d random out : List ℕ} {calls rest : List Call} → NoneGenuine k d
      → Unreplaced c (acts_in (receive d random out)) → LeftOut g k (g c (receive d random out)).connection e calls rest
      → LeftOut g k c e (receive d random out ∷ calls) rest

-- the byte strings that a step hands out, in order
unfoldable pub handed_parts : List ℕ → List Slot → List (List ℕ)
handed_parts d [] = []
handed_parts d (slot ∷ slots) =
    pick (is_data slot.answer) (handed_of d slot.answer ∷ handed_parts d slots) (handed_parts d slots)

abbrev pub answers_in : Returned → List Slot
answers_in (received taken answers written) = answers
answers_in (sent outcome written) = []
answers_in (called outcome) = []

abbrev pub datagram_of : Call → List ℕ
datagram_of (receive d random out) = d
datagram_of (send_data bytes out) = []
datagram_of (send_alert protected level description answered out) = []
datagram_of close = []
datagram_of start = []

unfoldable pub handed_by : Gateway → Connection → List Call → List (List ℕ)
handed_by g c [] = []
handed_by g c (call ∷ calls) =
    handed_parts (datagram_of call) (answers_in (g c call).result) ++ handed_by g (g c call).connection calls

-- the tally after a run
abbrev pub tallied_in : Tally → Returned → Tally
tallied_in t (received taken answers written) = counted_of t answers
tallied_in t (sent outcome written) = t
tallied_in t (called outcome) = t

unfoldable pub tallied_by : Gateway → Tally → Connection → List Call → Tally
tallied_by g t c [] = t
tallied_by g t c (call ∷ calls) = tallied_by g (tallied_in t (g c call).result) (g c call).connection calls

-- two tallies that differ at most in forged
pub record ButForged (t u : Tally) : Type 0 where
  pub handed_same : t.handed ≡ u.handed
  pub old_same : t.old ≡ u.old
  pub repeated_same : t.repeated ≡ u.repeated

-- "the data handed out, its order and the connection are the same": the open handshake
pub record SameWithout (g : Gateway) (c e : Connection) (calls rest : List Call) : Type 0 where
  pub same_open : SameOpen (final_of g c calls) (final_of g e rest)
  pub same_handed : handed_by g c calls ≡ handed_by g e rest
  pub same_tally : (t : Tally) → ButForged (tallied_by g t c calls) (tallied_by g t e rest)

unfoldable pub LeavesOut : Gateway → Type 0
LeavesOut g =
    (c e : Connection) → SameOpen c e → c.handshake.state ≡ Open → (calls rest : List Call)
    → LeftOut g (keys_of c.handshake) c e calls rest → SameWithout g c e calls rest
