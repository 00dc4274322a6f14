-- The bytes of a slot's parts, and what is said of them without the gatherer: of a part whose place is held, and which datagram
-- an answer shows.
use Rattle.std.specs.Prelude.{List, [], ℕ, ◌+◌, ◌-◌, ◌*◌, take, drop, Result, Ok, Err}
use Rattle.digest.specs.Pick.{pick}
use Rattle.digest.specs.Mac.{same_bytes}
use Rattle.gather.specs.Slot.{count_of, below}
use Rattle.gather.specs.declared.slot.Slot.{Slot}
use Rattle.gather.specs.declared.header.Ports.{Ports}
use Rattle.gather.specs.declared.refusal.Refusal.{Refusal}
use Rattle.gather.specs.declared.refusal.Refusal.TheVariants as R
use Rattle.gather.specs.declared.gatherer.Answer.{Answer}
use Rattle.gather.specs.declared.gatherer.Answer.TheVariants.{Waiting, Received, Gathered}

-- ---- the bytes

-- of slot k's part of the store, the bytes from one number up to another
abbrev pub kept : List ℕ → ℕ → ℕ → ℕ → List ℕ
kept store k from end = take (end - from) (drop (k * 1400 + from) store)

-- the bytes that stand below place i of a slot, those in it, and those above it
abbrev pub lower : List ℕ → ℕ → Slot → ℕ → List ℕ
lower store k s i = kept store k 0 (below s i)

abbrev pub within : List ℕ → ℕ → Slot → ℕ → List ℕ
within store k s i = kept store k (below s i) (below s (i + 1))

abbrev pub upper : List ℕ → ℕ → Slot → ℕ → List ℕ
upper store k s i = kept store k (below s i) (below s 11)

-- ---- what is said of them

-- a part whose place is held
unfoldable pub again_of : ℕ → Slot → ℕ → List ℕ → List ℕ → Ports → Result Answer Refusal
again_of k s i store part ports =
    pick (same_bytes (within store k s i) part) (Ok (Waiting ports s.reference (count_of s.sizes) s.total)) (Err R.Differs)

-- "the datagram is a part of the one or of the other"
abbrev pub datagram_of : Result Answer Refusal → List ℕ → List ℕ → List ℕ
datagram_of (Ok (Received ports start)) message assembly = drop start message
datagram_of (Ok (Gathered ports size)) message assembly = take size assembly
datagram_of (Ok (Waiting ports reference have total)) message assembly = []
datagram_of (Err refusal) message assembly = []
