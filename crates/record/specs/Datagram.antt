-- The walk over a whole datagram (01, "The record on the wire" and "Refusal numbers").
use Rattle.std.specs.Prelude.{◌≡◌, false, List, [], ◌∷◌, ◌++◌, ℕ, zero, suc, ◌+◌, ◌-◌, length, drop, replicate, eqb, ltb, Err, Ok, Result}
use Rattle.digest.specs.Pick.{pick}
use Rattle.record.specs.Reader.{read_of}
use Rattle.record.specs.declared.header.Content.TheVariants.{ChangeCipherSpec}
use Rattle.record.specs.declared.reader.Record.{Record}
use Rattle.record.specs.declared.reader.Fault.{Fault}
use Rattle.record.specs.declared.reader.Fault.TheVariants as F
use Rattle.record.specs.declared.datagram.Misframed.{Misframed}
use Rattle.record.specs.declared.datagram.Walk.{Walk}

-- the framing of a datagram: its records, or the fault and the offset of the record at fault
pub data Framing : Type 0 where
  framed : List Record → Framing
  faulty : Fault → ℕ → Framing

-- the record, with its start in the datagram
abbrev pub placed_at : Record → ℕ → Record
placed_at r at =
    record { byte = r.byte; content = r.content; protected = r.protected; number = r.number; start = at; head = r.head; size = r.size; used = r.used }

-- records that stand in front of others; a fault stays one
abbrev pub after : List Record → Framing → Framing
after rs (framed more) = framed (rs ++ more)
after rs (faulty fault at) = faulty fault at

-- the record at the front and then the rest, or the fault of the record that begins at `at`
abbrev pub ahead : ℕ → Result Record Fault → (Record → Framing) → Framing
ahead at (Err fault) rest = faulty fault at
ahead at (Ok r) rest = after (placed_at r at ∷ []) (rest r)

-- The records of s, which begins at `at` and may have `room` records. Where no byte is left there is no record; where one
-- is left and there is no room, "a ninth record begins" (5); else the record at the front is read (3, 2, 4), and "each
-- later record is handed on as the part of the datagram where it begins".
unfoldable pub framing_from : ℕ → ℕ → List ℕ → Framing
framing_from zero at s = pick (eqb (length s) 0) (framed []) (faulty F.Ninth at)
framing_from (suc room) at s =
    pick (eqb (length s) 0) (framed [])
    (ahead at (read_of s) (λ r. framing_from room (at + r.used) (drop r.used s)))

-- 1: "datagram of 0 or over 1,400 bytes"; "a datagram is 1 to 1,400 bytes and 1 to 8 records"
unfoldable pub framing_of : List ℕ → Framing
framing_of d = pick (eqb (length d) 0) (faulty F.Size 0) (pick (ltb 1400 (length d)) (faulty F.Size 0) (framing_from 8 0 d))

-- what stands in a place with no record
abbrev pub blank : Record
blank =
    record { byte = 0; content = ChangeCipherSpec; protected = false; number = 0; start = 0; head = 0; size = 0; used = 0 }

-- a datagram that is refused as a whole
abbrev pub misframed_at : Fault → ℕ → Result Walk Misframed
misframed_at fault at = Err (record { fault = fault; at = at })

-- the records, and blank places after them, eight in all
unfoldable pub found_all : List Record → Walk
found_all rs = record { count = length rs; records = rs ++ replicate (8 - length rs) blank }

-- a framing as the answer of the walk
abbrev pub answered : Framing → Result Walk Misframed
answered (framed rs) = Ok (found_all rs)
answered (faulty fault at) = misframed_at fault at

abbrev pub walk_of : List ℕ → Result Walk Misframed
walk_of d = answered (framing_of d)

-- The records lie one behind the other from `at` on, each read from the part of d where it begins, and end where d ends:
-- inside the datagram, in order, without overlap, and covering it exactly.
unfoldable pub CoversFrom : List ℕ → ℕ → List Record → Type 0
CoversFrom d at [] = at ≡ length d
CoversFrom d at (r ∷ rs) =
    (r.start ≡ at) × ((read_of (drop at d) ≡ Ok (placed_at r 0)) × CoversFrom d (at + r.used) rs)
