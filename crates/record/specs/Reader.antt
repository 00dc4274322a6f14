-- One record at the front of a list of bytes (002 9.2.1; 01, "The record on the wire" and "Refusal numbers").
use Rattle.std.specs.Prelude.{List, ℕ, ◌+◌, ◌-◌, ◌*◌, length, get_or, eqb, ltb, Err, Ok, Result}
use Rattle.record.specs.declared.reader.Record.{Record}
use Rattle.digest.specs.Pick.{pick}
use Rattle.record.specs.Header.{kind_of, sound_kind, content_of}
use Rattle.record.specs.declared.header.Kind.{Kind}
use Rattle.record.specs.declared.reader.Fault.{Fault}
use Rattle.record.specs.declared.reader.Fault.TheVariants as F

-- the refusal number of a framing fault
abbrev pub fault_number : Fault → ℕ
fault_number F.Size = 1
fault_number F.Header = 2
fault_number F.Kind = 3
fault_number F.Fragment = 4
fault_number F.Ninth = 5

-- the number that the two bytes from place i on spell, big-endian
abbrev pub pair_at : List ℕ → ℕ → ℕ
pair_at s i = get_or s i 0 * 256 + get_or s (i + 1) 0

-- how many bytes the header has: type byte, sequence number, "the length (2 bytes, if present)"
abbrev pub head_of : Kind → ℕ
head_of kind = pick kind.long 5 3

-- the fragment's length as stated; "without a length the fragment is the rest of the datagram"
abbrev pub size_of : List ℕ → Kind → ℕ
size_of s kind = pick kind.long (pair_at s 3) (length s - 3)

-- 4: "length past the end, or empty fragment"; else the record
unfoldable pub framed_of : ℕ → Kind → ℕ → ℕ → ℕ → ℕ → Result Record Fault
framed_of byte kind number head size left =
    pick (eqb size 0) (Err F.Fragment)
    (pick (ltb left size) (Err F.Fragment)
    (Ok record { byte = byte; content = content_of kind.content; protected = kind.protected; number = number; start = 0; head = head; size = size; used = head + size }))

-- 3, then 2: "the header's fields pass the end", then 4
unfoldable pub read_as : List ℕ → ℕ → Kind → Result Record Fault
read_as s byte kind =
    pick (sound_kind kind)
    (pick (ltb (length s) (head_of kind)) (Err F.Header)
    (framed_of byte kind (pair_at s 1) (head_of kind) (size_of s kind) (length s - head_of kind)))
    (Err F.Kind)

-- the record at the front; where there is no type byte, the header passes the end
unfoldable pub read_of : List ℕ → Result Record Fault
read_of s = pick (eqb (length s) 0) (Err F.Header) (read_as s (get_or s 0 0) (kind_of (get_or s 0 0)))
