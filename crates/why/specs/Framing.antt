-- The facts of a framing fault (01, "Refusal numbers" 1 to 5), read from the datagram and from the offset of the record at fault.
use Rattle.std.specs.Prelude.{List, ℕ, ◌-◌, length, drop, get_or}
use Rattle.record.specs.Header.{kind_of}
use Rattle.record.specs.Reader.{head_of, size_of}
use Rattle.record.specs.declared.header.Kind.{Kind}
use Rattle.record.specs.declared.reader.Fault.{Fault}
use Rattle.record.specs.declared.reader.Fault.TheVariants as F
use Rattle.why.specs.declared.reason.Reason.{Reason}
use Rattle.why.specs.declared.reason.Reason.TheVariants.{Size, Header, TypeByte, Fragment, Ninth}

-- what the type byte at the front says
abbrev pub kind_at : List ℕ → Kind
kind_at s = kind_of (get_or s 0 0)

-- s is the part of the datagram where the record at fault begins. "the header's fields pass the end": what is left counts from the
-- type byte; "length past the end, or empty fragment": the length that the header gives, or the rest, and what is left behind it
abbrev pub fault_at : List ℕ → ℕ → List ℕ → Fault → Reason
fault_at d at s F.Size = Size (length d)
fault_at d at s F.Header = Header at (length s) (head_of (kind_at s))
fault_at d at s F.Kind = TypeByte at (get_or s 0 0)
fault_at d at s F.Fragment = Fragment at (size_of s (kind_at s)) (length s - head_of (kind_at s))
fault_at d at s F.Ninth = Ninth at

unfoldable pub fault_reason : List ℕ → ℕ → Fault → Reason
fault_reason d at fault = fault_at d at (drop at d) fault
