-- The facts of a hello that is refused (02, "Why was this report dropped?": "the first condition that failed for a hello").
use Rattle.std.specs.Prelude.{List, ℕ, ◌+◌, ◌-◌, length, ltb, Err, Ok, Result}
use Rattle.message.specs.declared.acceptance.Plan.{Plan}
use Rattle.message.specs.declared.acceptance.Unheard.{Unheard}
use Rattle.digest.specs.Pick.{pick}
use Rattle.message.specs.Hello.{read_of}
use Rattle.message.specs.Set.{place}
use Rattle.message.specs.Acceptance.{heard_of}
use Rattle.message.specs.declared.hello.Place.{Place}
use Rattle.message.specs.declared.hello.Hello.{Hello}
use Rattle.message.specs.declared.hello.Field.{Field}
use Rattle.message.specs.declared.hello.Field.TheVariants as F
use Rattle.message.specs.declared.acceptance.Condition.{Condition}
use Rattle.message.specs.declared.acceptance.Condition.TheVariants as C
use Rattle.message.specs.declared.acceptance.Unheard.TheVariants as H
use Rattle.why.specs.declared.reason.Reason.{Reason}
use Rattle.why.specs.declared.reason.Reason.TheVariants.{Unacceptable}

-- 12: the first field at fault, reading from the front. The size of the whole comes first (01: "a ClientHello message is at most 256
-- bytes"), then the header. Of a well-formed hello none is: the end stands for that.
abbrev pub fault_in : Result Hello Field → Field
fault_in (Ok hello) = F.Rest
fault_in (Err fault) = fault

unfoldable pub field_of : List ℕ → Field
field_of m = pick (ltb 256 (length m)) F.Size (fault_in (read_of m))

-- 13: the first condition that fails, in 01's order. Of another hello none does: the last stands for that.
abbrev pub condition_in : Result Plan Unheard → Condition
condition_in (Ok plan) = C.Numbering
condition_in (Err (H.Unacceptable condition)) = condition
condition_in (Err (H.Malformed fault)) = C.Numbering

-- where the bytes of a condition's field stand in the message
abbrev pub field_for : Hello → Condition → Place
field_for hello C.Version = hello.version
field_for hello C.SessionId = hello.session
field_for hello C.CipherSuite = hello.suites
field_for hello C.Compression = hello.methods
field_for hello C.Numbering = hello.numbering

abbrev pub place_in : Result Hello Field → Condition → Place
place_in (Ok hello) condition = field_for hello condition
place_in (Err fault) condition = place 0 0

-- and in the datagram, in which the message stands at `at`
abbrev pub unacceptable_at : ℕ → Condition → Place → Reason
unacceptable_at at condition there = Unacceptable condition (at + there.from) (there.end - there.from)

abbrev pub unmet_by : ℕ → Result Hello Field → Condition → Reason
unmet_by at reading condition = unacceptable_at at condition (place_in reading condition)

-- "with what the hello had"
unfoldable pub unmet_of : ℕ → List ℕ → List ℕ → Reason
unmet_of at m planted = unmet_by at (read_of m) (condition_in (heard_of m planted))
