-- The unit's state table (02, P7; 002 7.1 and B.4).
use Rattle.std.specs.Prelude.{Bool, true, false, ℕ, eqb}
use Rattle.digest.specs.Pick.{pick}
use Rattle.record.specs.declared.header.Content.{Content}
use Rattle.record.specs.declared.header.Content.TheVariants as C
use Rattle.unit.specs.declared.state.State.{State}
use Rattle.unit.specs.declared.state.State.TheVariants.{Idle, Sent, Replied, Spec, Opening, Open, Closed, Barred}
use Rattle.unit.specs.declared.state.Kind.{Kind}
use Rattle.unit.specs.declared.state.Kind.TheVariants.{ClearHello, ClearRequest, ClearChange, ClearAlert, OtherClear, ProtectedChange, ProtectedAlert, ProtectedHandshake, ProtectedData}
use Rattle.unit.specs.declared.state.Rule.{Rule}
use Rattle.unit.specs.declared.state.Rule.TheVariants.{Ended, NotAllowed, Agree, Request, Change, Hear, Unprotect}

-- What a record is, by its content, whether it is protected, and the first byte of its fragment: server_hello(2), hello_request(0).
abbrev pub kind_of : Content → Bool → ℕ → Kind
kind_of C.ChangeCipherSpec false first = ClearChange
kind_of C.ChangeCipherSpec true first = ProtectedChange
kind_of C.Alert false first = ClearAlert
kind_of C.Alert true first = ProtectedAlert
kind_of C.Handshake false first = pick (eqb first 2) ClearHello (pick (eqb first 0) ClearRequest OtherClear)
kind_of C.Handshake true first = ProtectedHandshake
kind_of C.Data false first = OtherClear
kind_of C.Data true first = ProtectedData

-- "send data, receive data and alerts under the same window rules": in Opening and in Open all four kinds of protected records; of
-- the clear ones only a HelloRequest
abbrev pub opened_rule : Kind → Rule
opened_rule ClearHello = NotAllowed
opened_rule ClearRequest = Request
opened_rule ClearChange = NotAllowed
opened_rule ClearAlert = NotAllowed
opened_rule OtherClear = NotAllowed
opened_rule ProtectedChange = Unprotect
opened_rule ProtectedAlert = Unprotect
opened_rule ProtectedHandshake = Unprotect
opened_rule ProtectedData = Unprotect

-- The table: what is done with a record in a state.
abbrev pub rule_of : State → Kind → Rule
rule_of Idle ClearHello = NotAllowed
rule_of Idle ClearRequest = Request
rule_of Idle ClearChange = NotAllowed
rule_of Idle ClearAlert = NotAllowed
rule_of Idle OtherClear = NotAllowed
rule_of Idle ProtectedChange = NotAllowed
rule_of Idle ProtectedAlert = NotAllowed
rule_of Idle ProtectedHandshake = NotAllowed
rule_of Idle ProtectedData = NotAllowed
rule_of Sent ClearHello = Agree
rule_of Sent ClearRequest = Request
rule_of Sent ClearChange = NotAllowed
rule_of Sent ClearAlert = Hear
rule_of Sent OtherClear = NotAllowed
rule_of Sent ProtectedChange = NotAllowed
rule_of Sent ProtectedAlert = NotAllowed
rule_of Sent ProtectedHandshake = NotAllowed
rule_of Sent ProtectedData = NotAllowed
rule_of Replied ClearHello = Agree
rule_of Replied ClearRequest = Request
rule_of Replied ClearChange = Change
rule_of Replied ClearAlert = Hear
rule_of Replied OtherClear = NotAllowed
rule_of Replied ProtectedChange = NotAllowed
rule_of Replied ProtectedAlert = NotAllowed
rule_of Replied ProtectedHandshake = NotAllowed
rule_of Replied ProtectedData = NotAllowed
rule_of Spec ClearHello = Agree
rule_of Spec ClearRequest = Request
rule_of Spec ClearChange = NotAllowed
rule_of Spec ClearAlert = Hear
rule_of Spec OtherClear = NotAllowed
rule_of Spec ProtectedChange = NotAllowed
rule_of Spec ProtectedAlert = Unprotect
rule_of Spec ProtectedHandshake = Unprotect
rule_of Spec ProtectedData = NotAllowed
rule_of Opening kind = opened_rule kind
rule_of Open kind = opened_rule kind
rule_of Closed kind = Ended
rule_of Barred kind = Ended

-- "until the first data or the warning on a repeated Finished arrives"
abbrev pub settled : State → State
settled Idle = Idle
settled Sent = Sent
settled Replied = Replied
settled Spec = Spec
settled Opening = Open
settled Open = Open
settled Closed = Closed
settled Barred = Barred
