-- The state table (01, "Handshake"), and which calls a state allows (01, "Refusal numbers").
use Rattle.std.specs.Prelude.{Bool, true, false, ℕ, eqb}
use Rattle.digest.specs.Pick.{pick}
use Rattle.record.specs.declared.header.Content.{Content}
use Rattle.record.specs.declared.header.Content.TheVariants as C
use Rattle.connection.specs.declared.state.State.{State}
use Rattle.connection.specs.declared.state.State.TheVariants.{Idle, Replied, Spec, Open, Closed, Barred}
use Rattle.connection.specs.declared.state.Kind.{Kind}
use Rattle.connection.specs.declared.state.Kind.TheVariants.{ClearHello, ClearChange, ClearAlert, OtherClear, ProtectedChange, ProtectedAlert, ProtectedHandshake, ProtectedData}
use Rattle.connection.specs.declared.state.Rule.{Rule}
use Rattle.connection.specs.declared.state.Rule.TheVariants.{Ended, NotAllowed, Resend, Greet, GreetAgain, Change, Hear, OpenRecord}

-- What a record is, by its content, whether it is protected, and the first byte of its fragment. "A clear handshake
-- record that begins with byte 1 counts as a ClientHello."
abbrev pub kind_of : Content → Bool → ℕ → Kind
kind_of C.ChangeCipherSpec false first = ClearChange
kind_of C.ChangeCipherSpec true first = ProtectedChange
kind_of C.Alert false first = ClearAlert
kind_of C.Alert true first = ProtectedAlert
kind_of C.Handshake false first = pick (eqb first 1) ClearHello OtherClear
kind_of C.Handshake true first = ProtectedHandshake
kind_of C.Data false first = OtherClear
kind_of C.Data true first = ProtectedData

-- The table: what a handshake does with a record in a state. "Everything else is refused." "In Spec the allowed kinds are
-- handshake and alert; in Open all four." An open handshake knows one ClientHello, "the hello that made the open connection",
-- which "gets its reply bytes again" (02, "A unit that rebooted"); other clear records 8. Which handshake of a connection is
-- asked is told in Asked.antt.
abbrev pub rule_of : State → Kind → Rule
rule_of Idle ClearHello = Greet
rule_of Idle ClearChange = NotAllowed
rule_of Idle ClearAlert = NotAllowed
rule_of Idle OtherClear = NotAllowed
rule_of Idle ProtectedChange = NotAllowed
rule_of Idle ProtectedAlert = NotAllowed
rule_of Idle ProtectedHandshake = NotAllowed
rule_of Idle ProtectedData = NotAllowed
rule_of Replied ClearHello = GreetAgain
rule_of Replied ClearChange = Change
rule_of Replied ClearAlert = Hear
rule_of Replied OtherClear = NotAllowed
rule_of Replied ProtectedChange = NotAllowed
rule_of Replied ProtectedAlert = NotAllowed
rule_of Replied ProtectedHandshake = NotAllowed
rule_of Replied ProtectedData = NotAllowed
rule_of Spec ClearHello = GreetAgain
rule_of Spec ClearChange = NotAllowed
rule_of Spec ClearAlert = Hear
rule_of Spec OtherClear = NotAllowed
rule_of Spec ProtectedChange = NotAllowed
rule_of Spec ProtectedAlert = OpenRecord
rule_of Spec ProtectedHandshake = OpenRecord
rule_of Spec ProtectedData = NotAllowed
rule_of Open ClearHello = Resend
rule_of Open ClearChange = NotAllowed
rule_of Open ClearAlert = NotAllowed
rule_of Open OtherClear = NotAllowed
rule_of Open ProtectedChange = OpenRecord
rule_of Open ProtectedAlert = OpenRecord
rule_of Open ProtectedHandshake = OpenRecord
rule_of Open ProtectedData = OpenRecord
rule_of Closed kind = Ended
rule_of Barred kind = Ended
