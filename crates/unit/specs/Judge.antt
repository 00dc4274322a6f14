-- The judgement of one record (02, P7: "the reply's records are checked from the front, each in document 01's order"; 01: "Per
-- record: 7; then place and state; then code and window; then content").
use Rattle.std.specs.Prelude.{Bool, false, List, ℕ, ◌+◌, get_or, eqb}
use Rattle.digest.specs.Pick.{pick}
use Rattle.record.specs.declared.protection.Protection.{Protection}
use Rattle.record.specs.declared.reader.Record.{Record}
use Rattle.connection.specs.Judge.{fragment_of}
use Rattle.connection.specs.declared.sent.SentRecords.{SentRecords}
use Rattle.connection.specs.declared.refusal.Refusal.TheVariants.{Ended, NotAllowed}
use Rattle.unit.specs.State.{kind_of, rule_of}
use Rattle.unit.specs.Step.{refusing}
use Rattle.unit.specs.Clear.{changed_by, heard_alert, requested_by}
use Rattle.unit.specs.Protected.{unprotected_by}
use Rattle.unit.specs.Unit.{left_by}
use Rattle.unit.specs.Agree.{agreed_by, judged}
use Rattle.unit.specs.declared.state.State.{State}
use Rattle.unit.specs.declared.state.Kind.{Kind}
use Rattle.unit.specs.declared.state.Rule.{Rule}
use Rattle.unit.specs.declared.state.Rule.TheVariants as T
use Rattle.unit.specs.declared.step.Step.{Step}
use Rattle.unit.specs.declared.agree.Judged.{Judged}
use Rattle.unit.specs.declared.unit.Unit.{Unit}

-- a ServerHello stands only first in its datagram (01 of a ClientHello, mirrored)
abbrev pub agrees : Rule → ℕ → Bool
agrees T.Ended start = false
agrees T.NotAllowed start = false
agrees T.Agree start = eqb start 0
agrees T.Request start = false
agrees T.Change start = false
agrees T.Hear start = false
agrees T.Unprotect start = false

-- the step of any other record; a ServerHello in a later place is 8
unfoldable pub step_by : SentRecords → Protection → List ℕ → State → Rule → Kind → ℕ → ℕ → ℕ → List ℕ → Step
step_by sent p expected state T.Ended kind byte number at fragment = refusing p.window Ended
step_by sent p expected state T.NotAllowed kind byte number at fragment = refusing p.window NotAllowed
step_by sent p expected state T.Agree kind byte number at fragment = refusing p.window NotAllowed
step_by sent p expected state T.Request kind byte number at fragment = requested_by state p.window fragment
step_by sent p expected state T.Change kind byte number at fragment = changed_by p.window fragment
step_by sent p expected state T.Hear kind byte number at fragment = heard_alert sent p.window fragment
step_by sent p expected state T.Unprotect kind byte number at fragment =
    unprotected_by p expected state kind byte number at fragment

abbrev pub stepped_by : Unit → Step → Judged
stepped_by u step = judged step.answer (left_by u step)

-- what a rule of the table does
unfoldable pub ruled_by : Unit → Rule → Kind → ℕ → ℕ → ℕ → ℕ → List ℕ → Judged
ruled_by u rule kind byte number start at fragment =
    pick (agrees rule start) (agreed_by u fragment)
    (stepped_by u (step_by u.sent u.protection u.expected u.state rule kind byte number at fragment))

-- what a record is
abbrev pub kind_in : List ℕ → Record → Kind
kind_in d r = kind_of r.content r.protected (get_or (fragment_of d r) 0 0)

-- the answer to a record and the unit that it leaves
unfoldable pub judged_record : Unit → List ℕ → Record → Judged
judged_record u d r =
    ruled_by u (rule_of u.state (kind_in d r)) (kind_in d r) r.byte r.number r.start (r.start + r.head) (fragment_of d r)
