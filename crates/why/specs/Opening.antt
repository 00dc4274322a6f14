-- The facts of a protected record that is refused (01, "Numbers, window, keys"; 02, "Why was this report dropped?" and "A unit that
-- rebooted").
use Rattle.std.specs.Prelude.{Bool, false, ℕ, ◌-◌, eqb}
use Rattle.digest.specs.Pick.{pick}
use Rattle.digest.specs.Mac.{size_of}
use Rattle.record.specs.Header.{number_of}
use Rattle.record.specs.Keys.{key_number}
use Rattle.record.specs.Window.{held_width}
use Rattle.record.specs.declared.header.Content.{Content}
use Rattle.record.specs.declared.keys.Keys.{Keys}
use Rattle.record.specs.declared.window.Window.{Window}
use Rattle.record.specs.declared.reader.Record.{Record}
use Rattle.connection.specs.Asked.{is_spec}
use Rattle.connection.specs.declared.state.State.{State}
use Rattle.connection.specs.declared.asked.Whom.{Whom}
use Rattle.connection.specs.declared.asked.Whom.TheVariants as A
use Rattle.connection.specs.declared.connection.Connection.{Connection}
use Rattle.why.specs.declared.reason.Under.{Under}
use Rattle.why.specs.declared.reason.Under.TheVariants as U
use Rattle.why.specs.declared.reason.Reason.{Reason}
use Rattle.why.specs.declared.reason.Reason.TheVariants.{Forged, ForgedTwice, TooOld, Repeated}

-- whose keys: those of the open handshake, or of one whose Finished has not come, beside an open one or alone
abbrev pub under_of : Whom → Under
under_of A.Only = U.Started
under_of A.Open = U.Open
under_of A.Started = U.Started
under_of A.Newcomer = U.Started

-- 10: "the highest number and the limit for too old": "at most n - W is too old"
unfoldable pub limit_of : Window → ℕ
limit_of w = w.highest - held_width w.width

abbrev pub too_old_by : Under → ℕ → Window → Reason
too_old_by under number w = TooOld under number w.highest (limit_of w)

-- 11: "the earlier acceptance for repeated": the mark of the number, counted back from that of the highest
abbrev pub repeated_by : Under → ℕ → Window → Reason
repeated_by under number w = Repeated under number w.highest (w.highest - number)

-- 9: the number that the key was derived for, and the size of the code
abbrev pub key_for : Keys → Record → ℕ
key_for keys r = key_number keys.refresh r.number

abbrev pub forged_once : Keys → Record → Reason
forged_once keys r = Forged r.number r.size (key_for keys r) (size_of keys.mac)

abbrev pub forged_twice : Keys → Keys → Record → Reason
forged_twice started opened r =
    ForgedTwice r.number r.size (key_for started r) (size_of started.mac) (key_for opened r) (size_of opened.mac)

-- "A protected handshake record is tried under the started one first, once its change cipher spec has come, then under the open one"
abbrev pub both_tried : State → Whom → Content → Bool
both_tried started A.Only content = false
both_tried started A.Open content = pick (eqb (number_of content) 3) (is_spec started) false
both_tried started A.Started content = false
both_tried started A.Newcomer content = false

-- the keys of the handshake that was asked, or both
unfoldable pub forged_by : Connection → Whom → Keys → Record → Reason
forged_by c whom asked r =
    pick (both_tried c.started.state whom r.content)
    (forged_twice c.started.protection.keys c.handshake.protection.keys r)
    (forged_once asked r)
