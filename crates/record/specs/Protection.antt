-- Opening and writing protected records (01, "The record on the wire" and "Numbers, window, keys"; 002 9.2.3.1, 9.2.3.2, 11.2), over
-- the sense of travel.
use Rattle.std.specs.Prelude.{Bool, false, List, ℕ, ◌+◌, ◌-◌, length, take, ltb, Err, Ok, Result}
use Rattle.record.specs.declared.protection.Unopened.{Unopened}
use Rattle.record.specs.declared.protection.Unwritten.{Unwritten}
use Rattle.record.specs.declared.window.NotNew.{NotNew}
use Rattle.digest.specs.Pick.{pick}
use Rattle.digest.specs.Hmac.{hmac}
use Rattle.digest.specs.Mac.{size_of}
use Rattle.record.specs.Keys.{secret_for}
use Rattle.record.specs.Code.{genuine_by, protected_by}
use Rattle.record.specs.Window.{accept_of}
use Rattle.record.specs.Written.{written_of}
use Rattle.record.specs.declared.header.Content.{Content}
use Rattle.record.specs.declared.keys.Keys.{Keys}
use Rattle.record.specs.declared.keys.Sense.{Sense}
use Rattle.record.specs.declared.window.Window.{Window}
use Rattle.record.specs.declared.window.NotNew.TheVariants as A
use Rattle.record.specs.declared.protection.Protection.{Protection}
use Rattle.record.specs.declared.protection.Unopened.TheVariants as O
use Rattle.record.specs.declared.protection.Opening.{Opening}
use Rattle.record.specs.declared.protection.Writing.{Writing}
use Rattle.record.specs.declared.protection.Unwritten.TheVariants as W

-- one change each
abbrev pub with_window : Protection → Window → Protection
with_window p window = record { keys = p.keys; window = window; protected = p.protected; clear = p.clear }

abbrev pub counted_on : Protection → Protection
counted_on p = record { keys = p.keys; window = p.window; protected = p.protected + 1; clear = p.clear }

-- the code is right under the key for the record's own number
abbrev pub genuine_under : Keys → Sense → ℕ → ℕ → List ℕ → Bool
genuine_under k sense number byte fragment =
    genuine_by (hmac (secret_for k sense number)) (size_of k.mac) number byte fragment

-- "Protected fragment: content, then the code."
abbrev pub content_size : Keys → List ℕ → ℕ
content_size k fragment = length fragment - size_of k.mac

abbrev pub content_under : Keys → List ℕ → List ℕ
content_under k fragment = take (content_size k fragment) fragment

abbrev pub opening : Result ℕ Unopened → Protection → Opening
opening opened p = record { opened = opened; protection = p }

-- a size of content with the window to keep, or why there is none
abbrev pub opening_by : Protection → Result (ℕ × Window) Unopened → Opening
opening_by p (Err why) = opening (Err why) p
opening_by p (Ok (size, window)) = opening (Ok size) (with_window p window)

-- a number that is not new is told as it is
abbrev pub unopened_of : NotNew → Unopened
unopened_of A.TooOld = O.TooOld
unopened_of A.Repeated = O.Repeated

-- "A genuine new record marks its number even if its content is then refused."
abbrev pub opened_to : Protection → ℕ → Result (Window × ℕ) NotNew → Opening
opened_to p size (Err A.TooOld) = opening (Err O.TooOld) p
opened_to p size (Err A.Repeated) = opening (Err O.Repeated) p
opened_to p size (Ok (window, arrived)) = opening (Ok size) (with_window p window)

-- "checked in this order: code, too old, repeated"
unfoldable pub opened_by : Protection → Sense → ℕ → ℕ → List ℕ → Opening
opened_by p sense number byte fragment =
    pick (genuine_under p.keys sense number byte fragment)
    (opened_to p (content_size p.keys fragment) (accept_of p.window number))
    (opening (Err O.Forged) p)

-- the record with this number, under the key of that number, without a length
unfoldable pub record_under : Keys → Sense → Content → ℕ → List ℕ → List ℕ
record_under k sense content number body =
    protected_by (hmac (secret_for k sense number)) (size_of k.mac) false content number body

-- the next one
abbrev pub next_record : Protection → Sense → Content → List ℕ → List ℕ
next_record p sense content body = record_under p.keys sense content p.protected body

abbrev pub wrote_size : Result ℕ Unwritten → ℕ
wrote_size (Err W.Spent) = 0
wrote_size (Err W.NoRoom) = 0
wrote_size (Ok size) = size

abbrev pub writing : Result ℕ Unwritten → Protection → Writing
writing wrote p = record { wrote = wrote; protection = p }

-- 15, "sending never passes 65,535"; then 6, the room under the record's size; else it counts on
unfoldable pub wrote_by : Protection → Sense → Content → List ℕ → ℕ → Writing
wrote_by p sense content body room =
    let size : ℕ = length (next_record p sense content body) in
    pick (ltb 65535 p.protected) (writing (Err W.Spent) p)
    (pick (ltb room size) (writing (Err W.NoRoom) p) (writing (Ok size) (counted_on p)))

unfoldable pub output_by : Protection → Sense → Content → List ℕ → List ℕ → List ℕ
output_by p sense content body out =
    pick (ltb 65535 p.protected) out (written_of out (next_record p sense content body))
