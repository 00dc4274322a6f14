-- Demand 3 by the bytes and our own calls: which numbers the unit's records have used up, and whether one of them, or we,
-- closed.
use Rattle.std.specs.Prelude.{◌≡◌, Bool, true, false, List, [], ◌∷◌, ℕ, ◌+◌, ◌-◌, ◌<◌, length, take, Err, None, Ok, Option, Result, Some, ⊤}
use Rattle.message.specs.declared.alert.Alert.{Alert}
use Rattle.message.specs.declared.finished.Unverified.{Unverified}
use Rattle.digest.specs.Pick.{pick}
use Rattle.digest.specs.Hmac.{hmac}
use Rattle.digest.specs.Mac.{size_of}
use Rattle.record.specs.Code.{genuine_by}
use Rattle.record.specs.Window.{too_old}
use Rattle.record.specs.History.{accepted, highest_of}
use Rattle.record.specs.declared.header.Content.{Content}
use Rattle.record.specs.declared.header.Content.TheVariants as C
use Rattle.record.specs.declared.reader.Record.{Record}
use Rattle.message.specs.Alert.{alert_of}
use Rattle.message.specs.Finished.{judged_of}
use Rattle.message.specs.declared.alert.Level.{Level}
use Rattle.message.specs.declared.alert.Level.TheVariants as L
use Rattle.message.specs.declared.finished.Unverified.TheVariants as F
use Rattle.connection.specs.Judge.{fragment_of}
use Rattle.record.specs.declared.keys.Keys.{Keys}
use Rattle.demands.specs.Genuine.{Genuine, unit_key}
use Rattle.demands.specs.Events.{Event, took, sending, alerting, closing, starting}

-- the width of the window, the numbers accepted, the latest first, and whether a genuine record or a close closed
pub record Course : Type 0 where
  pub width : ℕ
  pub numbers : List ℕ
  pub shut : Bool

-- the code of a record is right under the key for its number; and the content before it
abbrev pub genuine_bytes : Keys → List ℕ → Record → Bool
genuine_bytes k d r =
    pick r.protected
    (genuine_by (hmac (unit_key k r.number)) (size_of k.mac) r.number r.byte (fragment_of d r)) false

abbrev pub content_bytes : Keys → List ℕ → Record → List ℕ
content_bytes k d r = take (length (fragment_of d r) - size_of k.mac) (fragment_of d r)

-- "whose number was not accepted before and is above the highest accepted less 32": less the width
abbrev pub is_new : ℕ → List ℕ → ℕ → Bool
is_new width numbers s = pick (too_old width (highest_of numbers) s) false (pick (accepted numbers s) false true)

-- a record that closes: an alert of level critical or fatal, or a Finished with other contents than the expected ones
abbrev pub level_shuts : Level → Bool
level_shuts L.Warning = false
level_shuts L.Critical = true
level_shuts L.Fatal = true

abbrev pub alert_shuts : Option Alert → Bool
alert_shuts None = false
alert_shuts (Some a) = level_shuts a.level

abbrev pub finished_shuts : Result ⊤ Unverified → Bool
finished_shuts (Ok tt) = false
finished_shuts (Err F.Wrong) = true
finished_shuts (Err F.Malformed) = false

abbrev pub content_shuts : Content → List ℕ → List ℕ → Bool
content_shuts C.ChangeCipherSpec c expected = false
content_shuts C.Alert c expected = alert_shuts (alert_of c)
content_shuts C.Handshake c expected = finished_shuts (judged_of c expected)
content_shuts C.Data c expected = false

-- one event more: a genuine record with a new number uses it up, unless something closed before
abbrev pub with_record : Keys → List ℕ → Course → List ℕ → Record → Course
with_record k expected course d r =
    pick course.shut course
    (pick (genuine_bytes k d r)
    (pick (is_new course.width course.numbers r.number)
    (record {
      width = course.width;
      numbers = r.number ∷ course.numbers;
      shut = content_shuts r.content (content_bytes k d r) expected;
    })
    course)
    course)

abbrev pub with_event : Keys → List ℕ → Course → Event → Course
with_event k expected course (took sent random d r) = with_record k expected course d r
with_event k expected course (sending bytes out) = course
with_event k expected course (alerting protected level description answered out) = course
with_event k expected course closing = record { width = course.width; numbers = course.numbers; shut = true }
with_event k expected course starting = course

unfoldable pub course_of : Keys → List ℕ → Course → List Event → Course
course_of k expected course [] = course
course_of k expected course (e ∷ es) = course_of k expected (with_event k expected course e) es

-- no start again that takes effect: it comes only where nothing closed, and is refused there
abbrev pub Ongoing : Keys → List ℕ → Course → List Event → Type 0
Ongoing k expected course [] = Unit
Ongoing k expected course (took sent random d r ∷ es) = Ongoing k expected (with_event k expected course (took sent random d r)) es
Ongoing k expected course (sending bytes out ∷ es) = Ongoing k expected course es
Ongoing k expected course (alerting protected level description answered out ∷ es) = Ongoing k expected course es
Ongoing k expected course (closing ∷ es) = Ongoing k expected (with_event k expected course closing) es
Ongoing k expected course (starting ∷ es) = (course.shut ≡ false) × Ongoing k expected course es

-- "Each genuine data record of at least one byte, whose number was not accepted before and is above the highest
-- accepted less 32", now "less the width": what is to be handed out at this place of the course, with the content c
pub record Due (k : Keys) (course : Course) (d : List ℕ) (r : Record) (c : List ℕ) : Type 0 where
  pub not_shut : course.shut ≡ false
  pub genuine : Genuine k d r c
  pub is_data_lem : r.content ≡ C.Data
  pub some : 0 < length c
  pub not_before : accepted course.numbers r.number ≡ false
  pub recent : (n : ℕ) → accepted course.numbers n ≡ true → n < r.number + course.width
