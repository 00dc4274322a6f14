-- Demand 3 at the shipboard end by the bytes and the calls: which numbers the shore's records have used up, and whether one of them, or
-- we, closed. What closes is said ashore.
use Rattle.std.specs.Prelude.{◌≡◌, true, false, List, [], ◌∷◌, ℕ, ◌+◌, ◌<◌, length}
use Rattle.digest.specs.Pick.{pick}
use Rattle.record.specs.Window.{Held}
use Rattle.record.specs.History.{accepted, window_of}
use Rattle.record.specs.declared.header.Content.TheVariants as C
use Rattle.record.specs.declared.keys.Keys.{Keys}
use Rattle.record.specs.declared.reader.Record.{Record}
use Rattle.unit.specs.declared.unit.Unit.{Unit as Ship}
use Rattle.demands.specs.Course.{Course, is_new, content_shuts}
use Rattle.demands.specs.Ship.Genuine.{Genuine, genuine_bytes, content_bytes}
use Rattle.demands.specs.Ship.Events.{Event, took, greeting, repeating, sending, alerting, closing, starting}

-- one record more: a genuine one with a new number uses it up, unless something closed before
abbrev pub used_by : Keys → List ℕ → Course → List ℕ → Record → Course
used_by k expected course d r =
    record { width = course.width; numbers = r.number ∷ course.numbers; shut = content_shuts r.content (content_bytes k d r) expected }

abbrev pub with_record : Keys → List ℕ → Course → List ℕ → Record → Course
with_record k expected course d r =
    pick course.shut course
    (pick (genuine_bytes k d r)
    (pick (is_new course.width course.numbers r.number) (used_by k expected course d r) course)
    course)

abbrev pub shut_by : Course → Course
shut_by course = record { width = course.width; numbers = course.numbers; shut = true }

abbrev pub with_event : Keys → List ℕ → Course → Event → Course
with_event k expected course (took d r) = with_record k expected course d r
with_event k expected course (greeting random macs refresh out) = course
with_event k expected course (repeating out) = course
with_event k expected course (sending bytes out) = course
with_event k expected course (alerting protected level description answered out) = course
with_event k expected course closing = shut_by course
with_event k expected course starting = course

unfoldable pub course_of : Keys → List ℕ → Course → List Event → Course
course_of k expected course [] = course
course_of k expected course (e ∷ es) = course_of k expected (with_event k expected course e) es

-- no start again that takes effect: it comes only where nothing closed, and is refused there
abbrev pub MayCome : Course → Event → Type 0
MayCome course (took d r) = Unit
MayCome course (greeting random macs refresh out) = Unit
MayCome course (repeating out) = Unit
MayCome course (sending bytes out) = Unit
MayCome course (alerting protected level description answered out) = Unit
MayCome course closing = Unit
MayCome course starting = course.shut ≡ false

abbrev pub Ongoing : Keys → List ℕ → Course → List Event → Type 0
Ongoing k expected course [] = Unit
Ongoing k expected course (e ∷ es) = MayCome course e × Ongoing k expected (with_event k expected course e) es

-- "Each genuine data record of at least one byte, whose number was not accepted before and is above the highest accepted less" the
-- width: what is to be handed out at this place of the course, with the content c
pub record Due (k : Keys) (course : Course) (d : List ℕ) (r : Record) (c : List ℕ) : Type 0 where
  pub not_shut : course.shut ≡ false
  pub genuine : Genuine k d r c
  pub is_data_lem : r.content ≡ C.Data
  pub some : 0 < length c
  pub not_before : accepted course.numbers r.number ≡ false
  pub recent : (n : ℕ) → accepted course.numbers n ≡ true → n < r.number + course.width

-- the window of a unit, of a width that it may have, holds these numbers
pub record HoldsNumbers (u : Ship) (numbers : List ℕ) : Type 0 where
  pub held : Held u.protection.window.width
  pub means : u.protection.window ≡ window_of u.protection.window.width numbers

-- the course from a unit on: its width, the numbers accepted so far, and nothing closed
abbrev pub course_at : Ship → List ℕ → Course
course_at u numbers = record { width = u.protection.window.width; numbers = numbers; shut = false }

abbrev pub course_from : Ship → List ℕ → List Event → Course
course_from u numbers es = course_of u.protection.keys u.expected (course_at u numbers) es

abbrev pub OngoingFrom : Ship → List ℕ → List Event → Type 0
OngoingFrom u numbers es = Ongoing u.protection.keys u.expected (course_at u numbers) es
