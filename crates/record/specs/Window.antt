-- The receive window (002 9.2.3.1; 01, "Numbers, window, keys"), over its width.
use Rattle.std.specs.Prelude.{Bool, ℕ, ◌+◌, ◌-◌, ◌*◌, ◌/◌, ◌%◌, ◌^◌, ◌≤◌, eqb, leb, ltb, Err, Ok, Result}
use Rattle.record.specs.declared.window.NotNew.{NotNew}
use Rattle.std.specs.Int.Count.{ones}
use Rattle.digest.specs.Pick.{pick}
use Rattle.record.specs.declared.window.Window.{Window}
use Rattle.record.specs.declared.window.NotNew.TheVariants.{TooOld, Repeated}

-- 01, Refusal numbers: 10, "too old"; 11, "repeated"; 0 where the number is new
abbrev pub acceptance_number : Result (Window × ℕ) NotNew → ℕ
acceptance_number (Ok (window, arrived)) = 0
acceptance_number (Err TooOld) = 10
acceptance_number (Err Repeated) = 11

-- the width where no caller gives one: "at most n - 32 is too old"
abbrev pub window_width : ℕ
window_width = 32

-- the widths that a window may have
abbrev pub Held : ℕ → Type 0
Held width = (32 ≤ width) × (width ≤ 64)

-- every value of a window is safe: a width outside counts as the nearest that it may have
unfoldable pub held_width : ℕ → ℕ
held_width width = pick (ltb width 32) 32 (pick (ltb 64 width) 64 width)

-- nothing accepted, so no mark
abbrev pub fresh_window : ℕ → Window
fresh_window width = record { width = width; highest = 0; marks = 0 }

-- a fresh window of the same width
abbrev pub emptied : Window → Window
emptied w = fresh_window w.width

-- the window with these marks, and "how many of those have arrived"
abbrev pub arrived_at : ℕ → ℕ → ℕ → Result (Window × ℕ) NotNew
arrived_at width highest marks = Ok (record { width = width; highest = highest; marks = marks }, ones marks)

-- the arrival report of a window: "how many of those have arrived", over its width
unfoldable pub arrival_of : Window → ℕ
arrival_of w = ones (w.marks % 2 ^ held_width w.width)

-- "a number at most n - W is too old", said without a difference
abbrev pub too_old : ℕ → ℕ → ℕ → Bool
too_old width n s = leb (s + width) n

-- Number s at a window whose highest number is n, with marks m. "In a fresh window any number is new." A number above the
-- highest moves the marks; one at most n - W is too old; one whose mark is set is repeated; any other is marked.
unfoldable pub accept_by : ℕ → ℕ → ℕ → ℕ → Result (Window × ℕ) NotNew
accept_by width n m s =
    pick (eqb m 0) (arrived_at width s 1)
    (pick (ltb n s) (arrived_at width s (m * 2 ^ (s - n) % 2 ^ width + 1))
    (pick (too_old width n s) (Err TooOld)
    (pick (eqb (m / 2 ^ (n - s) % 2) 1) (Err Repeated)
    (arrived_at width n (m + 2 ^ (n - s))))))

-- only the marks of the width count
abbrev pub accept_within : ℕ → Window → ℕ → Result (Window × ℕ) NotNew
accept_within width w s = accept_by width w.highest (w.marks % 2 ^ width) s

abbrev pub accept_of : Window → ℕ → Result (Window × ℕ) NotNew
accept_of w s = accept_within (held_width w.width) w s
