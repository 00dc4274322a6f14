-- What a window means: the numbers accepted since it was fresh, the latest first (002 9.2.3.1; 01, "Numbers, window, keys").
use Rattle.std.specs.Prelude.{Bool, true, false, List, [], ◌∷◌, ℕ, zero, suc, ◌+◌, ◌-◌, ◌*◌, max, eqb, leb, Err, Ok, Result}
use Rattle.record.specs.declared.window.NotNew.{NotNew}
use Rattle.digest.specs.Pick.{pick}
use Rattle.record.specs.Window.{too_old}
use Rattle.record.specs.declared.window.Window.{Window}
use Rattle.record.specs.declared.window.NotNew.TheVariants.{TooOld, Repeated}

-- whether s was accepted
unfoldable pub accepted : List ℕ → ℕ → Bool
accepted [] s = false
accepted (t ∷ h) s = pick (eqb t s) true (accepted h s)

-- "n the highest number accepted"
unfoldable pub highest_of : List ℕ → ℕ
highest_of [] = 0
highest_of (t ∷ h) = max t (highest_of h)

-- the mark of the number j below n: 1 if there is one and it was accepted
unfoldable pub mark_of : List ℕ → ℕ → ℕ → ℕ
mark_of h n j = pick (leb j n) (pick (accepted h (n - j)) 1 0) 0

-- the marks of the numbers from j below n on, `width` of them, the first one lowest
unfoldable pub marks_from : List ℕ → ℕ → ℕ → ℕ → ℕ
marks_from h n zero j = 0
marks_from h n (suc width) j = marks_from h n width (suc j) * 2 + mark_of h n j

-- how many of those numbers have arrived
unfoldable pub count_from : List ℕ → ℕ → ℕ → ℕ → ℕ
count_from h n zero j = 0
count_from h n (suc width) j = mark_of h n j + count_from h n width (suc j)

-- "with n and the marks of the newest numbers"
abbrev pub window_of : ℕ → List ℕ → Window
window_of width h = record { width = width; highest = highest_of h; marks = marks_from h (highest_of h) width 0 }

-- how many of the newest numbers have arrived
abbrev pub arrived_of : ℕ → List ℕ → ℕ
arrived_of width h = count_from h (highest_of h) width 0

-- "a number at most n - W is too old. A number accepted before is repeated." Any other is new, and is accepted from then on.
unfoldable pub judged_of : ℕ → List ℕ → ℕ → Result (Window × ℕ) NotNew
judged_of width h s =
    pick (too_old width (highest_of h) s) (Err TooOld)
    (pick (accepted h s) (Err Repeated) (Ok (window_of width (s ∷ h), arrived_of width (s ∷ h))))
