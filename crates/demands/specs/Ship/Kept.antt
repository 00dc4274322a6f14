-- What the window keeps is what happened: in any run from fresh it has the width that was given to fresh, and holds exactly the numbers
-- accepted since the last change cipher spec that was taken. So "the numbers accepted so far", elsewhere, are no mere premise.
use Rattle.std.specs.Prelude.{◌≡◌, List, [], ℕ}
use Rattle.record.specs.Window.{Held}
use Rattle.record.specs.History.{window_of}
use Rattle.demands.specs.Ship.Events.{Event, after, history}
use Rattle.demands.specs.Ship.Runs.{fresh_ship}
use Rattle.demands.specs.Ship.Past.{accepted_in}

unfoldable pub WindowIsWhatHappened : Type 0
WindowIsWhatHappened =
    (id secret : List ℕ) (width : ℕ) → Held width → (es : List Event)
    → (after (fresh_ship id secret width) es).protection.window
    ≡ window_of width (accepted_in (history (fresh_ship id secret width) es []))
