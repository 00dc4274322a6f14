-- `told::moved`: by the place.
use mathlib.Core.Path.{◌∙◌, ap}
use Rattle.connection.specs.Told.{placed_by}
use Rattle.connection.proofs.Asking.{left_placed}
use Rattle.connection.proofs.told.moved.Goals as goal

pub returns : goal.returns
returns c = let a = c.args in c.placed.ensures ∙ ap (placed_by a.c a.h a.c.sent) c.place_of.ensures ∙ left_placed a.c a.h a.c.sent a.who
