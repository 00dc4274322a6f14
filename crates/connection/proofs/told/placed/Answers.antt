-- `told::placed`: by the place.
use mathlib.Core.Path.{◌∙◌, sym, ap}
use Rattle.connection.specs.Told.{placed_by}
use Rattle.connection.proofs.told.placed.Goals as goal

pub returns-in-Kept : goal.returns-in-Kept
returns-in-Kept c = sym (ap (placed_by c.args.c c.args.h c.args.sent) c.in-Kept.is)

pub returns-in-Alone : goal.returns-in-Alone
returns-in-Alone c = (λ i. record { handshake = c.args.h; started = c.none_started-k.ensures i; sent = c.args.sent }) ∙ sym (ap (placed_by c.args.c c.args.h c.args.sent) c.in-Alone.is)

pub returns-in-Beside : goal.returns-in-Beside
returns-in-Beside c = sym (ap (placed_by c.args.c c.args.h c.args.sent) c.in-Beside.is)

pub returns-in-Dropped : goal.returns-in-Dropped
returns-in-Dropped c = (λ i. record { handshake = c.args.c.handshake; started = c.none_started-k-in-Dropped.ensures i; sent = c.args.sent }) ∙ sym (ap (placed_by c.args.c c.args.h c.args.sent) c.in-Dropped.is)

pub returns-in-Nowhere : goal.returns-in-Nowhere
returns-in-Nowhere c = sym (ap (placed_by c.args.c c.args.h c.args.sent) c.in-Nowhere.is)
