-- `handshake::none_started`: made of no session.
use mathlib.Core.Path.{◌∙◌, ap}
use Rattle.record.specs.Window.{window_width}
use Rattle.connection.specs.Handshake.{new_handshake}
use Rattle.connection.specs.declared.state.State.TheVariants.{Idle}
use Rattle.connection.proofs.handshake.none_started.Goals as goal

pub returns : goal.returns
returns c = c.made.ensures ∙ ap (λ s. new_handshake s window_width Idle) c.no_session.ensures
