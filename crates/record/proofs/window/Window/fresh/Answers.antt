-- `fresh`: the window of no number.
use mathlib.Core.Path.{refl}
use Rattle.record.proofs.Histories.{fresh_means}
use Rattle.record.proofs.window.Window.fresh.Goals as goal

pub returns : goal.returns
returns c = record { exact = refl; meaning = fresh_means c.args.width }
