-- `asked::asked`: by whom is asked.
use mathlib.Core.Path.{◌∙◌, sym, ap}
use Rattle.connection.specs.Asked.{asked_of}
use Rattle.connection.proofs.asked.asked.Goals as goal

pub returns-in-Newcomer : goal.returns-in-Newcomer
returns-in-Newcomer c = c.newcomer.ensures ∙ sym (ap (asked_of c.args.c) c.in-Newcomer.is)
