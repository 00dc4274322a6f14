-- `result::result_of`: the definition.
use Rattle.lent.specs.Calls.{result_of}
use borrow.Author.Rules.{rules}
use Rattle.lent.proofs.result.result_of.Goals as goal

pub returns : goal.returns
unfolding result_of
returns c = record { exact = search rules }
