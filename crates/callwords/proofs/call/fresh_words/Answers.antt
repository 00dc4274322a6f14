-- `call::fresh_words`: each part of the value is what the specification says of that word.
use Rattle.std.proofs.Common.{◌&&◌, eqb}
use Rattle.callwords.proofs.call.fresh_words.Goals as goal

pub returns : goal.returns
returns c = λ j. eqb (c.spaces.ensures j) 3 && c.bytes_at.ensures j && c.bytes_at-2.ensures j && c.number_at.ensures j
