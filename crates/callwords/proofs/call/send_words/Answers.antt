-- `call::send_words`: each part of the value is what the specification says of that word.
use Rattle.std.proofs.Common.{◌&&◌, eqb}
use Rattle.callwords.proofs.call.send_words.Goals as goal

pub returns : goal.returns
returns c = λ j. eqb (c.spaces.ensures j) 2 && c.bytes_at.ensures j && c.number_at.ensures j
