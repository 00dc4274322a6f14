-- `pieces::spelled`: each call spells one word behind those before it.
use Rattle.std.proofs.Common.{refl}
use Rattle.digest.specs.Sha1 as Sha1
use Rattle.digest.proofs.Lay.{laid_words}
use Rattle.digest.proofs.pieces.spelled.Goals as goal

pub returns : goal.returns
unfolding Sha1.spelled
returns c = laid_words _ _ _ _ _ _ _ _ _ _ _ refl
    c.put_word.ensures
    c.put_word-2.ensures
    c.put_word-3.ensures
    c.put_word-4.ensures
    c.put_word-5.ensures
