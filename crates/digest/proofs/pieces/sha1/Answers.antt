-- `pieces::sha1`: the whole blocks, and then what is left.
use Rattle.std.proofs.Common.{◌*◌, ap, ◌∙◌, le_of_eq, length-drop, take_all}
use Rattle.digest.specs.Sha1.{absorb, blocks_of}
use Rattle.digest.proofs.Hashing.{sha1_by}
use Rattle.digest.proofs.pieces.sha1.Goals as goal

pub returns : goal.returns
returns c = record {
  exact = let s = c.args.s.now in
      c.ending.ensures
      ∙ sha1_by s _ _ (take_all _ _ (le_of_eq (length-drop (64 * blocks_of s) s)))
      (c.absorbed-state.ensures ∙ ap (absorb s (blocks_of s)) c.initial.ensures);
}
