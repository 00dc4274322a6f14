-- `Key::new`: a longer key is hashed first.
use Rattle.std.proofs.Common.{◌∙◌}
use Rattle.digest.proofs.Codes.{long_key, short_key}
use Rattle.digest.proofs.key.Key.new.Goals as goal

pub returns-then-k-gt64 : goal.returns-then-k-gt64
returns-then-k-gt64 c = record {
  exact = let k = c.args.k.now in
      c.keyed.ensures k (c.sha1-short.ensures.exact ∙ long_key k c.if-k-gt64.true);
}

pub returns : goal.returns
returns c = record {
  exact = let k = c.args.k.now in
      c.keyed-2.ensures k (short_key k c.if-k-gt64.false);
}
