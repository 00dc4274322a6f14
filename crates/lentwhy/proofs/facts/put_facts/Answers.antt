-- `facts::put_facts`: three times eight numbers.
use mathlib.Core.Path.{sym, ◌∙◌, ap}
use lib.ListN.{length}
use Rattle.lentwhy.specs.Facts.{head_of, numbers_of, spelled, facts_of}
use Rattle.lentwhy.proofs.Spelling.{spelled_words, three_eights}
use Rattle.lentwhy.proofs.facts.put_facts.Goals as goal

pub returns : goal.returns
unfolding facts_of
returns c = let w = c.args.w in
    let head = spelled_words c.head_of.result ∙ ap spelled c.head_of.ensures in
    let numbers = spelled_words c.numbers_of.result ∙ ap spelled c.numbers_of.ensures in
    let sums = spelled_words w.sent.checksums in
    three_eights c.args.d.now c.put.new.d c.put-2.new.d c.put-3.new.d c.words.result c.words-2.result c.words-3.result
    (spelled (head_of w)) (spelled (numbers_of w.reason)) (spelled w.sent.checksums) c.requires
    (sym (ap length head) ∙ c.words.ensures.part_len)
    (sym (ap length numbers) ∙ c.words-2.ensures.part_len)
    (sym (ap length sums) ∙ c.words-3.ensures.part_len)
    (c.words.ensures.exact ∙ head) (c.words-2.ensures.exact ∙ numbers) (c.words-3.ensures.exact ∙ sums)
    c.put.ensures.exact c.put-2.ensures.exact c.put-3.ensures.exact
