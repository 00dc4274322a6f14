-- `write_clear`: a record with nothing behind its fragment.
use mathlib.Core.Bool.{false}
use mathlib.Core.Path.{ap, ◌∙◌}
use mathlib.Core.List.{append-nil}
use Rattle.std.specs.Prelude.{unwrap_or}
use Rattle.record.specs.Written.{record_of, written_of, count_of}
use Rattle.record.proofs.Fronts.{count_within}
use Rattle.record.proofs.written.write_clear.Goals as goal

pub returns : goal.returns
returns c = let a = c.args in
    let whole = ap (record_of a.long false a.content a.number) (append-nil a.fragment.now) in
    record {
      count = c.unwrap_or.ensures ∙ ap (λ r. unwrap_or r 0) c.write.ensures.size ∙ count_within a.out.now _ ∙ ap (count_of a.out.now) whole;
      bytes = c.write.ensures.bytes ∙ ap (written_of a.out.now) whole;
    }
