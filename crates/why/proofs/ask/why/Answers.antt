-- `ask::why`: 16 for the edition, then by the point.
use Rattle.std.specs.Prelude.{Err}
use mathlib.Core.Path.{sym, ◌∙◌, ap}
use Rattle.why.specs.Why.{why_whole, why_taken}
use Rattle.why.proofs.Facts.{why_unknown, why_known}
use Rattle.why.proofs.ask.why.Goals as goal

pub returns-then-not-is_edition : goal.returns-then-not-is_edition
returns-then-not-is_edition c = record {
  exact = let args = c.args in
      why_unknown args.edition args.c args.datagram.now args.random.now args.index c.whole.result (sym c.is_edition.ensures ∙ c.if-not-is_edition.true) c.whole.ensures;
}

pub returns-in-Ok : goal.returns-in-Ok
returns-in-Ok c = record {
  exact = let args = c.args in
      let p = c.point_at-p in
      why_known args.edition args.c args.datagram.now args.random.now args.index c.of_record.result p.result (sym c.is_edition.ensures ∙ c.if-not-is_edition.false) p.ensures.exact (c.of_record.ensures ∙ sym (ap (why_taken p.result args.datagram.now args.index) c.in-Ok.is));
}

pub returns-in-Refused : goal.returns-in-Refused
returns-in-Refused c = record {
  exact = let args = c.args in
      let p = c.point_at-p in
      why_known args.edition args.c args.datagram.now args.random.now args.index c.whole-in-Refused.result p.result (sym c.is_edition.ensures ∙ c.if-not-is_edition.false) p.ensures.exact (c.whole-in-Refused.ensures ∙ ap (why_whole p.result.connection) c.reason_at.ensures ∙ sym (ap (why_taken p.result args.datagram.now args.index) (c.in-Err.is ∙ ap Err c.in-Refused.is)));
}

pub returns-in-Misframed : goal.returns-in-Misframed
returns-in-Misframed c = record {
  exact = let args = c.args in
      let p = c.point_at-p in
      why_known args.edition args.c args.datagram.now args.random.now args.index c.whole-in-Misframed.result p.result (sym c.is_edition.ensures ∙ c.if-not-is_edition.false) p.ensures.exact (c.whole-in-Misframed.ensures ∙ ap (why_whole p.result.connection) c.reason_at-in-Misframed.ensures ∙ sym (ap (why_taken p.result args.datagram.now args.index) (c.in-Err.is ∙ ap Err c.in-Misframed.is)));
}
