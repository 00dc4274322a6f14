-- `report::put_answers`: after i turns the first i answers are laid.
use mathlib.Core.Path.{◌≡◌, ap}
use native.Mathlib.Omega.{arith}
use Rattle.lent.specs.Report.{entry_bytes, report_first, report_of}
use Rattle.lent.proofs.Laying.{laid_none, laid_whole}
use Rattle.lent.proofs.Reading.{report_more, length_entry}
use Rattle.lent.proofs.report.put_answers.Goals as goal

pub loop-i-init : goal.loop-i-init
unfolding report_first
loop-i-init c = laid_none c.args.d.now 0 (omega arith)

pub put_entry-requires : goal.put_entry-requires
put_entry-requires c = omega (arith, c.loop-i.invariant.same, c.requires)

pub loop-i-preserved : goal.loop-i-preserved
loop-i-preserved c = let l = c.loop-i in
    report_more c.args.answers c.args.d.now l.d c.put_entry.new.d l.i (entry_bytes c.entry_of.result) l.invariant c.requires (omega arith) (ap entry_bytes c.entry_of.ensures) (length_entry c.entry_of.result) c.put_entry.ensures

pub returns : goal.returns
unfolding report_of
returns c = let last : c.loop-i.i ≡ 8 = omega arith in
    laid_whole (rw last at c.loop-i.invariant) c.requires
