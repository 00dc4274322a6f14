-- `report::put_answers`: after i turns the first i answers are laid.
use mathlib.Core.Path.{◌≡◌, ◌∙◌, ap}
use Prim.Native.Nat.{◌*◌}
use native.Mathlib.Omega.{arith}
use Rattle.lent.specs.Report.{entry_bytes}
use Rattle.lentunit.specs.Report.{report_first, report_of}
use Rattle.lent.proofs.Laying.{laid_none, laid_whole}
use Rattle.lent.proofs.Reading.{length_entry}
use Rattle.lent.proofs.Within.{entry_lies}
use Rattle.lentunit.proofs.Reading.{report_more}
use Rattle.lentunit.proofs.report.put_answers.Goals as goal

pub loop-i-init : goal.loop-i-init
unfolding report_first
loop-i-init c = laid_none c.args.d.now 0 (omega arith)

pub loop-i-preserved : goal.loop-i-preserved
loop-i-preserved c = let l = c.loop-i in
    report_more c.args.answers c.args.d.now l.d c.lay_entry.new.d l.i (entry_bytes c.entry_of.result) l.invariant c.requires (omega arith) (ap entry_bytes c.entry_of.ensures) (length_entry c.entry_of.result) (c.lay_entry.ensures.exact ∙ entry_lies l.d (24 * l.i) c.entry_of.result (omega (arith, l.invariant.same, c.requires)))

pub returns : goal.returns
unfolding report_of
returns c = let last : c.loop-i.i ≡ 8 = omega arith in
    laid_whole (rw last at c.loop-i.invariant) c.requires
