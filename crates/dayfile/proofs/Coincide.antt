-- Two outcomes that meet the contract of one public call are the same: a theorem for each call, over the very predicate
-- of its `ensures` (`Determined`, in `digest`, says what is stated). w stands for the lent room, in its place among the
-- parameters.
use mathlib.Core.Path.{refl, sym, ◌∙◌, ap}
use Rattle.digest.specs.Determined.{OneOutcome}
use Rattle.dayfile.proofs.refusal.number as refusal_number_lem
use Rattle.dayfile.specs.contracts.refusal.number as refusal_number_lem-contract
use Rattle.dayfile.proofs.refusal.U8FromRefusal.from as refusal-u8-from-refusal
use Rattle.dayfile.specs.contracts.refusal.U8FromRefusal.from as refusal-u8-from-refusal-contract
use Rattle.dayfile.proofs.report.report_at as report-report-at
use Rattle.dayfile.specs.contracts.report.report_at as report-report-at-contract
use Rattle.dayfile.proofs.read.read_file as read-read-file
use Rattle.dayfile.specs.contracts.read.read_file as read-read-file-contract
use Rattle.dayfile.proofs.write.write_file as write-write-file
use Rattle.dayfile.specs.contracts.write.write_file as write-write-file-contract
use Rattle.dayfile.proofs.mend.mend_file as mend-mend-file
use Rattle.dayfile.specs.contracts.mend.mend_file as mend-mend-file-contract
use Rattle.dayfile.proofs.dayfile_mend as dayfile-mend
use Rattle.dayfile.specs.contracts.dayfile_mend as dayfile-mend-contract
use Rattle.dayfile.proofs.dayfile_write as dayfile-write
use Rattle.dayfile.specs.contracts.dayfile_write as dayfile-write-contract
use Rattle.dayfile.proofs.dayfile_read as dayfile-read
use Rattle.dayfile.specs.contracts.dayfile_read as dayfile-read-contract
use Rattle.dayfile.proofs.dayfile_report as dayfile-report
use Rattle.dayfile.specs.contracts.dayfile_report as dayfile-report-contract

pub refusal_number_one : OneOutcome refusal_number_lem-contract.ended refusal_number_lem.Reads.Learnt
refusal_number_one κs a x y s u e f = (e ∙ sym f, refl)

pub refusal_u8_from_refusal_one : OneOutcome refusal-u8-from-refusal-contract.ended refusal-u8-from-refusal.Reads.Learnt
refusal_u8_from_refusal_one κs a x y s u e f = (e ∙ sym f, refl)

pub report_report_at_one : OneOutcome report-report-at-contract.ended report-report-at.Reads.Learnt
report_report_at_one κs a x y s u e f = (e.0 ∙ sym f.0, refl)

pub read_read_file_one : OneOutcome read-read-file-contract.ended read-read-file.Reads.Learnt
read_read_file_one κs a x y s u e f = (e ∙ sym f, refl)

pub write_write_file_one : OneOutcome write-write-file-contract.ended write-write-file.Reads.Learnt
write_write_file_one κs a x y s u e f = (e.0 ∙ sym f.0, ap (λ w. (tt, (tt, (tt, (w, tt))))) (e.1 ∙ sym f.1))

pub dayfile_write_one : OneOutcome dayfile-write-contract.ended dayfile-write.Reads.Learnt
dayfile_write_one κs a x y s u e f = (e.0 ∙ sym f.0, ap (λ w. (tt, (tt, (tt, (w, tt))))) (e.1 ∙ sym f.1))

pub dayfile_read_one : OneOutcome dayfile-read-contract.ended dayfile-read.Reads.Learnt
dayfile_read_one κs a x y s u e f = (e ∙ sym f, refl)

pub dayfile_report_one : OneOutcome dayfile-report-contract.ended dayfile-report.Reads.Learnt
dayfile_report_one κs a x y s u e f = (e ∙ sym f, refl)

pub mend_mend_file_one : OneOutcome mend-mend-file-contract.ended mend-mend-file.Reads.Learnt
mend_mend_file_one κs a x y s u e f = (e.0 ∙ sym f.0, ap (λ w. (tt, (w, tt))) (e.1 ∙ sym f.1))

pub dayfile_mend_one : OneOutcome dayfile-mend-contract.ended dayfile-mend.Reads.Learnt
dayfile_mend_one κs a x y s u e f = (e.0 ∙ sym f.0, ap (λ w. (tt, (w, tt))) (e.1 ∙ sym f.1))
