-- Two outcomes that meet the contract of one exported call are the same. Each contract is that of the call in `dayfile` that it makes,
-- so each theorem is, too.
use Rattle.digest.specs.Determined.{OneOutcome}
use Rattle.dayfile.proofs.Coincide.{dayfile_write_one as write_one, dayfile_read_one as read_one, dayfile_report_one as report_one, dayfile_mend_one as mend_one}
use Rattle.dayfile_c.proofs.dayfile_write as dayfile-write
use Rattle.dayfile_c.specs.contracts.dayfile_write as dayfile-write-contract
use Rattle.dayfile_c.proofs.dayfile_read as dayfile-read
use Rattle.dayfile_c.specs.contracts.dayfile_read as dayfile-read-contract
use Rattle.dayfile_c.proofs.dayfile_report as dayfile-report
use Rattle.dayfile_c.specs.contracts.dayfile_report as dayfile-report-contract
use Rattle.dayfile_c.proofs.dayfile_mend as dayfile-mend
use Rattle.dayfile_c.specs.contracts.dayfile_mend as dayfile-mend-contract

pub dayfile_write_one : OneOutcome dayfile-write-contract.ended dayfile-write.Reads.Learnt
dayfile_write_one = write_one

pub dayfile_read_one : OneOutcome dayfile-read-contract.ended dayfile-read.Reads.Learnt
dayfile_read_one = read_one

pub dayfile_report_one : OneOutcome dayfile-report-contract.ended dayfile-report.Reads.Learnt
dayfile_report_one = report_one

pub dayfile_mend_one : OneOutcome dayfile-mend-contract.ended dayfile-mend.Reads.Learnt
dayfile_mend_one = mend_one
