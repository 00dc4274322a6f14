-- `read_file`: the tests of the definition, in its order.
use mathlib.Core.Path.{◌≡◌, sym, ◌∙◌, ap}
use lib.ListN.{length}
use native.Mathlib.Omega.{arith}
use Rattle.std.specs.Prelude.{Ok}
use Rattle.dayfile.specs.Runs.{run_of}
use Rattle.dayfile.specs.Reading.{reading_told}
use Rattle.dayfile.proofs.Running.{ran_stands}
use Rattle.dayfile.proofs.Looking.{read_long, read_many, read_is, read_not}
use Rattle.dayfile.proofs.read.read_file.Goals as goal
use Rattle.dayfile.proofs.read.read_file.Goals.{then-run-gt-MOST_REPORTS-via-then-run-gt-MOST_REPORTS, then-run-gt-MOST_REPORTS-via-else-run-gt-MOST_REPORTS+then-not-trailer_stands}

pub returns-then-file-gt-MOST_BYTES : goal.returns-then-file-gt-MOST_BYTES
returns-then-file-gt-MOST_BYTES c = record { exact = ap reading_told (sym (read_long _ c.if-file-gt-MOST_BYTES.true)) }

pub trailer_stands-requires : goal.trailer_stands-requires
trailer_stands-requires c = record { run_stands = ran_stands _ _ c.run_in-run.ensures.exact c.run_in-run.ensures.stands; file_len_bound = c.if-file-gt-MOST_BYTES.false }

pub returns-then-run-gt-MOST_REPORTS : goal.returns-then-run-gt-MOST_REPORTS
returns-then-run-gt-MOST_REPORTS c =
    let many : c.run_in-run.result.count ≡ length (run_of c.args.file.now) = ap (λ r. r.count) c.run_in-run.ensures.exact in
    record {
      exact =
          ap reading_told
          (sym
          (elim c.then-run-gt-MOST_REPORTS.branch [
            | then-run-gt-MOST_REPORTS-via-then-run-gt-MOST_REPORTS w ↦ read_many _ c.if-file-gt-MOST_BYTES.false (omega (arith, many, w.if-run-gt-MOST_REPORTS.true))
            | then-run-gt-MOST_REPORTS-via-else-run-gt-MOST_REPORTS+then-not-trailer_stands w ↦
                read_not _ c.if-file-gt-MOST_BYTES.false (omega (arith, many, w.if-run-gt-MOST_REPORTS.false)) (sym w.trailer_stands.ensures ∙ w.if-not-trailer_stands.true)
          ]));
    }

pub returns : goal.returns
returns c =
    let many : c.run_in-run.result.count ≡ length (run_of c.args.file.now) = ap (λ r. r.count) c.run_in-run.ensures.exact in
    record {
      exact =
          ap Ok many
          ∙ ap reading_told (sym (read_is _ c.if-file-gt-MOST_BYTES.false (omega (arith, many, c.if-run-gt-MOST_REPORTS.false)) (sym c.trailer_stands.ensures ∙ c.if-not-trailer_stands.false)));
    }
