-- `read`: the length, the walk over the header, and what it says.
use mathlib.Core.Path.{refl, sym, ◌∙◌}
use Rattle.std.proofs.lemmas.Result.{err_from_is_err_and}
use Rattle.gather.proofs.Headings.{no_bytes, past_end, read_on}
use Rattle.gather.proofs.header.read.Goals as goal

pub returns-in_default : goal.returns-in_default
returns-in_default c = record { exact = no_bytes _ c.in_default.ensures.cases }

pub returns-in_default-split_at_checked : goal.returns-in_default-split_at_checked
returns-in_default-split_at_checked c =
    record { exact = past_end _ _ _ c.in-Some.ensures.cases.0 _ c.from-size.ensures c.in_default-split_at_checked.ensures.cases }

pub returns-in_err-walked : goal.returns-in_err-walked
returns-in_err-walked c =
    let p = err_from_is_err_and c.from_residual.result c.from_residual.ensures.1 in
    let seen = sym c.walked.ensures ∙ c.in_err-walked.was in
    record { exact = rw (p.1, p.2) (read_on _ _ _ c.in-Some.ensures.cases.0 _ c.from-size.ensures _ _ _ _ c.in-Some-split_at_checked.ensures.cases seen refl) }

pub returns : goal.returns
returns c =
    let seen = sym c.walked.ensures ∙ c.in_ok-walked.was in
    record { exact = read_on _ _ _ c.in-Some.ensures.cases.0 _ c.from-size.ensures _ _ _ _ c.in-Some-split_at_checked.ensures.cases seen c.judged.ensures }
