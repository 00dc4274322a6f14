-- Why a record is refused, asked of the connection that the lent bytes hold (02, "Why was this report dropped?"): "Asking changes
-- nothing", so only the bytes for the facts are lent to be written. 16 where they are not 96, or the others no saved connection; what the
-- question itself refuses with 16 is a reason among the facts.
use Rattle.std.specs.Prelude.{List, ℕ, length, eqb}
use Rattle.digest.specs.Pick.{pick}
use Rattle.why.specs.Reason.{reason_number}
use Rattle.why.specs.Why.{why_of}
use Rattle.why.specs.declared.reason.Why.{Why}
use Rattle.lent.specs.Saved.{is_saved, connection_in}
use Rattle.lent.specs.Calls.{result_of, not_taken}
use Rattle.lentwhy.specs.Facts.{facts_size, facts_of}

abbrev pub why_in : List ℕ → ℕ → List ℕ → List ℕ → ℕ → Why
why_in state edition d random index = why_of edition (connection_in state) d random index

-- the count is the number of the reason
unfoldable pub why_result : List ℕ → ℕ → List ℕ → List ℕ → ℕ → ℕ → ℕ
why_result state edition d random index room =
    pick (eqb room facts_size)
    (pick (is_saved state) (result_of 0 facts_size (reason_number (why_in state edition d random index).reason)) not_taken)
    not_taken

unfoldable pub why_facts : List ℕ → ℕ → List ℕ → List ℕ → ℕ → List ℕ → List ℕ
why_facts state edition d random index facts =
    pick (eqb (length facts) facts_size) (pick (is_saved state) (facts_of (why_in state edition d random index)) facts) facts
