-- `send_alert`: three numbers out of range, then the bytes, then the call.
use mathlib.Core.Path.{refl, sym, ◌∙◌, ap}
use mathlib.Core.Bool.{Bool}
use mathlib.Core.List.{List}
use Prim.Native.Nat.{ℕ}
use lib.ListN.{length}
use lib.Dec.{eqb}
use Rattle.unit.specs.Send.{alert_sent, alert_output}
use Rattle.lentunit.specs.Saved.{is_saved, unit_in, Loaded, loaded}
use Rattle.lentunit.specs.Calls.{alert_result, alert_state, alert_out, sent_result, sent_state, sent_loads, alert_loads}
use Rattle.lent.specs.Calls.{not_taken}
use Rattle.lent.proofs.Calling.{test_yes, test_no, either, sense_in, sense_out, sense_same}
use Rattle.lentunit.proofs.Calling.{saved_size, level_above, level_above_output, description_above, description_above_output}
use Rattle.lentunit.proofs.send_alert.Goals as goal
use Rattle.lentunit.proofs.send_alert.Goals.{then-protected-gt1-via-then-protected-gt1, then-protected-gt1-via-else-protected-gt1+then-level-gt255, then-protected-gt1-via-else-protected-gt1+else-level-gt255+then-description-gt255}

pub returns-then-protected-gt1 : goal.returns-then-protected-gt1
unfolding alert_result alert_state alert_out alert_loads
returns-then-protected-gt1 c = let state = c.args.state.now in
    let p = c.args.protected in
    let level = c.args.level in
    let description = c.args.description in
    let answered = c.args.answered.now in
    let out = c.args.out.now in
    let result : Bool → ℕ = λ b. sent_result (alert_sent (unit_in state) b level description answered (length out)) in
    let left : Bool → List ℕ = λ b. sent_state state (alert_sent (unit_in state) b level description answered (length out)) in
    let loads : Bool → Loaded = λ b. sent_loads state (alert_sent (unit_in state) b level description answered (length out)) in
    let written : Bool → List ℕ = λ b. alert_output (unit_in state) b level description answered out in
    let no = c.not_taken.ensures in
    record {
      exact =
          elim c.then-protected-gt1.branch [
            | then-protected-gt1-via-then-protected-gt1 w ↦ either (is_saved state) (no ∙ sense_out ℕ p result not_taken w.if-protected-gt1.true) no
            | then-protected-gt1-via-else-protected-gt1+then-level-gt255 w ↦ either (is_saved state) (no ∙ sense_same ℕ p result not_taken (λ b. ap sent_result (level_above (unit_in state) b level description answered (length out) w.if-level-gt255.true))) no
            | then-protected-gt1-via-else-protected-gt1+else-level-gt255+then-description-gt255 w ↦ either (is_saved state) (no ∙ sense_same ℕ p result not_taken (λ b. ap sent_result (description_above (unit_in state) b level description answered (length out) w.if-description-gt255.true))) no
          ];
      unit =
          elim c.then-protected-gt1.branch [
            | then-protected-gt1-via-then-protected-gt1 w ↦ either (is_saved state) (sense_out (List ℕ) p left state w.if-protected-gt1.true) refl
            | then-protected-gt1-via-else-protected-gt1+then-level-gt255 w ↦ either (is_saved state) (sense_same (List ℕ) p left state (λ b. ap (sent_state state) (level_above (unit_in state) b level description answered (length out) w.if-level-gt255.true))) refl
            | then-protected-gt1-via-else-protected-gt1+else-level-gt255+then-description-gt255 w ↦ either (is_saved state) (sense_same (List ℕ) p left state (λ b. ap (sent_state state) (description_above (unit_in state) b level description answered (length out) w.if-description-gt255.true))) refl
          ];
      bytes =
          elim c.then-protected-gt1.branch [
            | then-protected-gt1-via-then-protected-gt1 w ↦ either (is_saved state) (sense_out (List ℕ) p written out w.if-protected-gt1.true) refl
            | then-protected-gt1-via-else-protected-gt1+then-level-gt255 w ↦ either (is_saved state) (sense_same (List ℕ) p written out (λ b. level_above_output (unit_in state) b level description answered out w.if-level-gt255.true)) refl
            | then-protected-gt1-via-else-protected-gt1+else-level-gt255+then-description-gt255 w ↦ either (is_saved state) (sense_same (List ℕ) p written out (λ b. description_above_output (unit_in state) b level description answered out w.if-description-gt255.true)) refl
          ];
      loads =
          elim c.then-protected-gt1.branch [
            | then-protected-gt1-via-then-protected-gt1 w ↦ either (is_saved state) (sense_out Loaded p loads (loaded state) w.if-protected-gt1.true) refl
            | then-protected-gt1-via-else-protected-gt1+then-level-gt255 w ↦ either (is_saved state) (sense_same Loaded p loads (loaded state) (λ b. ap (sent_loads state) (level_above (unit_in state) b level description answered (length out) w.if-level-gt255.true))) refl
            | then-protected-gt1-via-else-protected-gt1+else-level-gt255+then-description-gt255 w ↦ either (is_saved state) (sense_same Loaded p loads (loaded state) (λ b. ap (sent_loads state) (description_above (unit_in state) b level description answered (length out) w.if-description-gt255.true))) refl
          ];
    }

pub unit_in-requires : goal.unit_in-requires
unit_in-requires c = saved_size c.args.state.now (sym c.is_saved.ensures ∙ c.if-is_saved.true)

pub leave_sent-requires : goal.leave_sent-requires
leave_sent-requires c = saved_size c.args.state.now (sym c.is_saved.ensures ∙ c.if-is_saved.true)

pub returns-then-is_saved : goal.returns-then-is_saved
unfolding alert_result alert_state alert_out alert_loads
returns-then-is_saved c = let state = c.args.state.now in
    let p = c.args.protected in
    let level = c.args.level in
    let description = c.args.description in
    let answered = c.args.answered.now in
    let out = c.args.out.now in
    let result : Bool → ℕ = λ b. sent_result (alert_sent (unit_in state) b level description answered (length out)) in
    let left : Bool → List ℕ = λ b. sent_state state (alert_sent (unit_in state) b level description answered (length out)) in
    let loads : Bool → Loaded = λ b. sent_loads state (alert_sent (unit_in state) b level description answered (length out)) in
    let written : Bool → List ℕ = λ b. alert_output (unit_in state) b level description answered out in
    let is = c.is_saved.ensures in
    let yes = c.if-is_saved.true in
    let low = c.if-protected-gt1.false in
    let sent = c.send_alert-sent.ensures.exact ∙ ap (λ x. alert_sent x (eqb p 1) level description answered (length out)) c.unit_in.ensures in
    let put = c.send_alert-sent.ensures.bytes ∙ ap (λ x. alert_output x (eqb p 1) level description answered out) c.unit_in.ensures in
    record { exact = test_yes _ is yes (c.leave_sent.ensures.value ∙ ap sent_result sent ∙ sense_in p result not_taken low); unit = test_yes _ is yes (c.leave_sent.ensures.state_after ∙ ap (sent_state state) sent ∙ sense_in p left state low); bytes = test_yes _ is yes (put ∙ sense_in p written out low); loads = test_yes _ is yes (c.leave_sent.ensures.state_after_2 ∙ ap (sent_loads state) sent ∙ sense_in p loads (loaded state) low) }

pub returns : goal.returns
unfolding alert_result alert_state alert_out alert_loads
returns c = record { exact = test_no _ c.is_saved.ensures c.if-is_saved.false c.not_taken-2.ensures; unit = test_no _ c.is_saved.ensures c.if-is_saved.false refl; bytes = test_no _ c.is_saved.ensures c.if-is_saved.false refl; loads = test_no _ c.is_saved.ensures c.if-is_saved.false refl }
