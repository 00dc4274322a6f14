-- `mac`: two numbers out of range, then what the list says.
use mathlib.Core.Path.{refl, ◌∙◌, ap}
use mathlib.Core.List.{List}
use Prim.Native.Nat.{ℕ}
use lib.ListN.{length}
use borrow.Author.Tests.{lt-ltb, le-ltb}
use Rattle.digest.proofs.Picks.{pick_yes, pick_no}
use Rattle.lent.specs.Macs.{mac_result, mac_out, named_result, named_out}
use Rattle.lent.proofs.mac.Goals as goal
use Rattle.lent.proofs.mac.Goals.{then-edition-gt255-via-then-edition-gt255, then-edition-gt255-via-else-edition-gt255+then-number-gt255}

pub returns-then-edition-gt255 : goal.returns-then-edition-gt255
unfolding mac_result mac_out
returns-then-edition-gt255 c = let a = c.args in
    record {
      exact =
          elim c.then-edition-gt255.branch [
            | then-edition-gt255-via-then-edition-gt255 w ↦ pick_yes ℕ _ _ _ _ (lt-ltb 255 a.edition w.if-edition-gt255.true) c.not_taken.ensures
            | then-edition-gt255-via-else-edition-gt255+then-number-gt255 w ↦ pick_no ℕ _ _ _ _ (le-ltb 255 a.edition w.if-edition-gt255.false) (pick_yes ℕ _ _ _ _ (lt-ltb 255 a.number w.if-number-gt255.true) c.not_taken.ensures)
          ];
      bytes =
          elim c.then-edition-gt255.branch [
            | then-edition-gt255-via-then-edition-gt255 w ↦ pick_yes (List ℕ) _ _ _ _ (lt-ltb 255 a.edition w.if-edition-gt255.true) refl
            | then-edition-gt255-via-else-edition-gt255+then-number-gt255 w ↦ pick_no (List ℕ) _ _ _ _ (le-ltb 255 a.edition w.if-edition-gt255.false) (pick_yes (List ℕ) _ _ _ _ (lt-ltb 255 a.number w.if-number-gt255.true) refl)
          ];
    }

pub returns : goal.returns
unfolding mac_result mac_out
returns c = let out = c.args.out.now in
    let below = le-ltb 255 c.args.edition c.if-edition-gt255.false in
    let byte = le-ltb 255 c.args.number c.if-number-gt255.false in
    let named = c.mac_named.ensures.exact in
    record { exact = pick_no ℕ _ _ _ _ below (pick_no ℕ _ _ _ _ byte (c.leave_named.ensures.value ∙ ap (λ m. named_result m (length out)) named)); bytes = pick_no (List ℕ) _ _ _ _ below (pick_no (List ℕ) _ _ _ _ byte (c.leave_named.ensures.out_after ∙ ap (λ m. named_out m out) named)) }
