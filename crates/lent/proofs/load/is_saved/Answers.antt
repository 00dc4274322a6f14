-- `load::is_saved`: the tests in their order.
use mathlib.Core.Path.{refl, sym, ◌∙◌}
use native.Mathlib.Omega.{arith}
use lib.ListN.{length}
use Rattle.digest.specs.Bytes.{word_at}
use Rattle.digest.proofs.Picks.{pick_yes, pick_no, if_eq, if_ne}
use Rattle.lent.specs.Saved.{is_saved}
use Rattle.lent.proofs.Within.{four_stands}
use Rattle.lent.proofs.load.is_saved.Goals as goal
use Rattle.lent.proofs.load.is_saved.Goals.{then-b-ne-SIZE-via-then-b-ne-SIZE, then-b-ne-SIZE-via-else-b-ne-SIZE+then-four_within-ne-MARK}

pub returns-then-b-ne-SIZE : goal.returns-then-b-ne-SIZE
unfolding is_saved
returns-then-b-ne-SIZE c = record {
  exact = let b = c.args.b.now in
      elim c.then-b-ne-SIZE.branch [
        | then-b-ne-SIZE-via-then-b-ne-SIZE w ↦ if_ne _ (length b) 940 (λ e. omega (arith, e, w.if-b-ne-SIZE.true)) refl
        | then-b-ne-SIZE-via-else-b-ne-SIZE+then-four_within-ne-MARK w ↦
            if_eq _ (length b) 940 (omega (arith, w.if-b-ne-SIZE.false))
            (if_ne _ (word_at b 0) 0x57544704 (λ e. omega (arith, e, w.four_within.ensures.exact, four_stands b 0 (omega (arith, w.if-b-ne-SIZE.false)), w.if-four_within-ne-MARK.true)) refl)
      ];
}

pub returns-then-is_handshake : goal.returns-then-is_handshake
unfolding is_saved
returns-then-is_handshake c = record {
  exact = let b = c.args.b.now in
      if_eq _ (length b) 940 (omega arith)
      (if_eq _ (word_at b 0) 0x57544704 (omega (arith, c.four_within.ensures.exact, four_stands b 0 (omega arith)))
      (pick_yes _ _ _ _ _ (sym c.is_handshake.ensures ∙ c.if-is_handshake.true) c.is_handshake-then-is_handshake.ensures));
}

pub returns-else-is_handshake : goal.returns-else-is_handshake
unfolding is_saved
returns-else-is_handshake c = record {
  exact = let b = c.args.b.now in
      if_eq _ (length b) 940 (omega arith)
      (if_eq _ (word_at b 0) 0x57544704 (omega (arith, c.four_within.ensures.exact, four_stands b 0 (omega arith)))
      (pick_no _ _ _ _ _ (sym c.is_handshake.ensures ∙ c.if-is_handshake.false) c.if-is_handshake.false));
}
