-- `hex::Hex` shown: one piece more is written.
use Rattle.std.proofs.Common.{◌≡◌, List, ℕ, [], ◌++◌, sym, ap, ◌∙◌, rules, append_assoc, append-nil}
use Rattle.std.proofs.Output.{has_written_append, has_written_of_eq}
use Rattle.std.proofs.lemmas.List.{nil_from_length}
use Rattle.std.proofs.lemmas.List.Concat.{flat_map-append}
use Rattle.std.specs.Slice.Iter.{chunks_rest}
use Rattle.lines.specs.Shown.{pair_of, hex_of}
use Rattle.lines.proofs.hex.HexDisplay.fmt.Goals as goal

pub unreachable-requires : goal.unreachable-requires
unreachable-requires g c =
    c.in_default.ensures.cases.0 (rw c.as_slice.ensures.value c.digits-digits.ensures.text)

pub loop-piece-init : goal.loop-piece-init
loop-piece-init g c = (search rules, tt, search rules, λ plain. ([], search rules, search rules))

pub loop-piece-preserved : goal.loop-piece-preserved
loop-piece-preserved g c =
    let piece = c.in-Some.piece.now in
    let steps = c.in-Some.ensures.steps in
    let shown : c.in-Ok.text.now ≡ hex_of piece = c.in-Ok.ensures.cases.0 ∙ c.as_slice.ensures.value ∙ c.digits-digits.ensures.items in (
      search rules,
      tt,
      steps.0 ∙ c.loop-piece.invariant.2,
      λ plain.
          let so_far = c.loop-piece.invariant.3 plain in (
            so_far.0 ++ c.in-Ok.text.now,
            has_written_append _ _ _ _ _ _ so_far.1 (search rules),
            append_assoc so_far.0 _ _
                ∙ ap (λ (t : List ℕ). so_far.0 ++ t)
                (rw shown (sym (flat_map-append pair_of piece (chunks_rest c.next.new.self)) ∙ sym (ap hex_of steps.1.0)))
                ∙ so_far.2,
          ),
    )

pub returns-clause-writes : goal.returns-clause-writes
returns-clause-writes g c = λ plain _.
    let so_far = c.loop-piece.invariant.3 plain in
    let none = nil_from_length _ c.in-None.ensures.steps.1.0 in
    has_written_of_eq _ _ _ _ _ (rw (none, append-nil) at so_far.2) so_far.1
