-- `taken`: what receive gives of the datagram that is shown, or nothing.
use mathlib.Core.Path.{refl, sym, ap, ◌∙◌}
use lib.ListN.{length}
use Rattle.std.specs.Prelude.{Some}
use Rattle.digest.proofs.Picks.{pick_yes, pick_no}
use Rattle.connection.specs.Receive.{received_of, output_of}
use Rattle.short.specs.Message.{taken_of, heard_of}
use Rattle.short.proofs.take.taken.Goals as goal

pub returns-then-shows : goal.returns-then-shows
unfolding taken_of heard_of
returns-then-shows c =
    let a = c.args in
    let shown = sym c.shows.ensures.exact ∙ c.if-shows.true in
    record {
      value = pick_yes _ _ _ _ _ shown (ap Some (c.receive.ensures.exact ∙ ap (λ d. received_of a.c d a.random.now (length a.out.now)) c.datagram.ensures.exact));
      out_after = pick_yes _ _ _ _ _ shown (c.receive.ensures.bytes ∙ ap (λ d. output_of a.c d a.random.now a.out.now) c.datagram.ensures.exact);
    }

pub returns : goal.returns
unfolding taken_of heard_of
returns c =
    let none = sym c.shows.ensures.exact ∙ c.if-shows.false in
    record { value = pick_no _ _ _ _ _ none refl; out_after = pick_no _ _ _ _ _ none refl }
