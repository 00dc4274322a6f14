-- The tally is the count: what is counted is the answers as the shore gives them, where it is proved.
use mathlib.Core.Path.{◌≡◌, refl, sym, ◌∙◌, ap₂}
use mathlib.Core.List.{List, [], ◌∷◌, map}
use Prim.Native.Nat.{ℕ, zero, suc, ◌+◌, ◌-◌, ◌≤◌}
use native.Mathlib.Omega.{arith}
use lib.ListN.{length, get_or, replicate, length-append, length-map, length-replicate}
use lib.Dec.{ltb}
use Rattle.record.specs.Datagram.{Framing, framed, faulty, framing_of}
use Rattle.connection.specs.Receive.{slot as slot_there_of}
use Rattle.connection.specs.Tally.{counted_answer, counted_first as counted_there}
use Rattle.connection.specs.declared.answer.Answer.TheVariants.{Nothing as NothingThere}
use Rattle.connection.specs.declared.tally.Tally.{Tally}
use Rattle.unit.specs.Answer.{slot}
use Rattle.unit.specs.Receive.{answers_of, slots_of, run_of, whole_of, framed_to, received_of}
use Rattle.unit.specs.Tally.{counted_first}
use Rattle.unit.specs.declared.answer.Answer.{Answer}
use Rattle.unit.specs.declared.answer.Answer.TheVariants.{Nothing}
use Rattle.unit.specs.declared.answer.Slot.{Slot}
use Rattle.unit.specs.declared.unit.Unit.{Unit as Ship}
use Rattle.unit.proofs.Running.{length_answers}
use Rattle.demands.specs.Ship.Counts.{slot_ashore, slots_ashore, tally_up_to, CountsRight}
use Rattle.demands.proofs.Counts.{eight_counts}
use Rattle.demands.proofs.Exactly.Reasons.{decide}
use Rattle.demands.proofs.Exactly.Whole.{Says, framing-says}

slot_there : (l : List Slot) (n : ℕ) → get_or (slots_ashore l) n (slot_there_of NothingThere) ≡ slot_ashore (get_or l n (slot Nothing))
slot_there [] n = refl
slot_there (s ∷ l) zero = refl
slot_there (s ∷ l) (suc n) = slot_there l n

first-there : (t : Tally) (l : List Slot) (n : ℕ) → counted_first t l n ≡ counted_there t (slots_ashore l) n
unfolding counted_first counted_there
first-there t l zero = refl
first-there t l (suc n) = ap₂ (λ x s. counted_answer x s.answer) (first-there t l n) (sym (slot_there l n))

slots_eight : (l : List Answer) → length l ≤ 8 → length (slots_of l) ≡ 8
unfolding slots_of
slots_eight l h =
    length-append (map slot l) (replicate (8 - length l) (slot Nothing))
    ∙ ap₂ (λ (x y : ℕ). x + y) (length-map l slot) (length-replicate (8 - length l) (slot Nothing))
    ∙ whole (length l) h
  where
    whole : (n : ℕ) → n ≤ 8 → n + (8 - n) ≡ 8
    whole n h = omega arith

framed-eight : (u : Ship) (d : List ℕ) (y : Framing) → Says d y → length (framed_to u d y).answers ≡ 8
unfolding run_of whole_of
framed-eight u d (framed rs) s = slots_eight (answers_of u d rs) (omega (arith, length_answers u d rs, s.few))
framed-eight u d (faulty fault at) s = slots_eight [] (omega arith)

eight : (u : Ship) (d : List ℕ) (room : ℕ) → length (received_of u d room).answers ≡ 8
unfolding received_of whole_of
eight u d room =
    decide (ltb room 128) (λ e. rw e (slots_eight [] (omega arith))) (λ e. rw e (framed-eight u d (framing_of d) (framing-says d)))

pub counts_right : CountsRight
unfolding CountsRight
counts_right u d room a b c e =
    let slots = (received_of u d room).answers in
    first-there (tally_up_to a b c e) slots 8
    ∙ eight_counts a b c e (slots_ashore slots) (length-map slots slot_ashore ∙ eight u d room)
