-- A short message gathered on lent bytes (02, P2): the gatherer's step on the gatherer that the bytes hold.
use Rattle.std.specs.Prelude.{Bool, true, false, List, ℕ, length, eqb, Result, Ok, Err}
use Rattle.digest.specs.Pick.{pick}
use Rattle.gather.specs.Refusal.{refusal_number}
use Rattle.gather.specs.Gatherer.{Left, step_of}
use Rattle.gather.specs.declared.refusal.Refusal.{Refusal}
use Rattle.gather.specs.declared.refusal.Refusal.TheVariants as R
use Rattle.gather.specs.declared.gatherer.Answer.{Answer}
use Rattle.gather.specs.declared.gatherer.Answer.TheVariants as A
use Rattle.lent.specs.Calls.{result_of, not_taken}
use Rattle.lentshort.specs.Saved.{saved_gatherer, is_gatherer, gatherer_in, store_in, Loaded, Is, loaded_gatherer}
use Rattle.lentshort.specs.Said.{said_size, saying_of}

-- what is lent: 10 bytes to say what became of the message, and a saved gatherer
unfoldable pub lent_to_gather : List ℕ → ℕ → Bool
lent_to_gather gatherer saying = pick (eqb saying said_size) (is_gatherer gatherer) false

-- Which answers touch the gathering: "19 to 21 change nothing, the gathering included", 22 "drops the reference", and a message that
-- is shown where it was received "takes no reference".
abbrev pub drops : Refusal → Bool
drops R.Argument = false
drops R.Room = false
drops R.Header = false
drops R.Differs = false
drops R.Full = false
drops R.Long = true

abbrev pub touches : Result Answer Refusal → Bool
touches (Err refusal) = drops refusal
touches (Ok (A.Waiting ports reference have total)) = true
touches (Ok (A.Received ports start)) = false
touches (Ok (A.Gathered ports size)) = true

-- the lent gatherer after what its gatherer made of a message
unfoldable pub gatherer_after : List ℕ → Left → List ℕ
gatherer_after b l = pick (touches l.answer) (saved_gatherer l.gatherer l.store) b

unfoldable pub gatherer_then : List ℕ → Left → Loaded
gatherer_then b l = pick (touches l.answer) (Is l.gatherer l.store) (loaded_gatherer b)

-- the refusal's number of an answer that shows no datagram; 0 where it waits
abbrev pub unshown_number : Result Answer Refusal → ℕ
unshown_number (Err refusal) = refusal_number refusal
unshown_number (Ok answer) = 0

-- what a gathering leaves: its answer, and every byte that was lent to it
pub record Keeps : Type 0 where
  pub result : ℕ
  pub gatherer : List ℕ
  pub assembly : List ℕ
  pub said : List ℕ

abbrev pub keeps : ℕ → List ℕ → List ℕ → List ℕ → Keeps
keeps result gatherer assembly said = record { result = result; gatherer = gatherer; assembly = assembly; said = said }

-- the gatherer's own step, which has 6 for the assembly buffer, and 19 to 22
abbrev pub kept : List ℕ → List ℕ → Left → Keeps
kept gatherer said l =
    keeps (result_of (unshown_number l.answer) 0 0) (gatherer_after gatherer l) l.assembly (saying_of l.answer said)

unfoldable pub gather_keeps : List ℕ → List ℕ → List ℕ → List ℕ → Keeps
gather_keeps gatherer message assembly said =
    pick (lent_to_gather gatherer (length said)) (kept gatherer said (step_of (gatherer_in gatherer) (store_in gatherer) message assembly))
    (keeps not_taken gatherer assembly said)

unfoldable pub gather_loads : List ℕ → List ℕ → List ℕ → List ℕ → Loaded
gather_loads gatherer message assembly said =
    pick (lent_to_gather gatherer (length said))
    (gatherer_then gatherer (step_of (gatherer_in gatherer) (store_in gatherer) message assembly))
    (loaded_gatherer gatherer)
