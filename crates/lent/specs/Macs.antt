-- The list of MAC kinds for a caller (02, P11): "Number, name and sizes are read from the list named".
use Rattle.std.specs.Prelude.{Bool, true, false, List, ℕ, ◌+◌, ◌*◌, ◌/◌, ◌%◌, length, ltb, Option, Some, None, Result, Ok, Err}
use Rattle.digest.specs.Pick.{pick}
use Rattle.digest.specs.Bytes.{laid_within}
use Rattle.digest.specs.Edition.{named_in, name_in, sizes_in}
use Rattle.digest.specs.Named.{Told}
use Rattle.digest.specs.declared.named.Sizes.{Sizes}
use Rattle.digest.specs.declared.named.Unnamed.{Unnamed}
use Rattle.digest.specs.declared.named.Unnamed.TheVariants.{Unlisted, UnknownEdition}
use Rattle.connection.specs.Refusal.{refusal_number}
use Rattle.connection.specs.declared.refusal.Refusal.TheVariants.{Room}
use Rattle.lent.specs.Calls.{result_of, not_taken}

-- the room that any name fits
abbrev pub name_room : ℕ
name_room = 10

-- the sizes as one count: 0 where the list does not show them
abbrev pub sizes_count : Option Sizes → ℕ
sizes_count (Some sizes) = 32768 + sizes.key % 128 * 256 + sizes.code % 256
sizes_count None = 0

-- as include/gateway.h takes them out of it
abbrev pub key_part : ℕ → ℕ
key_part count = count / 256 % 128

abbrev pub code_part : ℕ → ℕ
code_part count = count % 256

-- "an unknown edition is 16"
abbrev pub is_unknown : Result Told Unnamed → Bool
is_unknown (Ok told) = false
is_unknown (Err Unlisted) = false
is_unknown (Err UnknownEdition) = true

-- 16, then 6, then the name's size and the sizes: "an unlisted number has no name"
abbrev pub named_result : Result Told Unnamed → ℕ → ℕ
named_result said room =
    pick (is_unknown said) not_taken
    (pick (ltb room name_room) (result_of (refusal_number Room) 0 0) (result_of 0 (length (name_in said)) (sizes_count (sizes_in said))))

abbrev pub named_out : Result Told Unnamed → List ℕ → List ℕ
named_out said out =
    pick (is_unknown said) out (pick (ltb (length out) name_room) out (laid_within out 0 (name_in said)))

-- the call; an edition and a number are a byte each, and no other edition is known
unfoldable pub mac_result : ℕ → ℕ → ℕ → ℕ
mac_result edition number room =
    pick (ltb 255 edition) not_taken (pick (ltb 255 number) not_taken (named_result (named_in edition number) room))

unfoldable pub mac_out : ℕ → ℕ → List ℕ → List ℕ
mac_out edition number out =
    pick (ltb 255 edition) out (pick (ltb 255 number) out (named_out (named_in edition number) out))
