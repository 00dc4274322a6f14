-- Records written (002 9.2.1; 01, "The record on the wire"), and what a lent buffer holds afterwards.
use Rattle.std.specs.Prelude.{Bool, true, false, List, [], ◌∷◌, ◌++◌, ℕ, length, leb, None, Option, Some}
use Rattle.digest.specs.Pick.{pick}
use Rattle.digest.specs.Bytes.{bytes2, laid_over}
use Rattle.record.specs.Header.{byte_of, number_of}
use Rattle.record.specs.declared.header.Content.{Content}

-- the type byte of a record with a sequence number
unfoldable pub byte_for : Bool → Bool → Content → ℕ
byte_for long protected content =
    byte_of record { long = long; numbered = true; protected = protected; reserved = false; content = number_of content }

abbrev pub header_size : Bool → ℕ
header_size long = pick long 5 3

-- type byte, "then the sequence number (2 bytes), the length (2 bytes, if present)"
unfoldable pub header_of : Bool → Bool → Content → ℕ → ℕ → List ℕ
header_of long protected content number size =
    byte_for long protected content ∷ (bytes2 number ++ pick long (bytes2 size) [])

-- ".. the fragment"
unfoldable pub record_of : Bool → Bool → Content → ℕ → List ℕ → List ℕ
record_of long protected content number fragment =
    header_of long protected content number (length fragment) ++ fragment

-- "the counted bytes at the front and no others"; where they do not fit, none
unfoldable pub written_of : List ℕ → List ℕ → List ℕ
written_of out bytes = pick (leb (length bytes) (length out)) (laid_over out 0 bytes) out

-- the size of the bytes where they fit
unfoldable pub size_within : List ℕ → List ℕ → Option ℕ
size_within out bytes = pick (leb (length bytes) (length out)) (Some (length bytes)) None

unfoldable pub count_of : List ℕ → List ℕ → ℕ
count_of out bytes = pick (leb (length bytes) (length out)) (length bytes) 0
