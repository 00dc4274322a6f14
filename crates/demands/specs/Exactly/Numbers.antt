-- The seventeen numbers of 01, "Refusal numbers", by the name that the answers have for each (02, P6: "18 is not given any more");
-- and words that several
-- rows share.
use Rattle.std.specs.Prelude.{◌≡◌, Bool, true, false, List, [], ◌∷◌, ℕ, eqb}
use Rattle.digest.specs.Pick.{pick}
use Rattle.record.specs.Header.{content_of}
use Rattle.record.specs.declared.header.Content.TheVariants as C
use Rattle.record.specs.declared.reader.Fault.TheVariants as F
use Rattle.connection.specs.Refusal.{refusal_number}
use Rattle.connection.specs.declared.refusal.Refusal.TheVariants as X

pub record Numbered : Type 0 where
  pub one : refusal_number (X.Framing F.Size) ≡ 1
  pub two : refusal_number (X.Framing F.Header) ≡ 2
  pub three : refusal_number (X.Framing F.Kind) ≡ 3
  pub four : refusal_number (X.Framing F.Fragment) ≡ 4
  pub five : refusal_number (X.Framing F.Ninth) ≡ 5
  pub six : refusal_number X.Room ≡ 6
  pub seven : refusal_number X.Ended ≡ 7
  pub eight : refusal_number X.NotAllowed ≡ 8
  pub nine : refusal_number X.Forged ≡ 9
  pub ten : refusal_number X.TooOld ≡ 10
  pub eleven : refusal_number X.Repeated ≡ 11
  pub twelve : refusal_number X.Malformed ≡ 12
  pub thirteen : refusal_number X.Unacceptable ≡ 13
  pub fourteen : refusal_number X.Checksum ≡ 14
  pub fifteen : refusal_number X.Spent ≡ 15
  pub sixteen : refusal_number X.Argument ≡ 16
  pub seventeen : refusal_number X.WrongFinished ≡ 17

-- 01, "Type byte": "bits 4 to 7 content: 1 change cipher spec, 2 alert, 3 handshake, 4 application data"
pub record ContentsNumbered : Type 0 where
  pub one : content_of 1 ≡ C.ChangeCipherSpec
  pub two : content_of 2 ≡ C.Alert
  pub three : content_of 3 ≡ C.Handshake
  pub four : content_of 4 ≡ C.Data

-- 002 10.2, AlertDescription: the numbers that are assigned
abbrev pub assigned_numbers : List ℕ
assigned_numbers =
    0 ∷ 1 ∷ 5 ∷ 10 ∷ 11 ∷ 20 ∷ 21 ∷ 22 ∷ 30 ∷ 40
    ∷ 42 ∷ 43 ∷ 44 ∷ 45 ∷ 46 ∷ 47 ∷ 48 ∷ 49 ∷ 50 ∷ 51 ∷ 52 ∷ 53 ∷ 54 ∷ 55 ∷ 56 ∷ 57
    ∷ 60 ∷ 70 ∷ 71 ∷ 80 ∷ 90 ∷ 100 ∷ []

unfoldable pub is_among : List ℕ → ℕ → Bool
is_among [] n = false
is_among (k ∷ ks) n = pick (eqb k n) true (is_among ks n)

abbrev pub is_assigned : ℕ → Bool
is_assigned n = is_among assigned_numbers n
