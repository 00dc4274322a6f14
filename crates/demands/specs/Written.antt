-- Demand 2: "Records, alerts, hellos, key changes and Finished are read and written exactly as WAP-261 WTLS of 6
-- April 2001 defines them, within the stated profile." What is written is read back, and the well-formed hellos are
-- exactly those that are written. The laws stand in the layers that own the definitions.
use Rattle.std.specs.Prelude.{◌≡◌, ◌↔◌, Bool, true, false, List, ◌++◌, ℕ, ◌+◌, ◌<◌, length, take, drop, get_or, Ok, Some}
use Rattle.digest.specs.Hmac.{hmac}
use Rattle.digest.specs.Mac.{size_of}
use Rattle.digest.specs.declared.mac.Mac.{Mac}
use Rattle.record.specs.Reader.{read_of}
use Rattle.record.specs.Written.{record_of, byte_for, header_size}
use Rattle.record.specs.Code.{fragment_by, genuine_by}
use Rattle.record.specs.declared.header.Content.{Content}
use Rattle.record.specs.declared.reader.Record.{Record}
use Rattle.message.specs.Alert.{alert_of, alert_bytes}
use Rattle.message.specs.Change.{is_change, change_bytes}
use Rattle.message.specs.Finished.{finished_of, judged_of}
use Rattle.message.specs.Hello.{read_of as hello_read}
use Rattle.message.specs.Values.{Values, allowed, hello_of}
use Rattle.message.specs.declared.alert.Level.{Level}
use Rattle.message.specs.declared.alert.Description.{Description}
use Rattle.message.specs.declared.finished.Unverified.TheVariants as F
use Rattle.message.specs.declared.hello.Hello.{Hello}

-- a record as it is read: its fields, and where its fragment stands
abbrev pub as_read : Bool → Bool → Content → ℕ → ℕ → Record
as_read long protected content number size =
    record {
      byte = byte_for long protected content;
      content = content;
      protected = protected;
      number = number;
      start = 0;
      head = header_size long;
      size = size;
      used = header_size long + size;
    }

pub record ReadAsWritten : Type 0 where
  -- records: with a length, whatever stands behind; without one, up to the end
  pub long_record : (protected : Bool) (content : Content) (number : ℕ) (fragment tail : List ℕ) → number < 65536
      → 0 < length fragment
      → length fragment < 65536
      → read_of (record_of true protected content number fragment ++ tail)
      ≡ Ok (as_read true protected content number (length fragment))
  pub short_record : (protected : Bool) (content : Content) (number : ℕ) (fragment : List ℕ) → number < 65536
      → 0 < length fragment
      → read_of (record_of false protected content number fragment)
      ≡ Ok (as_read false protected content number (length fragment))
  pub its_fragment : (long protected : Bool) (content : Content) (number : ℕ) (fragment tail : List ℕ)
      → take (length fragment) (drop (header_size long) (record_of long protected content number fragment ++ tail))
      ≡ fragment
  -- codes: a fragment is genuine exactly if it is a content with its code behind it
  pub its_code : (key : List ℕ) (mac : Mac) (number byte : ℕ) (fragment : List ℕ)
      → (genuine_by (hmac key) (size_of mac) number byte fragment ≡ true)
      ↔ ((c : List ℕ) × (fragment ≡ fragment_by (hmac key) (size_of mac) number byte c))
  -- alerts, change cipher spec, Finished
  pub alerts : (level : Level) (description : Description) (checksum : ℕ) → checksum < 4294967296
      → alert_of (alert_bytes level description checksum)
      ≡ Some (record { level = level; description = description; checksum = checksum })
  pub changes : (s : List ℕ) → (is_change s ≡ true) ↔ (s ≡ change_bytes)
  pub finisheds : (m v : List ℕ) → length v ≡ 12 → (judged_of m v ≡ Ok tt) ↔ (m ≡ finished_of v)
  -- hellos, of bytes
  pub hellos : (m : List ℕ) → ((i : ℕ) → get_or m i 0 < 256)
      → ((h : Hello) × (hello_read m ≡ Ok h)) ↔ ((v : Values) × (allowed v ≡ true) × (hello_of v ≡ m))
