-- The records that we sent (02, "Alerts about an earlier record"): "A clear alert is now good if it matches any of the last eight
-- records that we sent since the last start, fewer if fewer were sent".
use Rattle.std.specs.Prelude.{Bool, true, false, List, [], ◌∷◌, ℕ, ◌+◌, take, replicate, eqb, ltb}
use Rattle.digest.specs.Pick.{pick}
use Rattle.digest.specs.Bytes.{word_at}
use Rattle.record.specs.Checksum.{checksum_of}
use Rattle.connection.specs.declared.sent.SentRecords.{SentRecords}

-- "the last eight"
abbrev pub records_kept : ℕ
records_kept = 8

-- the checksum of a record, as a number
abbrev pub sum_of : List ℕ → ℕ
sum_of bytes = word_at (checksum_of bytes) 0

-- the checksums that are kept, the newest first
abbrev pub sums_of : SentRecords → List ℕ
sums_of s = take s.count s.checksums

-- nothing was sent, or a start again has forgotten it
abbrev pub no_records : SentRecords
no_records = record { count = 0; checksums = replicate 8 0 }

-- one record more: the newest in front, cut to eight
unfoldable pub with_record : SentRecords → ℕ → SentRecords
with_record s sum =
    record {
      count = pick (ltb s.count records_kept) (s.count + 1) records_kept;
      checksums = take records_kept (sum ∷ s.checksums);
    }

-- a reply is three records: ServerHello, change cipher spec, Finished
abbrev pub with_reply : SentRecords → ℕ → ℕ → ℕ → SentRecords
with_reply s hello change finished = with_record (with_record (with_record s hello) change) finished

-- whether a number is one of these
unfoldable pub one_of : ℕ → List ℕ → Bool
one_of n [] = false
one_of n (m ∷ more) = pick (eqb n m) true (one_of n more)

-- "it matches any of" them
abbrev pub matches_of : SentRecords → ℕ → Bool
matches_of s sum = one_of sum (sums_of s)
