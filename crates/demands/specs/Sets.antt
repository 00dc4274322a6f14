-- "Acceptance of a hello does not depend on the values" (of its explicit sets): two hellos of one layout, which differ only
-- inside the values of their sets, are answered alike.
use Rattle.std.specs.Prelude.{◌≡◌, true, List, ℕ, length}
use Rattle.record.specs.declared.reader.Record.{Record}
use Rattle.message.specs.Said.{SetsAsWritten}
use Rattle.message.specs.Values.{Values, allowed, hello_of}
use Rattle.message.specs.Blank.{blanked, entries_ranged, HeardAlike}
use Rattle.connection.specs.Judge.{judged_record, fragment_of}
use Rattle.connection.specs.declared.handshake.Handshake.{Handshake}
use Rattle.demands.specs.Seen.{seen_in}
use Rattle.demands.specs.Table.{Greets}
use Rattle.connection.specs.declared.sent.SentRecords.{SentRecords}

-- the message that a record brings is the hello of these values
pub record Brings (d : List ℕ) (r : Record) (v : Values) : Type 0 where
  pub message : fragment_of d r ≡ hello_of v
  pub sound : allowed v ≡ true

-- the answers to both, where each greets: a reply of the same size, or the same refusal
pub record AnsweredAlike : Type 0 where
  pub sound : (v w : Values) → blanked v ≡ blanked w → entries_ranged w.client ≡ true → entries_ranged w.trusted ≡ true
      → allowed v ≡ true → allowed w ≡ true
  pub answered : (h : Handshake) (sent : SentRecords) (random d e : List ℕ) (r q : Record) (v w : Values)
      → length random ≡ 16
      → length h.id ≡ 8
      → blanked v ≡ blanked w
      → Brings d r v
      → Brings e q w
      → Greets h (seen_in d r)
      → Greets h (seen_in e q)
      → (judged_record h sent random d r).answer ≡ (judged_record h sent random e q).answer

-- explicit sets, read and written exactly, and of no weight in what is accepted
pub record Sets : Type 0 where
  pub as_written : SetsAsWritten
  pub heard_alike : HeardAlike
  pub answered_alike : AnsweredAlike
