-- A record of a datagram, by what its bytes say.
use Rattle.std.specs.Prelude.{Bool, List, ℕ}
use Rattle.record.specs.declared.header.Content.{Content}
use Rattle.record.specs.declared.reader.Record.{Record}
use Rattle.connection.specs.Judge.{fragment_of}

pub record Seen : Type 0 where
  -- the type byte as on the wire, its bit 2 and its bits 4 to 7
  pub byte : ℕ
  pub protected : Bool
  pub content : Content
  -- "then the sequence number (2 bytes)"
  pub number : ℕ
  pub fragment : List ℕ
  -- where the record begins: 0 for the first of its datagram
  pub at : ℕ

-- a record as it was read; that this is what the bytes of a soundly framed datagram say is `Exactly.Record.SeenInPlace`
abbrev pub seen_in : List ℕ → Record → Seen
seen_in d r =
    record {
      byte = r.byte;
      protected = r.protected;
      content = r.content;
      number = r.number;
      fragment = fragment_of d r;
      at = r.start;
    }
