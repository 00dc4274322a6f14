-- The type byte of a record (002 9.2.1; 01, "The record on the wire").
use Rattle.std.specs.Prelude.{Bool, false, ℕ, ◌+◌, ◌-◌, ◌/◌, ◌%◌, ◌^◌, eqb, leb}
use Rattle.digest.specs.Pick.{pick}
use Rattle.record.specs.declared.header.Kind.{Kind}
use Rattle.record.specs.declared.header.Content.{Content}
use Rattle.record.specs.declared.header.Content.TheVariants.{ChangeCipherSpec, Alert, Handshake, Data}

-- bit k of a byte; bit 0 is the most significant one
abbrev pub bit : ℕ → ℕ → Bool
bit k byte = eqb (byte / 2 ^ (7 - k) % 2) 1

-- bit 0 length present, bit 1 sequence number present, bit 2 protected, bit 3 reserved, bits 4 to 7 content
unfoldable pub kind_of : ℕ → Kind
kind_of byte =
    record { long = bit 0 byte; numbered = bit 1 byte; protected = bit 2 byte; reserved = bit 3 byte; content = byte % 16 }

-- the weight of bit k where it is set
abbrev pub weight : ℕ → Bool → ℕ
weight k set = pick set (2 ^ (7 - k)) 0

-- the byte of these parts
abbrev pub byte_of : Kind → ℕ
byte_of k =
    weight 0 k.long + weight 1 k.numbered + weight 2 k.protected + weight 3 k.reserved + k.content % 16

-- "reserved bit set, no sequence number, content not 1 to 4": where refusal 3 is not given
unfoldable pub sound_kind : Kind → Bool
sound_kind k = pick k.numbered (pick k.reserved false (pick (leb 1 k.content) (leb k.content 4) false)) false

-- 1 change cipher spec, 2 alert, 3 handshake, 4 application data
unfoldable pub content_of : ℕ → Content
content_of n = pick (eqb n 1) ChangeCipherSpec (pick (eqb n 2) Alert (pick (eqb n 3) Handshake Data))

abbrev pub number_of : Content → ℕ
number_of ChangeCipherSpec = 1
number_of Alert = 2
number_of Handshake = 3
number_of Data = 4
