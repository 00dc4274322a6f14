-- Cases A to L of 01: each holds because the definitions compute to it.
use mathlib.Core.Path.{refl}
use Rattle.record.specs.Checksum.{checksum_of, padded, xor_with_blocks, xor_with}
use Rattle.record.specs.Keys.{key_number}
use Rattle.record.specs.Header.{kind_of, sound_kind, content_of}
use Rattle.record.specs.Reader.{read_of, read_as, framed_of}
use Rattle.record.specs.Datagram.{framing_of, framing_from}
use Rattle.record.specs.Cases.{All, cases}

pub cases_hold : All cases
unfolding checksum_of padded xor_with_blocks xor_with key_number kind_of sound_kind content_of read_of read_as framed_of framing_of framing_from
cases_hold =
    (refl, (refl, (refl, (refl, (refl, (refl, (refl, (refl, (refl, (refl, (refl, (refl, (refl, (refl, (refl, (refl, tt))))))))))))))))
