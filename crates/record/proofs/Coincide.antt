-- Two outcomes that meet the contract of one public call are the same: a theorem for each call, over the very predicate
-- of its `ensures` (`Determined`, in `digest`, says what is stated). A clause `exact`, or the only one, is an equation
-- for the result; of a writer `count` is that, and `bytes` one for the lent buffer, which w stands for, in its place
-- among the parameters. A `meaning` is not needed.
use mathlib.Core.Path.{refl, sym, ◌∙◌, ap}
use Rattle.digest.specs.Determined.{OneOutcome}
use Rattle.record.proofs.header.split as header-split
use Rattle.record.specs.contracts.header.split as header-split-contract
use Rattle.record.proofs.header.built as header-built
use Rattle.record.specs.contracts.header.built as header-built-contract
use Rattle.record.proofs.header.sound as header-sound
use Rattle.record.specs.contracts.header.sound as header-sound-contract
use Rattle.record.proofs.header.content_of as header-content-of
use Rattle.record.specs.contracts.header.content_of as header-content-of-contract
use Rattle.record.proofs.header.number_of as header-number-of
use Rattle.record.specs.contracts.header.number_of as header-number-of-contract
use Rattle.record.proofs.reader.fault_number as reader-fault-number
use Rattle.record.specs.contracts.reader.fault_number as reader-fault-number-contract
use Rattle.record.proofs.reader.read as reader-read
use Rattle.record.specs.contracts.reader.read as reader-read-contract
use Rattle.record.proofs.datagram.walked as datagram-walked
use Rattle.record.specs.contracts.datagram.walked as datagram-walked-contract
use Rattle.record.proofs.window.Window.fresh as window-window-fresh
use Rattle.record.specs.contracts.window.Window.fresh as window-window-fresh-contract
use Rattle.record.proofs.window.Window.arrival as window-window-arrival
use Rattle.record.specs.contracts.window.Window.arrival as window-window-arrival-contract
use Rattle.record.proofs.window.Window.emptied as window-window-emptied
use Rattle.record.specs.contracts.window.Window.emptied as window-window-emptied-contract
use Rattle.record.proofs.window.Window.accept as window-window-accept
use Rattle.record.specs.contracts.window.Window.accept as window-window-accept-contract
use Rattle.record.proofs.keys.Keys.key as keys-keys-key
use Rattle.record.specs.contracts.keys.Keys.key as keys-keys-key-contract
use Rattle.record.proofs.keys.key_number as keys-key-number
use Rattle.record.specs.contracts.keys.key_number as keys-key-number-contract
use Rattle.record.proofs.protection.Writing.size as protection-writing-size
use Rattle.record.specs.contracts.protection.Writing.size as protection-writing-size-contract
use Rattle.record.proofs.protection.Protection.open as protection-protection-open
use Rattle.record.specs.contracts.protection.Protection.open as protection-protection-open-contract
use Rattle.record.proofs.protection.Protection.write as protection-protection-write
use Rattle.record.specs.contracts.protection.Protection.write as protection-protection-write-contract
use Rattle.record.proofs.protection.Protection.with_window as protection-protection-with-window
use Rattle.record.specs.contracts.protection.Protection.with_window as protection-protection-with-window-contract
use Rattle.record.proofs.keys.record_key as keys-record-key
use Rattle.record.specs.contracts.keys.record_key as keys-record-key-contract
use Rattle.record.proofs.keys.derived as keys-derived
use Rattle.record.specs.contracts.keys.derived as keys-derived-contract
use Rattle.record.proofs.code.code as code-code
use Rattle.record.specs.contracts.code.code as code-code-contract
use Rattle.record.proofs.code.genuine as code-genuine
use Rattle.record.specs.contracts.code.genuine as code-genuine-contract
use Rattle.record.proofs.code.write_protected as code-write-protected
use Rattle.record.specs.contracts.code.write_protected as code-write-protected-contract
use Rattle.record.proofs.written.write_clear as written-write-clear
use Rattle.record.specs.contracts.written.write_clear as written-write-clear-contract
use Rattle.record.proofs.written.type_byte as written-type-byte
use Rattle.record.specs.contracts.written.type_byte as written-type-byte-contract
use Rattle.record.proofs.checksum.checksum as checksum-checksum
use Rattle.record.specs.contracts.checksum.checksum as checksum-checksum-contract
use Rattle.record.proofs.mask.mask as mask-mask
use Rattle.record.specs.contracts.mask.mask as mask-mask-contract
use Rattle.record.proofs.header.KindFromU8.from as header-kind-from-u8
use Rattle.record.specs.contracts.header.KindFromU8.from as header-kind-from-u8-contract
use Rattle.record.proofs.header.U8FromKind.from as header-u8-from-kind
use Rattle.record.specs.contracts.header.U8FromKind.from as header-u8-from-kind-contract
use Rattle.record.proofs.header.ContentFromU8.from as header-content-from-u8
use Rattle.record.specs.contracts.header.ContentFromU8.from as header-content-from-u8-contract
use Rattle.record.proofs.header.U8FromContent.from as header-u8-from-content
use Rattle.record.specs.contracts.header.U8FromContent.from as header-u8-from-content-contract
use Rattle.record.proofs.reader.U8FromFault.from as reader-u8-from-fault
use Rattle.record.specs.contracts.reader.U8FromFault.from as reader-u8-from-fault-contract
use Rattle.record.proofs.protection.UnopenedFromNotNew.from as protection-unopened-from-not-new
use Rattle.record.specs.contracts.protection.UnopenedFromNotNew.from as protection-unopened-from-not-new-contract

pub header_split_one : OneOutcome header-split-contract.ended header-split.Reads.Learnt
header_split_one κs a x y s u e f = (e ∙ sym f, refl)

pub header_built_one : OneOutcome header-built-contract.ended header-built.Reads.Learnt
header_built_one κs a x y s u e f = (e ∙ sym f, refl)

pub header_sound_one : OneOutcome header-sound-contract.ended header-sound.Reads.Learnt
header_sound_one κs a x y s u e f = (e ∙ sym f, refl)

pub header_content_of_one : OneOutcome header-content-of-contract.ended header-content-of.Reads.Learnt
header_content_of_one κs a x y s u e f = (e ∙ sym f, refl)

pub header_number_of_one : OneOutcome header-number-of-contract.ended header-number-of.Reads.Learnt
header_number_of_one κs a x y s u e f = (e ∙ sym f, refl)

pub reader_fault_number_one : OneOutcome reader-fault-number-contract.ended reader-fault-number.Reads.Learnt
reader_fault_number_one κs a x y s u e f = (e ∙ sym f, refl)

pub reader_read_one : OneOutcome reader-read-contract.ended reader-read.Reads.Learnt
reader_read_one κs a x y s u e f = (e ∙ sym f, refl)

pub datagram_walked_one : OneOutcome datagram-walked-contract.ended datagram-walked.Reads.Learnt
datagram_walked_one κs a x y s u e f = (e ∙ sym f, refl)

pub window_window_fresh_one : OneOutcome window-window-fresh-contract.ended window-window-fresh.Reads.Learnt
window_window_fresh_one κs a x y s u e f = (e.0 ∙ sym f.0, refl)

pub window_window_emptied_one : OneOutcome window-window-emptied-contract.ended window-window-emptied.Reads.Learnt
window_window_emptied_one κs a x y s u e f = (e ∙ sym f, refl)

pub window_window_arrival_one : OneOutcome window-window-arrival-contract.ended window-window-arrival.Reads.Learnt
window_window_arrival_one κs a x y s u e f = (e.0 ∙ sym f.0, refl)

pub window_window_accept_one : OneOutcome window-window-accept-contract.ended window-window-accept.Reads.Learnt
window_window_accept_one κs a x y s u e f = (e.0 ∙ sym f.0, refl)

pub keys_keys_key_one : OneOutcome keys-keys-key-contract.ended keys-keys-key.Reads.Learnt
keys_keys_key_one κs a x y s u e f = (e ∙ sym f, refl)

pub keys_key_number_one : OneOutcome keys-key-number-contract.ended keys-key-number.Reads.Learnt
keys_key_number_one κs a x y s u e f = (e ∙ sym f, refl)

pub keys_record_key_one : OneOutcome keys-record-key-contract.ended keys-record-key.Reads.Learnt
keys_record_key_one κs a x y s u e f = (e ∙ sym f, refl)

pub keys_derived_one : OneOutcome keys-derived-contract.ended keys-derived.Reads.Learnt
keys_derived_one κs a x y s u e f = (e ∙ sym f, refl)

pub code_code_one : OneOutcome code-code-contract.ended code-code.Reads.Learnt
code_code_one κs a x y s u e f = (e.0 ∙ sym f.0, refl)

pub code_genuine_one : OneOutcome code-genuine-contract.ended code-genuine.Reads.Learnt
code_genuine_one κs a x y s u e f = (e.0 ∙ sym f.0, refl)

pub code_write_protected_one : OneOutcome code-write-protected-contract.ended code-write-protected.Reads.Learnt
code_write_protected_one κs a x y s u e f =
    (e.0 ∙ sym f.0, ap (λ w. (tt, (tt, (tt, (tt, (tt, (tt, (w, tt)))))))) (e.1 ∙ sym f.1))

pub written_write_clear_one : OneOutcome written-write-clear-contract.ended written-write-clear.Reads.Learnt
written_write_clear_one κs a x y s u e f =
    (e.0 ∙ sym f.0, ap (λ w. (tt, (tt, (tt, (tt, (w, tt)))))) (e.1 ∙ sym f.1))

pub written_type_byte_one : OneOutcome written-type-byte-contract.ended written-type-byte.Reads.Learnt
written_type_byte_one κs a x y s u e f = (e ∙ sym f, refl)

pub checksum_checksum_one : OneOutcome checksum-checksum-contract.ended checksum-checksum.Reads.Learnt
checksum_checksum_one κs a x y s u e f = (e ∙ sym f, refl)

pub protection_protection_open_one : OneOutcome protection-protection-open-contract.ended protection-protection-open.Reads.Learnt
protection_protection_open_one κs a x y s u e f = (e ∙ sym f, refl)

pub protection_protection_write_one : OneOutcome protection-protection-write-contract.ended protection-protection-write.Reads.Learnt
protection_protection_write_one κs a x y s u e f =
    (e.0 ∙ sym f.0, ap (λ w. (tt, (tt, (tt, (tt, (w, tt)))))) (e.1 ∙ sym f.1))

pub protection_protection_with_window_one : OneOutcome protection-protection-with-window-contract.ended protection-protection-with-window.Reads.Learnt
protection_protection_with_window_one κs a x y s u e f = (e ∙ sym f, refl)

pub protection_writing_size_one : OneOutcome protection-writing-size-contract.ended protection-writing-size.Reads.Learnt
protection_writing_size_one κs a x y s u e f = (e ∙ sym f, refl)

pub mask_mask_one : OneOutcome mask-mask-contract.ended mask-mask.Reads.Learnt
mask_mask_one κs a x y s u e f = (refl, ap (λ w. (w, (tt, tt))) (e ∙ sym f))

-- The conversions: what comes back is what the law `from_gives` says.
pub header_kind_from_u8_one : OneOutcome header-kind-from-u8-contract.ended header-kind-from-u8.Reads.Learnt
header_kind_from_u8_one κs a x y s u e f = (e ∙ sym f, refl)

pub header_u8_from_kind_one : OneOutcome header-u8-from-kind-contract.ended header-u8-from-kind.Reads.Learnt
header_u8_from_kind_one κs a x y s u e f = (e ∙ sym f, refl)

pub header_content_from_u8_one : OneOutcome header-content-from-u8-contract.ended header-content-from-u8.Reads.Learnt
header_content_from_u8_one κs a x y s u e f = (e ∙ sym f, refl)

pub header_u8_from_content_one : OneOutcome header-u8-from-content-contract.ended header-u8-from-content.Reads.Learnt
header_u8_from_content_one κs a x y s u e f = (e ∙ sym f, refl)

pub reader_u8_from_fault_one : OneOutcome reader-u8-from-fault-contract.ended reader-u8-from-fault.Reads.Learnt
reader_u8_from_fault_one κs a x y s u e f = (e ∙ sym f, refl)

pub protection_unopened_from_not_new_one : OneOutcome protection-unopened-from-not-new-contract.ended protection-unopened-from-not-new.Reads.Learnt
protection_unopened_from_not_new_one κs a x y s u e f = (e ∙ sym f, refl)
