-- What is written of an alert is read back, and each name has its own number.
use mathlib.Core.Path.{◌≡◌, refl, sym, ◌∙◌, ap}
use mathlib.Core.List.{List}
use Prim.Native.Nat.{ℕ, ◌+◌, ◌*◌, ◌/◌, ◌%◌, ◌<◌}
use native.Mathlib.Omega.{arith}
use native.Mathlib.Nat.{div-div-eq-div-mul, div-add-mod'}
use lib.ListN.{length}
use borrow.Author.Tests.{ne_eqb}
use Rattle.digest.specs.Bytes.{word_at}
use Rattle.message.specs.Alert.{level_number, level_of, description_number, among, sorted_of, alert_of, alert_bytes, alert_number}
use Rattle.message.specs.declared.alert.Level.{Level}
use Rattle.message.specs.declared.alert.Level.TheVariants.{Warning, Critical, Fatal}
use Rattle.message.specs.declared.alert.Description.{Description}
use Rattle.message.specs.declared.alert.Description.TheVariants.{ConnectionCloseNotify, SessionCloseNotify, NoConnection, UnexpectedMessage, TimeRequired, BadRecordMac, DecryptionFailed, RecordOverflow, DecompressionFailure, HandshakeFailure, BadCertificate, UnsupportedCertificate, CertificateRevoked, CertificateExpired, CertificateUnknown, IllegalParameter, UnknownCa, AccessDenied, DecodeError, DecryptError, UnknownKeyId, DisabledKeyId, KeyExchangeDisabled, SessionNotReady, UnknownParameterIndex, DuplicateFinishedReceived, ExportRestriction, ProtocolVersion, InsufficientSecurity, InternalError, UserCanceled, NoRenegotiation}
use Rattle.std.specs.Prelude.{None, Some}

pub level_back : (l : Level) → level_of (level_number l) ≡ Some l
unfolding level_of
level_back Warning = refl
level_back Critical = refl
level_back Fatal = refl

pub description_back : (d : Description) → sorted_of (description_number d) ≡ Some d
unfolding sorted_of among
description_back ConnectionCloseNotify = refl
description_back SessionCloseNotify = refl
description_back NoConnection = refl
description_back UnexpectedMessage = refl
description_back TimeRequired = refl
description_back BadRecordMac = refl
description_back DecryptionFailed = refl
description_back RecordOverflow = refl
description_back DecompressionFailure = refl
description_back HandshakeFailure = refl
description_back BadCertificate = refl
description_back UnsupportedCertificate = refl
description_back CertificateRevoked = refl
description_back CertificateExpired = refl
description_back CertificateUnknown = refl
description_back IllegalParameter = refl
description_back UnknownCa = refl
description_back AccessDenied = refl
description_back DecodeError = refl
description_back DecryptError = refl
description_back UnknownKeyId = refl
description_back DisabledKeyId = refl
description_back KeyExchangeDisabled = refl
description_back SessionNotReady = refl
description_back UnknownParameterIndex = refl
description_back DuplicateFinishedReceived = refl
description_back ExportRestriction = refl
description_back ProtocolVersion = refl
description_back InsufficientSecurity = refl
description_back InternalError = refl
description_back UserCanceled = refl
description_back NoRenegotiation = refl

-- four bytes spell the number that they were written of
pub word_back : (n : ℕ) → n < 4294967296
    → ((n / 16777216 % 256 * 256 + n / 65536 % 256) * 256 + n / 256 % 256) * 256 + n % 256 ≡ n
word_back n h =
    let a : n / 256 / 256 ≡ n / 65536 = div-div-eq-div-mul n 256 256 in
    let b : n / 65536 / 256 ≡ n / 16777216 = div-div-eq-div-mul n 65536 256 in
    let x : n / 256 * 256 + n % 256 ≡ n = div-add-mod' n 256 in
    let y : n / 256 / 256 * 256 + n / 256 % 256 ≡ n / 256 = div-add-mod' (n / 256) 256 in
    let z : n / 65536 / 256 * 256 + n / 65536 % 256 ≡ n / 65536 = div-add-mod' (n / 65536) 256 in
    let t : n / 16777216 % 256 ≡ n / 16777216 = omega arith in
    joined (n / 16777216 % 256) (n / 16777216) (n / 65536 % 256) (n / 65536) (n / 256 % 256) (n / 256) (n % 256) n
    t (ap (λ (k : ℕ). k * 256 + n / 65536 % 256) (sym b) ∙ z) (ap (λ (k : ℕ). k * 256 + n / 256 % 256) (sym a) ∙ y) x
  where
    joined : (p q r s u v w m : ℕ) → p ≡ q → q * 256 + r ≡ s → s * 256 + u ≡ v → v * 256 + w ≡ m
        → ((p * 256 + r) * 256 + u) * 256 + w ≡ m
    joined p q r s u v w m e f g i = omega arith

pub alert_back : (l : Level) (d : Description) (n : ℕ) → n < 4294967296
    → alert_of (alert_bytes l d n) ≡ Some (record { level = l; description = d; checksum = n })
unfolding alert_of word_at
alert_back l d n h = rw (level_back l, description_back d, word_back n h) refl

-- the refusal numbers: 0 for what was written, 12 for bytes of another length
pub alert_number_lem : (l : Level) (d : Description) (n : ℕ) → n < 4294967296 → alert_number (alert_of (alert_bytes l d n)) ≡ 0
alert_number_lem l d n h = ap alert_number (alert_back l d n h)

pub alert_malformed : (s : List ℕ) → (length s ≡ 6 → ⊥) → alert_number (alert_of s) ≡ 12
unfolding alert_of
alert_malformed s h = rw (ne_eqb (length s) 6 h) refl

-- at the edges of the list in 10.2
pub sorted_57 : (sorted_of 57 ≡ Some DuplicateFinishedReceived) × (sorted_of 58 ≡ None)
unfolding sorted_of among
sorted_57 = (refl, refl)

pub sorted_100 : (sorted_of 100 ≡ Some NoRenegotiation) × (sorted_of 101 ≡ None)
unfolding sorted_of among
sorted_100 = (refl, refl)
