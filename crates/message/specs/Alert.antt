-- Alerts (002 10.2).
use Rattle.std.specs.Prelude.{List, [], ◌∷◌, ℕ, length, get_or, eqb, None, Option, Some}
use Rattle.message.specs.declared.alert.Alert.{Alert}
use Rattle.digest.specs.Pick.{pick}
use Rattle.digest.specs.Bytes.{word_at, bytes4}
use Rattle.message.specs.declared.alert.Level.{Level}
use Rattle.message.specs.declared.alert.Level.TheVariants.{Warning, Critical, Fatal}
use Rattle.message.specs.declared.alert.Description.{Description}
use Rattle.message.specs.declared.alert.Description.TheVariants.{ConnectionCloseNotify, SessionCloseNotify, NoConnection, UnexpectedMessage, TimeRequired, BadRecordMac, DecryptionFailed, RecordOverflow, DecompressionFailure, HandshakeFailure, BadCertificate, UnsupportedCertificate, CertificateRevoked, CertificateExpired, CertificateUnknown, IllegalParameter, UnknownCa, AccessDenied, DecodeError, DecryptError, UnknownKeyId, DisabledKeyId, KeyExchangeDisabled, SessionNotReady, UnknownParameterIndex, DuplicateFinishedReceived, ExportRestriction, ProtocolVersion, InsufficientSecurity, InternalError, UserCanceled, NoRenegotiation}

-- AlertLevel
abbrev pub level_number : Level → ℕ
level_number Warning = 1
level_number Critical = 2
level_number Fatal = 3

unfoldable pub level_of : ℕ → Option Level
level_of b =
    pick (eqb b 1) (Some Warning) (pick (eqb b 2) (Some Critical) (pick (eqb b 3) (Some Fatal) None))

-- AlertDescription
abbrev pub description_number : Description → ℕ
description_number ConnectionCloseNotify = 0
description_number SessionCloseNotify = 1
description_number NoConnection = 5
description_number UnexpectedMessage = 10
description_number TimeRequired = 11
description_number BadRecordMac = 20
description_number DecryptionFailed = 21
description_number RecordOverflow = 22
description_number DecompressionFailure = 30
description_number HandshakeFailure = 40
description_number BadCertificate = 42
description_number UnsupportedCertificate = 43
description_number CertificateRevoked = 44
description_number CertificateExpired = 45
description_number CertificateUnknown = 46
description_number IllegalParameter = 47
description_number UnknownCa = 48
description_number AccessDenied = 49
description_number DecodeError = 50
description_number DecryptError = 51
description_number UnknownKeyId = 52
description_number DisabledKeyId = 53
description_number KeyExchangeDisabled = 54
description_number SessionNotReady = 55
description_number UnknownParameterIndex = 56
description_number DuplicateFinishedReceived = 57
description_number ExportRestriction = 60
description_number ProtocolVersion = 70
description_number InsufficientSecurity = 71
description_number InternalError = 80
description_number UserCanceled = 90
description_number NoRenegotiation = 100

abbrev pub descriptions : List Description
descriptions =
    ConnectionCloseNotify ∷ SessionCloseNotify ∷ NoConnection ∷ UnexpectedMessage ∷ TimeRequired ∷ BadRecordMac ∷ DecryptionFailed ∷ RecordOverflow ∷ DecompressionFailure ∷ HandshakeFailure ∷ BadCertificate ∷ UnsupportedCertificate ∷ CertificateRevoked ∷ CertificateExpired ∷ CertificateUnknown ∷ IllegalParameter ∷ UnknownCa ∷ AccessDenied ∷ DecodeError ∷ DecryptError ∷ UnknownKeyId ∷ DisabledKeyId ∷ KeyExchangeDisabled ∷ SessionNotReady ∷ UnknownParameterIndex ∷ DuplicateFinishedReceived ∷ ExportRestriction ∷ ProtocolVersion ∷ InsufficientSecurity ∷ InternalError ∷ UserCanceled ∷ NoRenegotiation ∷ []

-- the description in a list that has a number
unfoldable pub among : List Description → ℕ → Option Description
among [] b = None
among (d ∷ ds) b = pick (eqb (description_number d) b) (Some d) (among ds b)

-- 01: "a description is sorted by its number, ranges of unassigned codes included, after the list in 10.2"
unfoldable pub sorted_of : ℕ → Option Description
sorted_of b = among descriptions b

-- Alert: level, description, opaque checksum[4]
abbrev pub described : Level → Option Description → ℕ → Option Alert
described level (Some d) checksum = Some (record { level = level; description = d; checksum = checksum })
described level None checksum = None

abbrev pub leveled : Option Level → Option Description → ℕ → Option Alert
leveled (Some level) s checksum = described level s checksum
leveled None s checksum = None

unfoldable pub alert_of : List ℕ → Option Alert
alert_of s =
    pick (eqb (length s) 6) (leveled (level_of (get_or s 0 0)) (sorted_of (get_or s 1 0)) (word_at s 2)) None

abbrev pub alert_bytes : Level → Description → ℕ → List ℕ
alert_bytes level d checksum = level_number level ∷ description_number d ∷ bytes4 checksum

-- 01, Refusal numbers: 12, malformed content; 0 where it is an alert
abbrev pub alert_number : Option Alert → ℕ
alert_number (Some alert) = 0
alert_number None = 12
