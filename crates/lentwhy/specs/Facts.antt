-- The reason of a refusal, with its facts, in 96 lent bytes (02, "Why was this report dropped?"): 24 numbers of four bytes, the most
-- significant byte first. A number that is not of the case is 0.
--
--     number
--          0  the refusal's number in 01's list; 0 where there is none
--          1  the number of the connection's state at that point
--          2  that of the handshake started beside it; 0 where there is none
--          3  what the record is: 1 change cipher spec, 2 alert, 3 handshake, 4 data
--          4  1 where it is protected
--          5  1 where it is a ClientHello
--          6  the record's place in the datagram
--          7  how many checksums of records that we sent are kept
--          8  under which keys: 1 the open ones, 2 the started ones; of 9 how many keys were tried
--          9  the first field at fault of a hello, or the first condition that fails
--         10  to 15: the numbers of the reason, in the order of `numbers_of`
--         16  to 23: the checksums, the newest first
use Rattle.std.specs.Prelude.{Bool, List, [], ◌∷◌, ◌++◌, ℕ, zero, suc, ◌%◌, get_or}
use Rattle.digest.specs.Pick.{pick}
use Rattle.digest.specs.Bytes.{bytes4}
use Rattle.message.specs.declared.hello.Field.{Field}
use Rattle.message.specs.declared.hello.Field.TheVariants as F
use Rattle.message.specs.declared.acceptance.Condition.{Condition}
use Rattle.message.specs.declared.acceptance.Condition.TheVariants as C
use Rattle.record.specs.Header.{number_of}
use Rattle.why.specs.Reason.{reason_number}
use Rattle.why.specs.declared.reason.Under.{Under}
use Rattle.why.specs.declared.reason.Under.TheVariants as U
use Rattle.why.specs.declared.reason.Reason.{Reason}
use Rattle.why.specs.declared.reason.Reason.TheVariants as R
use Rattle.why.specs.declared.reason.Why.{Why}
use Rattle.lent.specs.Fields.{joined}
use Rattle.lent.specs.Saved.{state_number}

abbrev pub facts_size : ℕ
facts_size = 96

-- as many as four bytes hold
abbrev pub word : ℕ → ℕ
word n = n % 4294967296

abbrev pub flag : Bool → ℕ
flag b = pick b 1 0

abbrev pub under_number : Under → ℕ
under_number U.Open = 1
under_number U.Started = 2

-- reading from the front: the size, the header, and the fields in the order of the structure (002 10.5.1.2)
abbrev pub field_number : Field → ℕ
field_number F.Size = 1
field_number F.Header = 2
field_number F.Version = 3
field_number F.Random = 4
field_number F.SessionId = 5
field_number F.ClientKeyIds = 6
field_number F.TrustedKeyIds = 7
field_number F.CipherSuites = 8
field_number F.CompressionMethods = 9
field_number F.SequenceNumberMode = 10
field_number F.KeyRefresh = 11
field_number F.Rest = 12

-- in 01's order
abbrev pub condition_number : Condition → ℕ
condition_number C.Version = 1
condition_number C.SessionId = 2
condition_number C.CipherSuite = 3
condition_number C.Compression = 4
condition_number C.Numbering = 5

-- numbers 8 to 15
abbrev pub eight_of : ℕ → ℕ → ℕ → ℕ → ℕ → ℕ → ℕ → ℕ → List ℕ
eight_of under first a b c d e f = under ∷ first ∷ a ∷ b ∷ c ∷ d ∷ e ∷ f ∷ []

abbrev pub numbers_of : Reason → List ℕ
numbers_of R.NotRefused = eight_of 0 0 0 0 0 0 0 0
numbers_of R.Argument = eight_of 0 0 0 0 0 0 0 0
numbers_of (R.Size size) = eight_of 0 0 (word size) 0 0 0 0 0
numbers_of (R.Header at left needs) = eight_of 0 0 (word at) (word left) (word needs) 0 0 0
numbers_of (R.TypeByte at byte) = eight_of 0 0 (word at) byte 0 0 0 0
numbers_of (R.Fragment at stated left) = eight_of 0 0 (word at) (word stated) (word left) 0 0 0
numbers_of (R.Ninth at) = eight_of 0 0 (word at) 0 0 0 0 0
numbers_of R.Ended = eight_of 0 0 0 0 0 0 0 0
numbers_of R.NotAllowed = eight_of 0 0 0 0 0 0 0 0
numbers_of (R.Forged number fragment key code) = eight_of 1 0 number (word fragment) key (word code) 0 0
numbers_of (R.ForgedTwice number fragment started scode opened ocode) =
    eight_of 2 0 number (word fragment) started (word scode) opened (word ocode)
numbers_of (R.TooOld under number highest limit) = eight_of (under_number under) 0 number highest limit 0 0 0
numbers_of (R.Repeated under number highest mark) = eight_of (under_number under) 0 number highest mark 0 0 0
numbers_of (R.BadHello field) = eight_of 0 (field_number field) 0 0 0 0 0 0
numbers_of (R.BadClear size first second) = eight_of 0 0 0 (word size) first second 0 0
numbers_of (R.BadProtected under number size first second) =
    eight_of (under_number under) 0 number (word size) first second 0 0
numbers_of (R.Unacceptable condition from size) = eight_of 0 (condition_number condition) (word from) (word size) 0 0 0 0
numbers_of (R.Checksum checksum) = eight_of 0 0 checksum 0 0 0 0 0
numbers_of (R.WrongFinished under number from) = eight_of (under_number under) 0 number (word from) 0 0 0 0

-- numbers 0 to 7
abbrev pub head_of : Why → List ℕ
head_of w =
    reason_number w.reason ∷ state_number w.state ∷ state_number w.started ∷ number_of w.content ∷ flag w.protected
    ∷ flag w.hello ∷ word w.place ∷ w.sent.count ∷ []

-- the bytes of the first n of a list of numbers
unfoldable pub spelled_first : List ℕ → ℕ → List (List ℕ)
spelled_first numbers zero = []
spelled_first numbers (suc n) = spelled_first numbers n ++ (bytes4 (get_or numbers n 0) ∷ [])

-- of eight numbers
unfoldable pub spelled : List ℕ → List ℕ
spelled numbers = joined (spelled_first numbers 8)

unfoldable pub facts_of : Why → List ℕ
facts_of w = joined (spelled (head_of w) ∷ spelled (numbers_of w.reason) ∷ spelled w.sent.checksums ∷ [])
