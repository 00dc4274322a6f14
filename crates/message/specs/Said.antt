-- What stands in a hello, said of its values: laws that the definitions of reading and of acceptance keep. Proved in
-- proofs/SetsSaid.antt, proofs/ListsWritten.antt, proofs/ListsRead.antt, proofs/Written.antt and proofs/Saying.antt.
use Rattle.std.specs.Prelude.{◌≡◌, ◌⊎◌, ◌↔◌, List, [], true, false, ℕ, ◌+◌, ◌*◌, ◌<◌, length, get_or, Err, Ok, Result}
use Rattle.message.specs.declared.acceptance.Unheard.{Unheard}
use Rattle.digest.specs.Mac.{number_of}
use Rattle.digest.specs.declared.mac.Mac.{Mac}
use Rattle.message.specs.Set.{ParameterSet, is_diffie_hellman, is_elliptic_curve, set_bytes, set_allowed, set_sound, set_in, written_of}
use Rattle.message.specs.Keys.{key_list}
use Rattle.message.specs.Entry.{Entry, list_bytes, list_allowed, entries_in}
use Rattle.message.specs.Hello.{read_of}
use Rattle.message.specs.Values.{Values, hello_of, allowed, values_at, places_of}
use Rattle.message.specs.Acceptance.{heard_of}
use Rattle.message.specs.declared.hello.Hello.{Hello}
use Rattle.message.specs.declared.acceptance.Plan.{Plan}
use Rattle.message.specs.declared.acceptance.Condition.TheVariants as C
use Rattle.message.specs.declared.acceptance.Unheard.TheVariants as H

abbrev pub Bytes : List ℕ → Type 0
Bytes s = (i : ℕ) → get_or s i 0 < 256

-- Explicit sets are those that are written of values; what is read can be written back; "sets of other suites stay
-- skipped", and an empty set of a suite that has sets is malformed.
pub record SetsAsWritten : Type 0 where
  pub written : (suite : ℕ) (v : ParameterSet) → set_allowed suite v ≡ true
      → (set_sound suite (set_bytes v) ≡ true) × (set_in suite (set_bytes v) ≡ v)
  pub read : (suite : ℕ) (s : List ℕ) → Bytes s → set_sound suite s ≡ true
      → (set_allowed suite (set_in suite s) ≡ true) × (set_bytes (set_in suite s) ≡ s)
  pub image : (suite : ℕ) (s : List ℕ) → Bytes s
      → (set_sound suite s ≡ true) ↔ ((v : ParameterSet) × (set_allowed suite v ≡ true) × (set_bytes v ≡ s))
  pub back : (suite : ℕ) (s : List ℕ) → Bytes s → set_sound suite s ≡ true
      → (is_diffie_hellman suite ≡ true) ⊎ (is_elliptic_curve suite ≡ true) → written_of (set_in suite s) ≡ s
  pub skipped : (suite : ℕ) (s : List ℕ) → is_diffie_hellman suite ≡ false → is_elliptic_curve suite ≡ false
      → set_sound suite s ≡ true
  pub empty : (suite : ℕ) → (is_diffie_hellman suite ≡ true) ⊎ (is_elliptic_curve suite ≡ true) → set_sound suite [] ≡ false

-- Key lists are those that are written of entries.
pub record ListsAsWritten : Type 0 where
  pub written : (es : List Entry) → list_allowed es ≡ true
      → (key_list (list_bytes es) ≡ true) × (entries_in (list_bytes es) ≡ es)
  pub read : (s : List ℕ) → Bytes s → key_list s ≡ true
      → (list_allowed (entries_in s) ≡ true) × (list_bytes (entries_in s) ≡ s)

-- Hellos are those that are written of values: each field is read at the place where it was written, and has the value
-- that was written there.
pub record HellosAsWritten : Type 0 where
  pub written : (v : Values) → allowed v ≡ true
      → (read_of (hello_of v) ≡ Ok (places_of v)) × (values_at (hello_of v) (places_of v) ≡ v)
  pub read : (m : List ℕ) → Bytes m → (h : Hello) → read_of m ≡ Ok h
      → (allowed (values_at m h) ≡ true) × (hello_of (values_at m h) ≡ m) × (places_of (values_at m h) ≡ h)

-- "a pair of null cipher with SHA_80 or SHA": the pair of that place in a list of pairs
abbrev pub FitsAt : List ℕ → ℕ → Type 0
FitsAt s k = (get_or s (2 * k) 0 ≡ 0) × ((get_or s (2 * k + 1) 0 ≡ 2) ⊎ (get_or s (2 * k + 1) 0 ≡ 3))

-- "the first such pair is chosen"
pub record FirstPair (s : List ℕ) (mac : Mac) : Type 0 where
  pub place : ℕ
  pub there : 2 * place + 1 < length s
  pub cipher : get_or s (2 * place) 0 ≡ 0
  pub kind : get_or s (2 * place + 1) 0 ≡ number_of mac
  pub none_before : (k : ℕ) → k < place → FitsAt s k → ⊥

abbrev pub NoPair : List ℕ → Type 0
NoPair s = (k : ℕ) → 2 * k + 1 < length s → FitsAt s k → ⊥

-- "null compression"
abbrev pub NullIn : List ℕ → Type 0
NullIn s = (i : ℕ) × (i < length s) × (get_or s i 0 ≡ 0)

-- "version 1, the planted session identifier"
pub record Known (v : Values) (planted : List ℕ) : Type 0 where
  pub version : v.version ≡ 1
  pub session : v.session ≡ planted

-- "its key refresh is repeated back", "the client key number is 0"
pub record Accepts (v : Values) (planted : List ℕ) (plan : Plan) : Type 0 where
  pub known : Known v planted
  pub pair : FirstPair v.suites plan.mac
  pub compression : NullIn v.methods
  pub numbering : v.numbering ≡ 2
  pub refresh : plan.refresh ≡ v.refresh
  pub key : plan.key ≡ 0

-- what values say: the plan, or the first condition that fails, those before it being kept
abbrev pub Says : Values → List ℕ → Result Plan Unheard → Type 0
Says v planted (Ok plan) = Accepts v planted plan
Says v planted (Err (H.Unacceptable C.Version)) = v.version ≡ 1 → ⊥
Says v planted (Err (H.Unacceptable C.SessionId)) = (v.version ≡ 1) × (v.session ≡ planted → ⊥)
Says v planted (Err (H.Unacceptable C.CipherSuite)) = Known v planted × NoPair v.suites
Says v planted (Err (H.Unacceptable C.Compression)) =
    Known v planted × ((mac : Mac) × FirstPair v.suites mac) × (NullIn v.methods → ⊥)
Says v planted (Err (H.Unacceptable C.Numbering)) =
    Known v planted × ((mac : Mac) × FirstPair v.suites mac) × NullIn v.methods × (v.numbering ≡ 2 → ⊥)
Says v planted (Err (H.Malformed fault)) = ⊥

-- What is heard of a hello that is written of values is what they say, and nothing else.
pub record HeardAsSaid : Type 0 where
  pub said : (v : Values) (planted : List ℕ) → allowed v ≡ true → Says v planted (heard_of (hello_of v) planted)
  pub only : (v : Values) (planted : List ℕ) → allowed v ≡ true → (h : Result Plan Unheard) → Says v planted h
      → heard_of (hello_of v) planted ≡ h
