-- The entries of a key list: as values, as they are written, and as they stand in a list (002 10.5.1.2).
use Rattle.std.specs.Prelude.{List, [], ◌∷◌, ◌++◌, Bool, true, ℕ, zero, suc, ◌+◌, length, get_or, leb, ltb, eqb}
use Rattle.digest.specs.Pick.{pick}
use Rattle.digest.specs.Bytes.{bytes2}
use Rattle.message.specs.Field.{both, short, long, long_end, two_at, part_of}
use Rattle.message.specs.Set.{ParameterSet, set_bytes, set_allowed, set_in}
use Rattle.message.specs.Keys.{specifier_end, identifier_end, entry_end}

-- Identifier, by its identifier_type: null, text with its character_set and name, binary, key_hash_sha, x509_name
pub data Identifier : Type 0 where
  null : Identifier
  text : ℕ → List ℕ → Identifier
  binary : List ℕ → Identifier
  hash : List ℕ → Identifier
  x509 : List ℕ → Identifier

-- ParameterSpecifier: an index, or in case 255 an explicit ParameterSet
pub data Parameters : Type 0 where
  indexed : ℕ → Parameters
  explicit : ParameterSet → Parameters

-- KeyExchangeId
pub record Entry : Type 0 where
  pub suite : ℕ
  pub parameters : Parameters
  pub identifier : Identifier

-- enum { null(0), text(1), binary(2), key_hash_sha(254), x509_name(255) } IdentifierType; uint16 CharacterSet
unfoldable pub identifier_bytes : Identifier → List ℕ
identifier_bytes null = 0 ∷ []
identifier_bytes (text set name) = 1 ∷ (bytes2 set ++ short name)
identifier_bytes (binary identifier) = 2 ∷ short identifier
identifier_bytes (hash key) = 254 ∷ key
identifier_bytes (x509 name) = 255 ∷ short name

-- "255 = explicit parameters are present in the next field", with their length in two bytes
unfoldable pub parameters_bytes : Parameters → List ℕ
parameters_bytes (indexed index) = index ∷ []
parameters_bytes (explicit set) = 255 ∷ long (set_bytes set)

unfoldable pub entry_bytes : Entry → List ℕ
entry_bytes e = e.suite ∷ (parameters_bytes e.parameters ++ identifier_bytes e.identifier)

unfoldable pub list_bytes : List Entry → List ℕ
list_bytes [] = []
list_bytes (e ∷ es) = entry_bytes e ++ list_bytes es

-- opaque name<1..2^8-1>, and the like
abbrev pub name_allowed : List ℕ → Bool
name_allowed name = both (leb 1 (length name)) (leb (length name) 255)

-- opaque key_hash[20]
unfoldable pub identifier_allowed : Identifier → Bool
identifier_allowed null = true
identifier_allowed (text set name) = both (ltb set 65536) (name_allowed name)
identifier_allowed (binary identifier) = name_allowed identifier
identifier_allowed (hash key) = eqb (length key) 20
identifier_allowed (x509 name) = name_allowed name

-- an index is 0 to 254; a set is one of its suite, and its length is two bytes
unfoldable pub parameters_allowed : ℕ → Parameters → Bool
parameters_allowed suite (indexed index) = ltb index 255
parameters_allowed suite (explicit set) = both (set_allowed suite set) (ltb (length (set_bytes set)) 65536)

unfoldable pub list_allowed : List Entry → Bool
list_allowed [] = true
list_allowed (e ∷ es) =
    both (both (parameters_allowed e.suite e.parameters) (identifier_allowed e.identifier)) (list_allowed es)

-- the entry that stands at a place of a list
unfoldable pub identifier_at : List ℕ → ℕ → Identifier
identifier_at s at =
    pick (eqb (get_or s at 0) 0) null
    (pick (eqb (get_or s at 0) 1) (text (two_at s (at + 1)) (part_of s (at + 4) (identifier_end s at)))
    (pick (eqb (get_or s at 0) 2) (binary (part_of s (at + 2) (identifier_end s at)))
    (pick (eqb (get_or s at 0) 254) (hash (part_of s (at + 1) (identifier_end s at)))
    (x509 (part_of s (at + 2) (identifier_end s at))))))

unfoldable pub parameters_at : List ℕ → ℕ → ℕ → Parameters
parameters_at s at suite =
    pick (eqb (get_or s at 0) 255) (explicit (set_in suite (part_of s (at + 3) (long_end s (at + 1))))) (indexed (get_or s at 0))

abbrev pub entry_at : List ℕ → ℕ → Entry
entry_at s at =
    record {
      suite = get_or s at 0;
      parameters = parameters_at s (at + 1) (get_or s at 0);
      identifier = identifier_at s (specifier_end s (at + 1) (get_or s at 0));
    }

-- the entries from a place on, at most as many as the first argument
unfoldable pub entries_at : ℕ → List ℕ → ℕ → List Entry
entries_at zero s at = []
entries_at (suc n) s at = pick (ltb at (length s)) (entry_at s at ∷ entries_at n s (entry_end s at)) []

unfoldable pub entries_in : List ℕ → List Entry
entries_in s = entries_at (length s) s 0
