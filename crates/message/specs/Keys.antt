-- Lists of key exchange identifiers (002 10.5.1.2).
use Rattle.std.specs.Prelude.{List, Bool, false, ℕ, zero, suc, ◌+◌, length, get_or, ltb, eqb}
use Rattle.digest.specs.Pick.{pick}
use Rattle.message.specs.Field.{field_end, short_end, long_end, part_of}
use Rattle.message.specs.Set.{set_sound}

-- ParameterSpecifier: parameter_index, and in case 255 a parameter_set with its own 2-byte length, sound for the suite
unfoldable pub specifier_end : List ℕ → ℕ → ℕ → ℕ
specifier_end s at suite =
    pick (ltb at (length s))
    (pick (eqb (get_or s at 0) 255)
    (pick (set_sound suite (part_of s (at + 3) (long_end s (at + 1)))) (long_end s (at + 1)) 0)
    (at + 1))
    0

-- Identifier, by its identifier_type: null(0), text(1) with a CharacterSet of two bytes and a name<1..2^8-1>,
-- binary(2) identifier<1..2^8-1>, key_hash_sha(254) key_hash[20], x509_name(255) distinguished_name<1..2^8-1>
unfoldable pub identifier_end : List ℕ → ℕ → ℕ
identifier_end s at =
    pick (ltb at (length s))
    (pick (eqb (get_or s at 0) 0) (at + 1)
    (pick (eqb (get_or s at 0) 1) (short_end 1 255 s (at + 3))
    (pick (eqb (get_or s at 0) 2) (short_end 1 255 s (at + 1))
    (pick (eqb (get_or s at 0) 254) (field_end s (at + 1) 20)
    (pick (eqb (get_or s at 0) 255) (short_end 1 255 s (at + 1)) 0)))))
    0

-- KeyExchangeId: key_exchange_suite, parameter_specifier, identifier
unfoldable pub entry_end : List ℕ → ℕ → ℕ
entry_end s at =
    pick (ltb at (length s))
    (pick (eqb (specifier_end s (at + 1) (get_or s at 0)) 0) 0 (identifier_end s (specifier_end s (at + 1) (get_or s at 0))))
    0

-- entries from a place on, the last of which ends where the bytes end; at most as many as the first argument
unfoldable pub entries_from : ℕ → List ℕ → ℕ → Bool
entries_from zero s at = eqb at (length s)
entries_from (suc n) s at =
    pick (ltb at (length s)) (pick (eqb (entry_end s at) 0) false (entries_from n s (entry_end s at))) (eqb at (length s))

-- KeyExchangeId list<0..2^16-1>: the bytes are a list of entries, and each entry takes at least one byte
unfoldable pub key_list : List ℕ → Bool
key_list s = entries_from (length s) s 0

-- the end of a key list in a message: its length, then that many bytes of entries
unfoldable pub keys_end : List ℕ → ℕ → ℕ
keys_end m at = pick (key_list (part_of m (at + 2) (long_end m at))) (long_end m at) 0
