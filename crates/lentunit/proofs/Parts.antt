-- The parts of a saved unit that a handshake ashore has too, at the unit's places.
use mathlib.Core.Path.{◌≡◌, ◌∙◌, ap}
use mathlib.Core.List.{List}
use Prim.Native.Nat.{ℕ}
use native.Mathlib.Omega.{arith}
use Rattle.lent.specs.Fields.{bytes_in}
use Rattle.lent.specs.Saved.{mac_numbered, keys_of, window_of, protection_of}
use Rattle.lent.proofs.PartsOf.{part_bytes, part_byte, part_two, part_word, part_eight}
use Rattle.lentunit.specs.Saved.{keys_in, window_in, protection_in}

pub window_parts : (b : List ℕ) → window_of (bytes_in b 161 11) ≡ window_in b
unfolding window_of window_in
window_parts b = λ i. record {
  width = part_byte b 161 11 0 (omega arith) i;
  highest = part_two b 161 11 1 (omega arith) i;
  marks = part_eight b 161 11 3 (omega arith) i;
}

keys_parts : (b : List ℕ) → keys_of (bytes_in b 49 54) ≡ keys_in b
unfolding keys_of keys_in
keys_parts b = λ i. record {
  secret = part_bytes b 49 54 0 20 (omega arith) i;
  server = part_bytes b 49 54 20 16 (omega arith) i;
  client = part_bytes b 49 54 36 16 (omega arith) i;
  mac = mac_numbered (part_byte b 49 54 52 (omega arith) i);
  refresh = part_byte b 49 54 53 (omega arith) i;
}

pub protection_parts : (b : List ℕ) → protection_of (bytes_in b 49 54) (bytes_in b 161 19) ≡ protection_in b
unfolding protection_of protection_in
protection_parts b = λ i. record {
  keys = keys_parts b i;
  window = (ap window_of (part_bytes b 161 19 0 11 (omega arith)) ∙ window_parts b) i;
  protected = part_word b 161 19 11 (omega arith) i;
  clear = part_word b 161 19 15 (omega arith) i;
}
