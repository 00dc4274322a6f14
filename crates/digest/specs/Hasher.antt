-- A message that comes in pieces: what each call makes of any hasher, and what a hasher means.
use Rattle.std.specs.Prelude.{◌≡◌, ℕ, ◌+◌, ◌*◌, ◌%◌, ◌^◌, List, ◌++◌, length, take, drop, replicate}
use Rattle.digest.specs.Bytes.{laid_over}
use Rattle.digest.specs.Sha1.{initial_state, absorb, blocks_of, padding, spelled}
use Rattle.digest.specs.declared.block.State.{State}
use Rattle.digest.specs.declared.pieces.Hasher.{Hasher}

-- no byte yet
abbrev pub fresh_hasher : Hasher
fresh_hasher = record { state = initial_state; rest = replicate 64 0; count = 0 }

-- the bytes that wait for a whole block
abbrev pub waiting : Hasher → List ℕ
waiting h = take (h.count % 64) h.rest

-- the piece s behind what came before: whole blocks are absorbed, and what is left waits
unfoldable pub updated : Hasher → List ℕ → Hasher
updated h s =
    let p = waiting h ++ s in
    record {
      state = absorb p (blocks_of p) h.state;
      rest = laid_over h.rest 0 (drop (64 * blocks_of p) p);
      count = (h.count + length s) % 2 ^ 64;
    }

-- the digest of what came
unfoldable pub finished : Hasher → List ℕ
finished h =
    let p = waiting h ++ padding h.count in spelled (absorb p (blocks_of p) h.state)

-- The hasher h has taken in the message m, and nothing else, since it stood at the state g with n bytes counted.
pub record AbsorbedFrom (g : State) (n : ℕ) (h : Hasher) (m : List ℕ) : Type 0 where
  pub state_is : h.state ≡ absorb m (blocks_of m) g
  pub waits : waiting h ≡ drop (64 * blocks_of m) m
  pub counts : h.count ≡ (n + length m) % 2 ^ 64

-- and since the start
abbrev pub Absorbed : Hasher → List ℕ → Type 0
Absorbed h m = AbsorbedFrom initial_state 0 h m

-- the digest of m from the state g on, with n bytes counted before
unfoldable pub digest_from : State → ℕ → List ℕ → List ℕ
digest_from g n m = let p = m ++ padding (n + length m) in spelled (absorb p (blocks_of p) g)

-- a hasher that stands at the state g behind one block
abbrev pub begun : State → Hasher
begun g = record { state = g; rest = replicate 64 0; count = 64 }

-- the digest, from the state g behind one block, of what h took in
abbrev pub ended : State → Hasher → List ℕ
ended g h = finished (updated (begun g) (finished h))
