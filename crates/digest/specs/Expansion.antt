-- The expansion P_hash and the pseudo-random function (002 section 11.3.2). `mac` is HMAC_hash under the secret.
use Rattle.std.specs.Prelude.{ℕ, zero, suc, ◌+◌, ◌/◌, List, [], ◌++◌, take}
use Rattle.digest.specs.Hmac.{hmac}

-- A(0) = seed, A(i) = HMAC_hash(secret, A(i - 1))
unfoldable pub chain : (List ℕ → List ℕ) → List ℕ → ℕ → List ℕ
chain mac seed zero = seed
chain mac seed (suc i) = mac (chain mac seed i)

-- HMAC_hash(secret, A(1) + seed) + HMAC_hash(secret, A(2) + seed) + .., n terms of it
unfoldable pub terms : (List ℕ → List ℕ) → List ℕ → ℕ → List ℕ
terms mac seed zero = []
terms mac seed (suc i) = terms mac seed i ++ mac (chain mac seed (suc i) ++ seed)

-- as many terms as n bytes take, the rest of the last one discarded
unfoldable pub expansion : (List ℕ → List ℕ) → List ℕ → ℕ → List ℕ
expansion mac seed n = take n (terms mac seed ((n + 19) / 20))

-- PRF(secret, label, seed) = P_hash(secret, label + seed), its first n bytes
unfoldable pub prf : List ℕ → List ℕ → List ℕ → ℕ → List ℕ
prf secret label seed n = expansion (hmac secret) (label ++ seed) n
