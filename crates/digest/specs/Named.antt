-- What a list of MAC kinds says of one kind (002 appendix A, table 6).
use Rattle.std.specs.Prelude.{◌≡◌, refl, ℕ, ◌≤◌, List, [], ◌∷◌, length, Option}
use Rattle.std.proofs.Common.{arith}
use Rattle.digest.specs.Pick.{pick}
use Rattle.digest.specs.Mac.{same_bytes}
use Rattle.digest.specs.declared.named.Name.{Name}
use Rattle.digest.specs.declared.named.Name.TheVariants as N
use Rattle.digest.specs.declared.named.Sizes.{Sizes}

-- its name, and its sizes where the list shows them
pub record Told : Type 0 where
  pub name : List ℕ
  pub sizes : Option Sizes

-- the bytes of each name
abbrev pub sha0 : List ℕ
sha0 = 83 ∷ 72 ∷ 65 ∷ 95 ∷ 48 ∷ []

abbrev pub sha40 : List ℕ
sha40 = 83 ∷ 72 ∷ 65 ∷ 95 ∷ 52 ∷ 48 ∷ []

abbrev pub sha80 : List ℕ
sha80 = 83 ∷ 72 ∷ 65 ∷ 95 ∷ 56 ∷ 48 ∷ []

abbrev pub sha : List ℕ
sha = 83 ∷ 72 ∷ 65 ∷ []

abbrev pub sha_xor40 : List ℕ
sha_xor40 = 83 ∷ 72 ∷ 65 ∷ 95 ∷ 88 ∷ 79 ∷ 82 ∷ 95 ∷ 52 ∷ 48 ∷ []

abbrev pub md540 : List ℕ
md540 = 77 ∷ 68 ∷ 53 ∷ 95 ∷ 52 ∷ 48 ∷ []

abbrev pub md580 : List ℕ
md580 = 77 ∷ 68 ∷ 53 ∷ 95 ∷ 56 ∷ 48 ∷ []

abbrev pub md5 : List ℕ
md5 = 77 ∷ 68 ∷ 53 ∷ []

-- a name of the table, and its bytes
abbrev pub bytes_of : Name → List ℕ
bytes_of N.Sha0 = sha0
bytes_of N.Sha40 = sha40
bytes_of N.Sha80 = sha80
bytes_of N.Sha = sha
bytes_of N.ShaXor40 = sha_xor40
bytes_of N.Md540 = md540
bytes_of N.Md580 = md580
bytes_of N.Md5 = md5

-- none is longer than ten
pub bytes_fit : (n : Name) → length (bytes_of n) ≤ 10
bytes_fit N.Sha0 = omega arith
bytes_fit N.Sha40 = omega arith
bytes_fit N.Sha80 = omega arith
bytes_fit N.Sha = omega arith
bytes_fit N.ShaXor40 = omega arith
bytes_fit N.Md540 = omega arith
bytes_fit N.Md580 = omega arith
bytes_fit N.Md5 = omega arith

-- the name that has these bytes, since no two have the same; of any others the last
unfoldable pub name_of : List ℕ → Name
name_of s =
    pick (same_bytes s sha0) N.Sha0
    (pick (same_bytes s sha40) N.Sha40
    (pick (same_bytes s sha80) N.Sha80
    (pick (same_bytes s sha) N.Sha
    (pick (same_bytes s sha_xor40) N.ShaXor40
    (pick (same_bytes s md540) N.Md540
    (pick (same_bytes s md580) N.Md580
    N.Md5))))))

pub name_back : (n : Name) → name_of (bytes_of n) ≡ n
unfolding name_of same_bytes
name_back N.Sha0 = refl
name_back N.Sha40 = refl
name_back N.Sha80 = refl
name_back N.Sha = refl
name_back N.ShaXor40 = refl
name_back N.Md540 = refl
name_back N.Md580 = refl
name_back N.Md5 = refl
