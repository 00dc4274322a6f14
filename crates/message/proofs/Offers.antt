-- Laws of the offer: its pairs, and the ClientHello that offers it.
use Prim.Native.Nat.{◌≤◌}
use native.Mathlib.Omega.{arith}
use Rattle.message.specs.Offer.{pairs_size}
use Rattle.message.specs.declared.offer.Kinds.{Kinds}
use Rattle.message.specs.declared.offer.Kinds.TheVariants.{Sha80, Sha, Sha80First, ShaFirst}

pub pairs_most : (kinds : Kinds) → pairs_size kinds ≤ 4
pairs_most Sha80 = omega arith
pairs_most Sha = omega arith
pairs_most Sha80First = omega arith
pairs_most ShaFirst = omega arith
