-- How long an accepted hello is: at least 20 bytes, so that its random, at the places 4 to 19, is whole; at most 256.
use mathlib.Core.Path.{◌≡◌, refl}
use mathlib.Core.List.{List}
use Prim.Native.Nat.{ℕ, ◌≤◌}
use native.Mathlib.Omega.{arith}
use lib.ListN.{length}
use Rattle.message.specs.Hello.{read_of}
use Rattle.message.specs.Acceptance.{heard_as, heard_of}
use Rattle.message.specs.declared.acceptance.Plan.{Plan}
use Rattle.message.proofs.Fields.{field_there}
use Rattle.message.proofs.Givens.{version_end, walked}
use Rattle.std.specs.Prelude.{Err, Ok, Result}
use Rattle.message.specs.declared.hello.Field.{Field}
use Rattle.message.specs.declared.hello.Hello.{Hello}

pub accepted_size : (m planted : List ℕ) (plan : Plan) → heard_of m planted ≡ Ok plan
    → (20 ≤ length m) × (length m ≤ 256)
unfolding heard_of
accepted_size m planted plan e = go (read_of m) refl e
  where
    go : (r : Result Hello Field) → read_of m ≡ r → heard_as m planted r ≡ Ok plan → (20 ≤ length m) × (length m ≤ 256)
    go (Ok h) f g =
        let w = walked m h f in
        let a = field_there m 3 1 w.version in
        let b = field_there m (version_end m) 16 w.random in
        (omega (arith, a.0, b.1), w.small)
    go (Err k) f g = let z : ◌≡◌ {A = ℕ} 0 1 = cc in absurd (omega arith)
