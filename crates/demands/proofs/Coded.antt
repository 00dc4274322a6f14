-- The content of a protected fragment stands before its code.
use mathlib.Core.Path.{◌≡◌}
use mathlib.Core.List.{List, ◌++◌}
use Prim.Native.Nat.{ℕ, ◌+◌, ◌-◌}
use native.Mathlib.Omega.{arith}
use lib.ListN.{length, take}
use lib.Seq.{take_at}
use Rattle.digest.specs.Hmac.{hmac}
use Rattle.digest.specs.Mac.{size_of}
use Rattle.digest.specs.declared.mac.Mac.{Mac}
use Rattle.record.specs.Code.{code_by, fragment_by}
use Rattle.record.proofs.ProtectedBytes.{protected_length}

pub content_before : (k : List ℕ) (mac : Mac) (number byte : ℕ) (body : List ℕ)
    → let f = fragment_by (hmac k) (size_of mac) number byte body in take (length f - size_of mac) f ≡ body
unfolding fragment_by
content_before k mac number byte body =
    let code : List ℕ = code_by (hmac k) (size_of mac) number byte body in
    let size : length (body ++ code) ≡ length body + size_of mac = protected_length_of in
    take_at body code (length (body ++ code) - size_of mac) (omega arith)
  where
    protected_length_of : length (body ++ code_by (hmac k) (size_of mac) number byte body) ≡ length body + size_of mac
    protected_length_of = protected_length k mac number byte body
