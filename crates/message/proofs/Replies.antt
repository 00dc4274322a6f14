-- Laws of the ServerHello: what is written by the sizes given, how long it is, and its pieces put one after the other.
use mathlib.Core.Path.{◌≡◌, refl, subst}
use mathlib.Core.List.{List, [], ◌∷◌, ◌++◌}
use Prim.Native.Nat.{ℕ, ◌+◌, ◌/◌, ◌%◌, ◌≤◌, ◌<◌}
use native.Mathlib.Omega.{arith}
use lib.ListN.{length, length-append}
use borrow.Author.Tests.{eq-eqb, ne_eqb, le-leb, lt-leb}
use Rattle.digest.specs.Mac.{number_of}
use Rattle.message.specs.Buffer.{Puts}
use Rattle.message.specs.Field.{short}
use Rattle.message.specs.Server.{server_body, server_hello_of, reply_of}
use Rattle.message.specs.declared.acceptance.Plan.{Plan}
use Rattle.message.proofs.Buffers.{put_on}

module _ (random session : List ℕ) (plan : Plan) where
  pub reply_random : (length random ≡ 16 → ⊥) → reply_of random session plan ≡ []
  unfolding reply_of
  reply_random h = rw (ne_eqb (length random) 16 h) refl

  pub reply_session : length random ≡ 16 → 8 < length session → reply_of random session plan ≡ []
  unfolding reply_of
  reply_session h k = rw (eq-eqb (length random) 16 h, lt-leb (length session) 8 k) refl

  pub reply_hello : length random ≡ 16 → length session ≤ 8 → reply_of random session plan ≡ server_hello_of random session plan
  unfolding reply_of
  reply_hello h k = rw (eq-eqb (length random) 16 h, le-leb (length session) 8 k) refl

  abbrev tail : List ℕ
  tail = plan.key ∷ 0 ∷ number_of plan.mac ∷ 0 ∷ 2 ∷ plan.refresh ∷ []

  pub length_server : length (server_hello_of random session plan) ≡ 11 + length random + length session
  length_server = omega (arith, length-append random (short session ++ tail), length-append session tail)

  pub put_server : length random ≡ 16 → length session ≤ 8 → (o o1 o2 o3 o4 : List ℕ) (a1 a2 a3 a4 : ℕ)
      → Puts (2 ∷ 0 ∷ (24 + length session) ∷ 1 ∷ []) o 0 o1 a1
      → Puts random o1 a1 o2 a2
      → Puts (short session) o2 a2 o3 a3
      → Puts tail o3 a3 o4 a4
      → Puts (server_hello_of random session plan) o 0 o4 a4
  put_server h k o o1 o2 o3 o4 a1 a2 a3 a4 p1 p2 p3 p4 =
      let n = length (server_body random session plan) in
      let e : 0 ≡ n / 256 % 256 = omega (arith, length_server) in
      let f : 24 + length session ≡ n % 256 = omega (arith, length_server) in
      let q : Puts (2 ∷ (n / 256 % 256) ∷ (n % 256) ∷ 1 ∷ []) o 0 o1 a1 =
      subst (λ (x : ℕ). Puts (2 ∷ n / 256 % 256 ∷ x ∷ 1 ∷ []) o 0 o1 a1) f
      (subst (λ (x : ℕ). Puts (2 ∷ x ∷ (24 + length session) ∷ 1 ∷ []) o 0 o1 a1) e p1) in
      put_on (2 ∷ (n / 256 % 256) ∷ (n % 256) ∷ 1 ∷ []) (random ++ (short session ++ tail)) o o1 o4 0 a1 a4 q
      (put_on random (short session ++ tail) o1 o2 o4 a1 a2 a4 p2 (put_on (short session) tail o2 o3 o4 a2 a3 a4 p3 p4))
