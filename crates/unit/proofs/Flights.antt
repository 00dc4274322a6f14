-- The flight: its two records one behind the other, and the unit that a ServerHello leaves.
use mathlib.Core.Path.{◌≡◌, sym, ◌∙◌, ap, ap₂}
use mathlib.Core.Bool.{true, false}
use mathlib.Core.List.{List, ◌++◌, append_assoc, append-nil}
use Prim.Native.Nat.{ℕ, ◌+◌, ◌-◌, ◌≤◌}
use native.Mathlib.Omega.{arith}
use lib.ListN.{length, replicate, length-append, length-replicate}
use Rattle.digest.specs.Mac.{size_of}
use Rattle.digest.specs.Bytes.{laid_over, laid_within}
use Rattle.digest.proofs.Codes.{laid_zeros}
use Rattle.digest.proofs.Lay.{length_laid}
use Rattle.record.specs.Written.{record_of, written_of}
use Rattle.record.specs.Protection.{record_under, next_record, output_by}
use Rattle.record.specs.declared.header.Content.TheVariants as C
use Rattle.record.specs.declared.keys.Keys.{Keys}
use Rattle.record.specs.declared.keys.Sense.TheVariants.{FromUnit}
use Rattle.record.specs.declared.protection.Protection.{Protection}
use Rattle.record.proofs.Fronts.{laid_next}
use Rattle.record.proofs.ProtectedBytes.{size_most}
use Rattle.record.proofs.Protecting.{record_under_length, output_when}
use Rattle.message.specs.Change.{change_bytes}
use Rattle.connection.specs.Reply.{change_record, pad_to}
use Rattle.connection.proofs.Filling.{written_whole, within}
use Rattle.connection.proofs.Replying.{change_size}
use Rattle.unit.specs.Agree.{flight_bytes, flight_with}

finished_size : (keys : Keys) (ours : List ℕ) → length ours ≡ 15
    → length (record_under keys FromUnit C.Handshake 0 ours) ≡ 18 + size_of keys.mac
finished_size keys ours l = record_under_length keys FromUnit C.Handshake 0 ours ∙ omega arith

pub flight_size_lem : (keys : Keys) (ours : List ℕ) → length ours ≡ 15 → length (flight_bytes keys ours) ≡ 24 + size_of keys.mac
unfolding flight_bytes
flight_size_lem keys ours l =
    length-append change_record (record_under keys FromUnit C.Handshake 0 ours) ∙ omega (arith, change_size, finished_size keys ours l)

-- two pieces that fill a room
two_laid : (a b d₁ d₂ : List ℕ) → length a ≡ 6 → length b ≡ 38
    → d₁ ≡ laid_within (replicate 44 0) 0 a → d₂ ≡ laid_within d₁ 6 b → d₂ ≡ a ++ b
two_laid a b d₁ d₂ la lb e₁ e₂ =
    let z : List ℕ = replicate 44 0 in
    let room : length {A = ℕ} z ≡ 44 = length-replicate {A = ℕ} 44 0 in
    let f₁ : d₁ ≡ laid_over z 0 a = within z 0 a d₁ (omega arith) e₁ in
    let s₁ : length d₁ ≡ 44 = ap length f₁ ∙ length_laid z 0 a (omega arith) ∙ room in
    let all : length (a ++ b) ≡ 44 = length-append a b ∙ omega arith in
    within d₁ 6 b d₂ (omega arith) e₂
    ∙ ap₂ (λ x n. laid_over x n b) f₁ (sym la)
    ∙ laid_next z a b
    ∙ laid_zeros 44 (a ++ b) (omega arith)
    ∙ ap (λ n. (a ++ b) ++ replicate (44 - n) 0) all
    ∙ append-nil (a ++ b)

-- zeros behind the last of two records are zeros behind both
padded_last : (a b : List ℕ) → length a ≡ 6 → length b ≤ 38 → a ++ pad_to 38 b ≡ pad_to 44 (a ++ b)
padded_last a b la lb =
    let same : 38 - length b ≡ 44 - length (a ++ b) = omega (arith, length-append a b) in
    ap (λ n. a ++ (b ++ replicate n 0)) same ∙ simp append_assoc

-- each record in a room of its own, then joined
pub record Parts (first second : List ℕ) : Type 0 where
  pub first_size : length first ≡ 6
  pub second_size : length second ≡ 38

module _ (p : Protection) (ours : List ℕ) (l : length ours ≡ 15) (fresh : p.protected ≡ 0) (one first second : List ℕ)
    (eo : one ≡ change_bytes) (e₁ : first ≡ written_of (replicate 6 0) (record_of true false C.ChangeCipherSpec 1 one))
    (e₂ : second ≡ output_by p FromUnit C.Handshake ours (replicate 38 0)) where
  abbrev r : List ℕ
  r = record_under p.keys FromUnit C.Handshake 0 ours

  few : length r ≤ 38
  few = omega (arith, finished_size p.keys ours l, size_most p.keys.mac)

  first_is : first ≡ change_record
  unfolding change_record
  first_is = written_whole 6 change_record first change_size (e₁ ∙ ap (λ x. written_of (replicate 6 0) (record_of true false C.ChangeCipherSpec 1 x)) eo)

  next_is : next_record p FromUnit C.Handshake ours ≡ r
  next_is = ap (λ n. record_under p.keys FromUnit C.Handshake n ours) fresh

  second_is : second ≡ pad_to 38 r
  second_is =
      let fits : length (next_record p FromUnit C.Handshake ours) ≤ length {A = ℕ} (replicate 38 0)
      = omega (arith, ap length next_is, few, length-replicate {A = ℕ} 38 0) in
      e₂ ∙ output_when p FromUnit C.Handshake ours (replicate 38 0) (omega (arith, fresh)) fits
      ∙ ap (laid_over (replicate 38 0) 0) next_is ∙ laid_zeros 38 r few

  pub parts : Parts first second
  parts =
      record {
        first_size = ap length first_is ∙ change_size;
        second_size = ap length second_is ∙ length-append r (replicate (38 - length r) 0) ∙ omega (arith, few, length-replicate {A = ℕ} (38 - length r) 0);
      }

  pub flown_by : (d₁ d₂ : List ℕ) → d₁ ≡ laid_within (replicate 44 0) 0 first → d₂ ≡ laid_within d₁ 6 second
      → d₂ ≡ flight_with p.keys ours
  unfolding flight_bytes
  flown_by d₁ d₂ f₁ f₂ =
      two_laid first second d₁ d₂ parts.first_size parts.second_size f₁ f₂
      ∙ ap₂ (λ x y. x ++ y) first_is second_is
      ∙ padded_last change_record r change_size few
