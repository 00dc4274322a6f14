-- Opening and writing, from the parts that the code makes them of.
use mathlib.Core.Path.{◌≡◌, refl, sym, ap, ◌∙◌}
use mathlib.Core.Bool.{Bool, true, false}
use mathlib.Core.List.{List}
use Prim.Native.Nat.{ℕ, ◌+◌, ◌≤◌, ◌<◌}
use native.Mathlib.Omega.{arith}
use lib.ListN.{length}
use lib.Dec.{leb}
use borrow.Author.Tests.{lt-ltb, le-ltb, le-leb, leb-true, leb-false}
use Rattle.digest.specs.Pick.{pick}
use Rattle.digest.specs.Bytes.{laid_over}
use Rattle.digest.specs.Hmac.{code_under, hmac, key_of}
use Rattle.digest.specs.Mac.{size_of}
use Rattle.digest.specs.declared.key.Key.{Key}
use Rattle.record.specs.Keys.{secret_for}
use Rattle.record.specs.Code.{fragment_by, protected_by}
use Rattle.record.specs.Window.{accept_of}
use Rattle.record.specs.Written.{byte_for, written_of, size_within}
use Rattle.record.specs.Protection.{unopened_of, genuine_under, content_size, opening, opened_to, opened_by, record_under, next_record, counted_on, writing, wrote_by, output_by}
use Rattle.record.specs.declared.header.Content.{Content}
use Rattle.record.specs.declared.keys.Keys.{Keys}
use Rattle.record.specs.declared.keys.Sense.{Sense}
use Rattle.record.specs.declared.protection.Protection.{Protection}
use Rattle.record.specs.declared.protection.Unopened.TheVariants as O
use Rattle.record.specs.declared.protection.Unwritten.TheVariants as W
use Rattle.record.proofs.Fronts.{record_length}
use Rattle.record.proofs.ProtectedBytes.{genuine_short, protected_key, protected_length}
use Rattle.std.specs.Prelude.{Err, None, Ok, Result, Some}
use Rattle.record.specs.declared.window.NotNew.{NotNew}
use Rattle.record.specs.declared.window.NotNew.TheVariants as A
use Rattle.record.specs.declared.protection.Unopened.{Unopened}
use Rattle.record.specs.declared.window.Window.{Window}

-- ---- opening

module _ (p : Protection) (sense : Sense) (s byte : ℕ) (f : List ℕ) (g : Bool)
    (e : g ≡ genuine_under p.keys sense s byte f) where
  pub forged_as : g ≡ false → opening (Err O.Forged) p ≡ opened_by p sense s byte f
  unfolding opened_by
  forged_as n = sym (ap (λ b. pick b (opened_to p (content_size p.keys f) (accept_of p.window s)) (opening (Err O.Forged) p)) (sym e ∙ n))

  pub opened_as_lem : g ≡ true → (x : Result (Window × ℕ) NotNew) → x ≡ accept_of p.window s
      → opened_to p (content_size p.keys f) x ≡ opened_by p sense s byte f
  unfolding opened_by
  opened_as_lem y x a =
      ap (opened_to p (content_size p.keys f)) a
      ∙ sym (ap (λ b. pick b (opened_to p (content_size p.keys f) (accept_of p.window s)) (opening (Err O.Forged) p)) (sym e ∙ y))

  -- a number that is not new is told as it is
  pub not_new_as : g ≡ true → (why : NotNew) (told : Unopened) → told ≡ unopened_of why → Err why ≡ accept_of p.window s
      → opening (Err told) p ≡ opened_by p sense s byte f
  not_new_as y A.TooOld told t a = ap (λ (x : Unopened). opening (Err x) p) t ∙ opened_as_lem y (Err A.TooOld) a
  not_new_as y A.Repeated told t a = ap (λ (x : Unopened). opening (Err x) p) t ∙ opened_as_lem y (Err A.Repeated) a

  -- a genuine fragment has its whole code
  pub code_fits : g ≡ true → size_of p.keys.mac ≤ length f
  code_fits y = told (leb (size_of p.keys.mac) (length f)) refl
    where
      told : (b : Bool) → leb (size_of p.keys.mac) (length f) ≡ b → size_of p.keys.mac ≤ length f
      told true t = leb-true (size_of p.keys.mac) (length f) t
      told false t =
          let no = genuine_short (hmac (secret_for p.keys sense s)) (size_of p.keys.mac) s byte f (leb-false (size_of p.keys.mac) (length f) t) in
          let z : true ≡ false = sym y ∙ e ∙ no in
          let w : ◌≡◌ {A = ℕ} 0 1 = cc in
          absurd (omega arith)

-- ---- writing

pub record_under_length : (k : Keys) (sense : Sense) (content : Content) (s : ℕ) (body : List ℕ)
    → length (record_under k sense content s body) ≡ 3 + (length body + size_of k.mac)
unfolding record_under protected_by
record_under_length k sense content s body =
    record_length false true content s (fragment_by (hmac (secret_for k sense s)) (size_of k.mac) s (byte_for false true content) body)
    ∙ ap (λ n. 3 + n) (protected_length (secret_for k sense s) k.mac s (byte_for false true content) body)

module _ (p : Protection) (sense : Sense) (content : Content) (body out : List ℕ) where
  pub spent_as : 65535 < p.protected
      → (writing (Err W.Spent) p ≡ wrote_by p sense content body (length out)) × (out ≡ output_by p sense content body out)
  unfolding wrote_by output_by
  spent_as l = (rw (lt-ltb 65535 p.protected l), rw (lt-ltb 65535 p.protected l))

  -- the record is the next one, under the key of its number
  module _ (key : Key) (few : p.protected ≤ 65535) (is : key ≡ key_of (secret_for p.keys sense p.protected)) where
    abbrev coded : List ℕ
    coded = protected_by (code_under key) (size_of p.keys.mac) false content p.protected body

    same : coded ≡ next_record p sense content body
    unfolding record_under
    same = protected_key key (secret_for p.keys sense p.protected) is (size_of p.keys.mac) false content p.protected body

    pub written_as : (then : List ℕ) → then ≡ written_of out coded → then ≡ output_by p sense content body out
    unfolding output_by
    written_as then e = e ∙ ap (written_of out) same ∙ rw (le-ltb 65535 p.protected few)

    pub no_room_as : None ≡ size_within out coded → writing (Err W.NoRoom) p ≡ wrote_by p sense content body (length out)
    unfolding wrote_by size_within
    no_room_as e = told (leb (length (next_record p sense content body)) (length out)) refl (e ∙ ap (size_within out) same)
      where
        told : (b : Bool) → leb (length (next_record p sense content body)) (length out) ≡ b
            → None ≡ pick b (Some (length (next_record p sense content body))) None
            → writing (Err W.NoRoom) p ≡ wrote_by p sense content body (length out)
        told true t z = cc
        told false t z =
            rw (le-ltb 65535 p.protected few, lt-ltb (length out) (length (next_record p sense content body)) (leb-false (length (next_record p sense content body)) (length out) t))

    pub wrote_as : (n : ℕ) → Some n ≡ size_within out coded
        → writing (Ok n) (counted_on p) ≡ wrote_by p sense content body (length out)
    unfolding wrote_by size_within
    wrote_as n e = told (leb (length (next_record p sense content body)) (length out)) refl (e ∙ ap (size_within out) same)
      where
        told : (b : Bool) → leb (length (next_record p sense content body)) (length out) ≡ b
            → Some n ≡ pick b (Some (length (next_record p sense content body))) None
            → writing (Ok n) (counted_on p) ≡ wrote_by p sense content body (length out)
        told true t z =
            let m : n ≡ length (next_record p sense content body) = cc in
            rw (le-ltb 65535 p.protected few, le-ltb (length out) (length (next_record p sense content body)) (leb-true (length (next_record p sense content body)) (length out) t), m)
        told false t z = cc

-- where there is a number to spend, and room
module _ (p : Protection) (sense : Sense) (content : Content) (body out : List ℕ) (few : p.protected ≤ 65535)
    (fits : length (next_record p sense content body) ≤ length out) where
  pub wrote_when : wrote_by p sense content body (length out) ≡ writing (Ok (length (next_record p sense content body))) (counted_on p)
  unfolding wrote_by
  wrote_when = rw (le-ltb 65535 p.protected few, le-ltb (length out) (length (next_record p sense content body)) fits)

  pub output_when : output_by p sense content body out ≡ laid_over out 0 (next_record p sense content body)
  unfolding output_by written_of
  output_when = rw (le-ltb 65535 p.protected few, le-leb (length (next_record p sense content body)) (length out) fits)
