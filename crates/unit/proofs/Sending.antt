-- What a call writes: the record at the front of the output, where there is a number to spend and room.
use mathlib.Core.Path.{◌≡◌, refl, sym, ◌∙◌, ap}
use mathlib.Core.Bool.{Bool, true, false}
use mathlib.Core.List.{List}
use Prim.Native.Nat.{ℕ, ◌+◌, ◌≤◌, ◌<◌}
use native.Mathlib.Omega.{arith}
use native.Mathlib.Nat.{zero-add}
use lib.ListN.{length, take}
use lib.Dec.{leb, ltb}
use borrow.Author.Tests.{leb-true, ltb-false}
use Rattle.digest.specs.Pick.{pick}
use Rattle.digest.specs.Bytes.{laid_over}
use Rattle.digest.proofs.Lay.{laid_front}
use Rattle.record.specs.Written.{written_of, count_of}
use Rattle.record.specs.Protection.{next_record, counted_on, wrote_size, writing, wrote_by, output_by}
use Rattle.record.specs.declared.header.Content.{Content}
use Rattle.record.specs.declared.header.Content.TheVariants as C
use Rattle.record.specs.declared.keys.Sense.{Sense}
use Rattle.record.specs.declared.protection.Protection.{Protection}
use Rattle.record.specs.declared.protection.Writing.{Writing}
use Rattle.record.specs.declared.protection.Unwritten.TheVariants as W
use Rattle.record.proofs.Fronts.{record_length}
use Rattle.record.proofs.Protecting.{wrote_when, output_when}
use Rattle.connection.proofs.Sending.{Wrote}
use Rattle.connection.specs.declared.refusal.Refusal.TheVariants.{Argument}
use Rattle.unit.specs.Send.{unsent, next_clear, alert_sent_as, alert_output_as}
use Rattle.unit.specs.declared.unit.Unit.{Unit}
use Rattle.std.specs.Prelude.{Err, None, Ok, Option, Some}
use Rattle.message.specs.declared.alert.Description.{Description}

-- what a count says of the room
pub none_written : (out bytes : List ℕ) (n : ℕ) → 0 < length bytes → n ≡ count_of out bytes → n ≡ 0
    → leb (length bytes) (length out) ≡ false
unfolding count_of
none_written out bytes n some e z = told (leb (length bytes) (length out)) refl
  where
    told : (b : Bool) → leb (length bytes) (length out) ≡ b → b ≡ false
    told false t = refl
    told true t = let m : n ≡ length bytes = e ∙ ap (λ b. pick b (length bytes) 0) t in absurd (omega arith)

pub some_written : (out bytes : List ℕ) (n : ℕ) → n ≡ count_of out bytes → (n ≡ 0 → ⊥) → length bytes ≤ length out
unfolding count_of
some_written out bytes n e z = told (leb (length bytes) (length out)) refl
  where
    told : (b : Bool) → leb (length bytes) (length out) ≡ b → length bytes ≤ length out
    told true t = leb-true (length bytes) (length out) t
    told false t = absurd (z (e ∙ ap (λ b. pick b (length bytes) 0) t))

-- nothing was written
pub unwritten : (out bytes : List ℕ) → leb (length bytes) (length out) ≡ false → written_of out bytes ≡ out
unfolding written_of
unwritten out bytes h = rw h refl

-- a protected record that was written: there was a number to spend, and room
done_means : (p : Protection) (sense : Sense) (content : Content) (body : List ℕ) (room n : ℕ)
    → (wrote_by p sense content body room).wrote ≡ Ok n
    → (p.protected ≤ 65535) × (length (next_record p sense content body) ≤ room)
unfolding wrote_by
done_means p sense content body room n e =
    told (ltb 65535 p.protected) (ltb room (length (next_record p sense content body))) refl refl e
  where
    told : (a b : Bool) → ltb 65535 p.protected ≡ a → ltb room (length (next_record p sense content body)) ≡ b
        → (pick a (writing (Err W.Spent) p) (pick b (writing (Err W.NoRoom) p) (writing (Ok (length (next_record p sense content body))) (counted_on p)))).wrote ≡ Ok n
        → (p.protected ≤ 65535) × (length (next_record p sense content body) ≤ room)
    told true b ta tb f = let z : ◌≡◌ {A = ℕ} 0 1 = cc in absurd (omega arith)
    told false true ta tb f = let z : ◌≡◌ {A = ℕ} 0 1 = cc in absurd (omega arith)
    told false false ta tb f = (ltb-false 65535 p.protected ta, ltb-false room (length (next_record p sense content body)) tb)

pub protected_done : (p : Protection) (sense : Sense) (content : Content) (body out after : List ℕ) (w : Writing) (n : ℕ)
    → w ≡ wrote_by p sense content body (length out) → w.wrote ≡ Ok n → after ≡ output_by p sense content body out
    → Wrote out (next_record p sense content body) after n
protected_done p sense content body out after w n ew en ea =
    let next = next_record p sense content body in
    let m = done_means p sense content body (length out) n (sym (ap (λ (x : Writing). x.wrote) ew) ∙ en) in
    let done-is = ew ∙ wrote_when p sense content body out m.0 m.1 in
    let count-is : n ≡ length next = ap wrote_size (sym en ∙ ap (λ (x : Writing). x.wrote) done-is) in
    let after_is : after ≡ laid_over out 0 next = ea ∙ output_when p sense content body out m.0 m.1 in
    let all : n ≡ 0 + length next = count-is ∙ sym (zero-add (length next)) in
    record { count = count-is; bytes_are = after_is; front = ap (take n) after_is ∙ laid_front out 0 n next (omega (arith, m.1)) all }

pub done_fits : (p : Protection) (sense : Sense) (content : Content) (body out : List ℕ) (w : Writing) (n : ℕ)
    → w ≡ wrote_by p sense content body (length out) → w.wrote ≡ Ok n → length (next_record p sense content body) ≤ length out
done_fits p sense content body out w n ew en =
    (done_means p sense content body (length out) n (sym (ap (λ (x : Writing). x.wrote) ew) ∙ en)).1

-- a clear record is never empty
pub clear_some : (u : Unit) (body : List ℕ) → 0 < length (next_clear u body)
clear_some u body = omega (arith, record_length false false C.Alert u.protection.clear body)

-- an unknown level is refused, whatever else is said
pub no_level : (u : Unit) (protected : Bool) (answered : List ℕ) (room : ℕ) (s : Option Description)
    → unsent u Argument ≡ alert_sent_as u protected answered room None s
no_level u protected answered room (Some d) = refl
no_level u protected answered room None = refl

pub no_level_output : (u : Unit) (protected : Bool) (answered out : List ℕ) (s : Option Description)
    → out ≡ alert_output_as u protected answered out None s
no_level_output u protected answered out (Some d) = refl
no_level_output u protected answered out None = refl
