-- A protected record, by its parts: the code under the key for its number, then the window, then the content.
use mathlib.Core.Path.{◌≡◌, refl, sym, ◌∙◌, ap, subst}
use mathlib.Core.Bool.{Bool, true, false}
use mathlib.Core.List.{List}
use Prim.Native.Nat.{ℕ}
use Rattle.digest.specs.Pick.{pick}
use Rattle.record.specs.Window.{accept_of}
use Rattle.record.specs.Protection as P
use Rattle.record.specs.Protection.{genuine_under, content_size, content_under, opening, opened_to, opened_by}
use Rattle.record.specs.declared.keys.Sense.TheVariants.{FromUnit}
use Rattle.record.specs.declared.window.NotNew.TheVariants as A
use Rattle.record.specs.declared.protection.Protection.{Protection}
use Rattle.record.specs.declared.protection.Opening.{Opening}
use Rattle.record.proofs.Protecting.{forged_as, opened_as_lem}
use Rattle.connection.specs.Handshake.{with_window}
use Rattle.connection.specs.Answer.{refusing}
use Rattle.connection.specs.Protected.{content_by, opened_as, opened_record}
use Rattle.connection.specs.declared.state.Kind.{Kind}
use Rattle.connection.specs.declared.refusal.Refusal.TheVariants.{Forged, TooOld, Repeated}
use Rattle.connection.specs.declared.answer.Judged.{Judged}
use Rattle.connection.specs.declared.handshake.Handshake.{Handshake}
use Rattle.std.specs.Prelude.{Err, Ok, Result}
use Rattle.record.specs.declared.window.NotNew.{NotNew}
use Rattle.record.specs.declared.window.Window.{Window}

abbrev pub genuine_in : Handshake → ℕ → ℕ → List ℕ → Bool
genuine_in h byte number fragment = genuine_under h.protection.keys FromUnit number byte fragment

abbrev pub content_in : Handshake → List ℕ → List ℕ
content_in h fragment = content_under h.protection.keys fragment

abbrev pub windowed_to : Handshake → Kind → ℕ → ℕ → List ℕ → Result (Window × ℕ) NotNew → Judged
windowed_to h kind number at content (Err A.TooOld) = refusing TooOld h
windowed_to h kind number at content (Err A.Repeated) = refusing Repeated h
windowed_to h kind number at content (Ok (window, arrived)) = content_by (with_window h window) kind number at content

module _ (h : Handshake) (kind : Kind) (byte number at : ℕ) (fragment : List ℕ) where
  abbrev left : Opening → Judged
  left o = opened_as h kind number at fragment o.protection o.opened

  windowed_is : (x : Result (Window × ℕ) NotNew)
      → left (opened_to h.protection (content_size h.protection.keys fragment) x) ≡ windowed_to h kind number at (content_in h fragment) x
  windowed_is (Err A.TooOld) = refl
  windowed_is (Err A.Repeated) = refl
  windowed_is (Ok (window, arrived)) = refl

  pub opened_record_is : opened_record h kind byte number at fragment
      ≡ pick (genuine_in h byte number fragment)
      (windowed_to h kind number at (content_in h fragment) (accept_of h.protection.window number)) (refusing Forged h)
  unfolding opened_record
  opened_record_is = told (genuine_in h byte number fragment) refl
    where
      told : (b : Bool) → genuine_in h byte number fragment ≡ b → left (opened_by h.protection FromUnit number byte fragment)
          ≡ pick b (windowed_to h kind number at (content_in h fragment) (accept_of h.protection.window number)) (refusing Forged h)
      told true e =
          ap left (sym (opened_as_lem h.protection FromUnit number byte fragment (genuine_in h byte number fragment) refl e (accept_of h.protection.window number) refl))
          ∙ windowed_is (accept_of h.protection.window number)
      told false e =
          ap left (sym (forged_as h.protection FromUnit number byte fragment (genuine_in h byte number fragment) refl e))

-- a record that is opened changes nothing of the protection but its window
abbrev Windowed : Protection → Opening → Type 0
Windowed p o = P.with_window p o.protection.window ≡ o.protection

windowed_to_lem : (p : Protection) (size : ℕ) (x : Result (Window × ℕ) NotNew) → Windowed p (opened_to p size x)
windowed_to_lem p size (Err A.TooOld) = refl
windowed_to_lem p size (Err A.Repeated) = refl
windowed_to_lem p size (Ok (window, arrived)) = refl

pub opened_window : (p : Protection) (number byte : ℕ) (fragment : List ℕ) → Windowed p (opened_by p FromUnit number byte fragment)
opened_window p number byte fragment = told (genuine_under p.keys FromUnit number byte fragment) refl
  where
    told : (b : Bool) → genuine_under p.keys FromUnit number byte fragment ≡ b → Windowed p (opened_by p FromUnit number byte fragment)
    told true e =
        subst (Windowed p) (opened_as_lem p FromUnit number byte fragment (genuine_under p.keys FromUnit number byte fragment) refl e (accept_of p.window number) refl)
        (windowed_to_lem p (content_size p.keys fragment) (accept_of p.window number))
    told false e =
        subst (Windowed p) (forged_as p FromUnit number byte fragment (genuine_under p.keys FromUnit number byte fragment) refl e) refl
