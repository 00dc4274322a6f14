-- The laws of a protection, over the width and the sense of travel, so that nothing above proves them again. What is genuine,
-- by bytes; the window means the history; what one end writes the other opens; numbers written count on and never
-- repeat; a number opens as new once.
use mathlib.Core.Path.{◌≡◌, refl, sym, ap, ◌∙◌}
use mathlib.Core.Logic.{◌⊎◌, inl, inr}
use mathlib.Core.Bool.{Bool, true, false}
use mathlib.Core.List.{List, [], ◌∷◌}
use Prim.Native.Nat.{ℕ, zero, suc, ◌+◌, ◌≤◌, ◌<◌}
use native.Mathlib.Omega.{arith}
use lib.ListN.{length, take, drop, get_or}
use lib.Seq.{take_at}
use lib.Dec.{ltb}
use borrow.Author.Tests.{ltb-false}
use Rattle.digest.specs.Pick.{pick}
use Rattle.digest.specs.Hmac.{hmac}
use Rattle.digest.specs.Mac.{size_of}
use Rattle.record.specs.Keys.{secret_for}
use Rattle.record.specs.Code.{code_by, fragment_by, protected_by}
use Rattle.record.specs.Window.{Held, accept_of}
use Rattle.record.specs.History.{accepted, highest_of, window_of, judged_of}
use Rattle.record.specs.Written.{byte_for, header_size, record_of, header_of}
use Rattle.record.specs.Reader.{read_of}
use Rattle.record.specs.Protection.{with_window, genuine_under, content_size, opening, opened_to, opened_by, record_under, next_record, counted_on, writing, wrote_by}
use Rattle.record.specs.declared.header.Content.{Content}
use Rattle.record.specs.declared.keys.Keys.{Keys}
use Rattle.record.specs.declared.keys.Sense.{Sense}
use Rattle.record.specs.declared.window.Window.{Window}
use Rattle.record.specs.declared.window.NotNew.TheVariants as A
use Rattle.record.specs.declared.protection.Protection.{Protection}
use Rattle.record.specs.declared.protection.Opening.{Opening}
use Rattle.record.specs.declared.protection.Unopened.TheVariants as O
use Rattle.record.specs.declared.protection.Writing.{Writing}
use Rattle.record.specs.declared.protection.Unwritten.TheVariants as W
use Rattle.record.proofs.Histories.{meaning, new_means, accepted_here, accepted_still}
use Rattle.record.proofs.RoundTrip.{read_back, read_protected}
use Rattle.record.proofs.ProtectedBytes.{genuine_made, protected_genuine, protected_length}
use Rattle.record.proofs.Protecting.{forged_as, opened_as_lem}
use Rattle.std.specs.Prelude.{Err, Ok, Result}
use Rattle.record.specs.declared.protection.Unopened.{Unopened}
use Rattle.record.specs.declared.window.NotNew.{NotNew}

-- ---- genuine, by bytes

-- the fragment is the content c with its code behind it, under the key for its number
abbrev pub CodedUnder : Keys → Sense → ℕ → ℕ → List ℕ → List ℕ → Type 0
CodedUnder k sense s byte f c = f ≡ fragment_by (hmac (secret_for k sense s)) (size_of k.mac) s byte c

module _ (p : Protection) (sense : Sense) (s byte : ℕ) (f : List ℕ) where
  -- a content with its code is judged by the window
  pub coded_opens : (c : List ℕ) → CodedUnder p.keys sense s byte f c
      → opened_by p sense s byte f ≡ opened_to p (length c) (accept_of p.window s)
  coded_opens c e =
      let k : List ℕ = secret_for p.keys sense s in
      let right : genuine_under p.keys sense s byte f ≡ true =
      ap (genuine_under p.keys sense s byte) e ∙ protected_genuine k p.keys.mac s byte c in
      let size : content_size p.keys f ≡ length c = omega (arith, ap length e, protected_length k p.keys.mac s byte c) in
      sym (opened_as_lem p sense s byte f (genuine_under p.keys sense s byte f) refl right (accept_of p.window s) refl)
      ∙ ap (λ n. opened_to p n (accept_of p.window s)) size

  -- what is no content with its code is forged, and leaves everything as it was
  pub uncoded_forged : ((c : List ℕ) → CodedUnder p.keys sense s byte f c → ⊥) → opened_by p sense s byte f ≡ opening (Err O.Forged) p
  uncoded_forged never = told (genuine_under p.keys sense s byte f) refl
    where
      told : (b : Bool) → genuine_under p.keys sense s byte f ≡ b → opened_by p sense s byte f ≡ opening (Err O.Forged) p
      told true e =
          absurd (never _ (genuine_made (hmac (secret_for p.keys sense s)) (size_of p.keys.mac) s byte f e).1)
      told false e = sym (forged_as p sense s byte f (genuine_under p.keys sense s byte f) refl e)

  -- a new record is a content with its code; the content stands at the front
  pub new_coded : (n : ℕ) → (opened_by p sense s byte f).opened ≡ Ok n
      → CodedUnder p.keys sense s byte f (take n f)
  new_coded n e = told (genuine_under p.keys sense s byte f) refl
    where
      size-of : (x : Result (Window × ℕ) NotNew) → (opened_to p (content_size p.keys f) x).opened ≡ Ok n → content_size p.keys f ≡ n
      size-of (Err A.TooOld) q = let z : ◌≡◌ {A = ℕ} 0 1 = cc in absurd (omega arith)
      size-of (Err A.Repeated) q = let z : ◌≡◌ {A = ℕ} 0 1 = cc in absurd (omega arith)
      size-of (Ok (w, m)) q = cc

      told : (b : Bool) → genuine_under p.keys sense s byte f ≡ b → CodedUnder p.keys sense s byte f (take n f)
      told true g =
          let made = (genuine_made (hmac (secret_for p.keys sense s)) (size_of p.keys.mac) s byte f g).1 in
          let is = opened_as_lem p sense s byte f (genuine_under p.keys sense s byte f) refl g (accept_of p.window s) refl in
          let size = size-of (accept_of p.window s) (ap (λ (o : Opening). o.opened) is ∙ e) in
          made ∙ ap (λ m. fragment_by (hmac (secret_for p.keys sense s)) (size_of p.keys.mac) s byte (take m f)) size
      told false g =
          let is = forged_as p sense s byte f (genuine_under p.keys sense s byte f) refl g in
          let q : Err O.Forged ≡ Ok n = ap (λ (o : Opening). o.opened) is ∙ e in
          let z : ◌≡◌ {A = ℕ} 0 1 = cc in
          absurd (omega arith)

  -- the content of a new record lies inside its fragment
  pub new_within : (n : ℕ) → (opened_by p sense s byte f).opened ≡ Ok n → n ≤ length f
  new_within n e = told (genuine_under p.keys sense s byte f) refl
    where
      size-of : (x : Result (Window × ℕ) NotNew) → (opened_to p (content_size p.keys f) x).opened ≡ Ok n → content_size p.keys f ≡ n
      size-of (Err A.TooOld) q = let z : ◌≡◌ {A = ℕ} 0 1 = cc in absurd (omega arith)
      size-of (Err A.Repeated) q = let z : ◌≡◌ {A = ℕ} 0 1 = cc in absurd (omega arith)
      size-of (Ok (w, m)) q = cc

      told : (b : Bool) → genuine_under p.keys sense s byte f ≡ b → n ≤ length f
      told true g =
          let is = opened_as_lem p sense s byte f (genuine_under p.keys sense s byte f) refl g (accept_of p.window s) refl in
          omega (arith, size-of (accept_of p.window s) (ap (λ (o : Opening). o.opened) is ∙ e))
      told false g =
          let is = forged_as p sense s byte f (genuine_under p.keys sense s byte f) refl g in
          let q : Err O.Forged ≡ Ok n = ap (λ (o : Opening). o.opened) is ∙ e in
          let z : ◌≡◌ {A = ℕ} 0 1 = cc in
          absurd (omega arith)

-- ---- the window means the history

module _ (w : ℕ) (held : Held w) (h : List ℕ) (p : Protection) (is : p.window ≡ window_of w h) (sense : Sense) (s byte : ℕ)
    (f : List ℕ) where
  pub by_history : accept_of p.window s ≡ judged_of w h s
  by_history = ap (λ (v : Window). accept_of v s) is ∙ meaning w held h s

  -- a content with its code is judged by the numbers accepted before
  pub coded_judged : (c : List ℕ) → CodedUnder p.keys sense s byte f c
      → opened_by p sense s byte f ≡ opened_to p (length c) (judged_of w h s)
  coded_judged c e = coded_opens p sense s byte f c e ∙ ap (opened_to p (length c)) by_history

  -- what is new was not accepted before and is recent; the window then has it, and nothing else changes
  pub new_accepted : (n : ℕ) → (opened_by p sense s byte f).opened ≡ Ok n
      → (highest_of h < s + w) × (accepted h s ≡ false) × ((opened_by p sense s byte f).protection ≡ with_window p (window_of w (s ∷ h)))
  new_accepted n e = told (judged_of w h s) refl
    where
      is_new_lem : opened_by p sense s byte f ≡ opened_to p (length (take n f)) (judged_of w h s)
      is_new_lem = coded_judged (take n f) (new_coded p sense s byte f n e)

      told : (x : Result (Window × ℕ) NotNew) → judged_of w h s ≡ x
          → (highest_of h < s + w) × (accepted h s ≡ false) × ((opened_by p sense s byte f).protection ≡ with_window p (window_of w (s ∷ h)))
      told (Err A.TooOld) q =
          let z : Err O.TooOld ≡ Ok n = sym (ap (λ (o : Opening). o.opened) (is_new_lem ∙ ap (opened_to p (length (take n f))) q)) ∙ e in
          let y : ◌≡◌ {A = ℕ} 0 1 = cc in absurd (omega arith)
      told (Err A.Repeated) q =
          let z : Err O.Repeated ≡ Ok n = sym (ap (λ (o : Opening). o.opened) (is_new_lem ∙ ap (opened_to p (length (take n f))) q)) ∙ e in
          let y : ◌≡◌ {A = ℕ} 0 1 = cc in absurd (omega arith)
      told (Ok (v, m)) q =
          let t = new_means w h s v m q in (
            t.0,
            t.1,
            ap (λ (o : Opening). o.protection) (is_new_lem ∙ ap (opened_to p (length (take n f))) q) ∙ ap (with_window p) t.2,
          )

  -- what is not new changes nothing
  pub not_new_stays : ((n : ℕ) → (opened_by p sense s byte f).opened ≡ Ok n → ⊥) → (opened_by p sense s byte f).protection ≡ p
  not_new_stays never = told (genuine_under p.keys sense s byte f) refl (accept_of p.window s) refl
    where
      told : (b : Bool) → genuine_under p.keys sense s byte f ≡ b → (x : Result (Window × ℕ) NotNew) → x ≡ accept_of p.window s
          → (opened_by p sense s byte f).protection ≡ p
      told false g x q = sym (ap (λ (o : Opening). o.protection) (forged_as p sense s byte f (genuine_under p.keys sense s byte f) refl g))
      told true g (Err A.TooOld) q = sym (ap (λ (o : Opening). o.protection) (opened_as_lem p sense s byte f (genuine_under p.keys sense s byte f) refl g (Err A.TooOld) q))
      told true g (Err A.Repeated) q = sym (ap (λ (o : Opening). o.protection) (opened_as_lem p sense s byte f (genuine_under p.keys sense s byte f) refl g (Err A.Repeated) q))
      told true g (Ok (v, m)) q =
          absurd (never (content_size p.keys f) (sym (ap (λ (o : Opening). o.opened) (opened_as_lem p sense s byte f (genuine_under p.keys sense s byte f) refl g (Ok (v, m)) q))))

-- ---- a number opens as new once

-- a record that came in
pub record Arrival : Type 0 where
  pub sense : Sense
  pub number : ℕ
  pub byte : ℕ
  pub fragment : List ℕ

abbrev pub opened_at : Protection → Arrival → Opening
opened_at p a = opened_by p a.sense a.number a.byte a.fragment

-- the protection after many
unfoldable pub open_all : Protection → List Arrival → Protection
open_all p [] = p
open_all p (a ∷ more) = open_all (opened_at p a).protection more

-- the window of a history in which all of h is
pub record Grown (w : ℕ) (h : List ℕ) (p : Protection) : Type 0 where
  pub numbers : List ℕ
  pub means : p.window ≡ window_of w numbers
  pub still : (s : ℕ) → accepted h s ≡ true → accepted numbers s ≡ true

new_or_not : (o : Result ℕ Unopened) → ((n : ℕ) × (o ≡ Ok n)) ⊎ ((n : ℕ) → o ≡ Ok n → ⊥)
new_or_not (Err O.Forged) = inr (λ n e. let z : ◌≡◌ {A = ℕ} 0 1 = cc in omega arith)
new_or_not (Err O.TooOld) = inr (λ n e. let z : ◌≡◌ {A = ℕ} 0 1 = cc in omega arith)
new_or_not (Err O.Repeated) = inr (λ n e. let z : ◌≡◌ {A = ℕ} 0 1 = cc in omega arith)
new_or_not (Ok n) = inl (n, refl)

module _ (w : ℕ) (held : Held w) where
  pub grows : (h : List ℕ) (p : Protection) (a : Arrival) → Grown w h p → Grown w h (opened_at p a).protection
  grows h p a g = told (new_or_not (opened_at p a).opened)
    where
      told : ((n : ℕ) × ((opened_at p a).opened ≡ Ok n)) ⊎ ((n : ℕ) → (opened_at p a).opened ≡ Ok n → ⊥)
          → Grown w h (opened_at p a).protection
      told (inl (n, e)) =
          let t = new_accepted w held g.numbers p g.means a.sense a.number a.byte a.fragment n e in
          record {
            numbers = a.number ∷ g.numbers;
            means = ap (λ (q : Protection). q.window) t.2;
            still = λ s y. accepted_still a.number s g.numbers (g.still s y);
          }
      told (inr never) =
          let t = not_new_stays w held g.numbers p g.means a.sense a.number a.byte a.fragment never in
          record { numbers = g.numbers; means = ap (λ (q : Protection). q.window) t ∙ g.means; still = g.still }

  pub grows_all : (h : List ℕ) (p : Protection) (more : List Arrival) → Grown w h p → Grown w h (open_all p more)
  unfolding open_all
  grows_all h p [] g = g
  grows_all h p (a ∷ more) g = grows_all h (opened_at p a).protection more (grows h p a g)

  -- Two records that are both new, whatever came between, have different numbers.
  pub opens_once : (h : List ℕ) (p : Protection) → p.window ≡ window_of w h → (a b : Arrival) (between : List Arrival) (n m : ℕ)
      → (opened_at p a).opened ≡ Ok n → (opened_at (open_all (opened_at p a).protection between) b).opened ≡ Ok m
      → a.number ≡ b.number → ⊥
  opens_once h p is a b between n m first second same =
      let one = new_accepted w held h p is a.sense a.number a.byte a.fragment n first in
      let begun : Grown w (a.number ∷ h) (opened_at p a).protection
      = record { numbers = a.number ∷ h; means = ap (λ (q : Protection). q.window) one.2; still = λ s y. y } in
      let g = grows_all (a.number ∷ h) (opened_at p a).protection between begun in
      let two = new_accepted w held g.numbers (open_all (opened_at p a).protection between) g.means b.sense b.number b.byte b.fragment m second in
      let there : accepted g.numbers b.number ≡ true = ap (accepted g.numbers) (sym same) ∙ g.still a.number (accepted_here a.number h) in
      let z : true ≡ false = sym there ∙ two.1 in
      let y : ◌≡◌ {A = ℕ} 0 1 = cc in
      omega arith

-- ---- what one end writes the other opens

module _ (p q : Protection) (same : q.keys ≡ p.keys) (few : p.protected ≤ 65535) (sense : Sense) (content : Content)
    (body : List ℕ) where
  -- it is read back as a record of its own size ..
  pub written_read : read_of (next_record p sense content body)
      ≡ Ok (read_back false true content p.protected (length body + size_of p.keys.mac))
  unfolding record_under
  written_read = read_protected (secret_for p.keys sense p.protected) p.keys.mac content p.protected body (omega arith)

  abbrev pub sent_fragment : List ℕ
  sent_fragment = fragment_by (hmac (secret_for p.keys sense p.protected)) (size_of p.keys.mac) p.protected (byte_for false true content) body

  -- .. its fragment stands behind the header ..
  pub written_fragment : drop (header_size false) (next_record p sense content body) ≡ sent_fragment
  unfolding record_under protected_by record_of header_of
  written_fragment = refl

  -- .. and is judged by the window of the other end, with the body as its content
  pub written_opens : opened_by q sense p.protected (byte_for false true content) sent_fragment
      ≡ opened_to q (length body) (accept_of q.window p.protected)
  written_opens =
      coded_opens q sense p.protected (byte_for false true content) sent_fragment body
      (ap (λ k. fragment_by (hmac (secret_for k sense p.protected)) (size_of k.mac) p.protected (byte_for false true content) body) (sym same))

  pub written_content : take (length body) sent_fragment ≡ body
  unfolding fragment_by
  written_content =
      take_at body (code_by (hmac (secret_for p.keys sense p.protected)) (size_of p.keys.mac) p.protected (byte_for false true content) body) (length body) refl

-- ---- numbers written count on and never repeat

-- the numbers of records that were written one after the other
pub data Writes : Protection → List ℕ → Type 0 where
  none : {p : Protection} → Writes p []
  more : {p q : Protection} {numbers : List ℕ} (sense : Sense) (content : Content) (body : List ℕ) (room n : ℕ)
      → wrote_by p sense content body room ≡ writing (Ok n) q → Writes q numbers → Writes p (p.protected ∷ numbers)

-- a record that is written has the next number, which is not spent, and counts on
pub wrote_means : (p q : Protection) (sense : Sense) (content : Content) (body : List ℕ) (room n : ℕ)
    → wrote_by p sense content body room ≡ writing (Ok n) q → (p.protected ≤ 65535) × (q ≡ counted_on p)
unfolding wrote_by
wrote_means p q sense content body room n e =
    told (ltb 65535 p.protected) (ltb room (length (next_record p sense content body))) refl e
  where
    told : (a b : Bool) → ltb 65535 p.protected ≡ a
        → pick a (writing (Err W.Spent) p) (pick b (writing (Err W.NoRoom) p) (writing (Ok (length (next_record p sense content body))) (counted_on p))) ≡ writing (Ok n) q
        → (p.protected ≤ 65535) × (q ≡ counted_on p)
    told true b t f = let z : ◌≡◌ {A = ℕ} 0 1 = cc (ap (λ (v : Writing). v.wrote) f) in absurd (omega arith)
    told false true t f = let z : ◌≡◌ {A = ℕ} 0 1 = cc (ap (λ (v : Writing). v.wrote) f) in absurd (omega arith)
    told false false t f = (ltb-false 65535 p.protected t, sym (ap (λ (v : Writing). v.protection) f))

counts : {p : Protection} {numbers : List ℕ} → Writes p numbers → (i : ℕ) → i < length numbers
    → (get_or numbers i 0 ≡ p.protected + i) × (p.protected + i ≤ 65535)
counts none i l = absurd (omega arith)
counts (more {p = p} {q = q} {numbers = numbers} sense content body room n e rest) zero l =
    let w = wrote_means p q sense content body room n e in (omega arith, omega (arith, w.0))
counts (more {p = p} {q = q} {numbers = numbers} sense content body room n e rest) (suc i) l =
    let w = wrote_means p q sense content body room n e in
    let on : q.protected ≡ p.protected + 1 = ap (λ (x : Protection). x.protected) w.1 in
    let next = counts rest i (omega arith) in
    (next.0 ∙ omega (arith, on), omega (arith, next.1, on))

pub counts_on : (p : Protection) (numbers : List ℕ) → Writes p numbers → (i : ℕ) → i < length numbers
    → (get_or numbers i 0 ≡ p.protected + i) × (p.protected + i ≤ 65535)
counts_on p numbers w i l = counts w i l

pub never_repeat : (p : Protection) (numbers : List ℕ) → Writes p numbers → (i j : ℕ) → i < length numbers → j < length numbers
    → get_or numbers i 0 ≡ get_or numbers j 0 → i ≡ j
never_repeat p numbers w i j li lj e = omega (arith, (counts_on p numbers w i li).0, (counts_on p numbers w j lj).0, e)
