-- One course, over the sense of travel. The idea: every genuine record that can come was written by the other end, one for each number;
-- so what is accepted is below the next number, what is handed out is a report, and a report that comes for the first time meets a
-- window that has neither its number nor one that is higher by the width.
use mathlib.Core.Path.{◌≡◌, refl, sym, ◌∙◌, ap, ap₂, subst}
use mathlib.Core.Logic.{◌⊎◌, inl, inr, ◌≢◌}
use mathlib.Core.Bool.{Bool, true, false}
use mathlib.Core.List.{List, [], ◌∷◌, ◌++◌}
use Prim.Native.Nat.{ℕ, ◌+◌, ◌-◌, ◌≤◌, ◌<◌}
use native.Mathlib.Omega.{arith}
use lib.ListN.{length, take, length-append}
use lib.Seq.{take_at}
use lib.Dec.{eqb, leb}
use borrow.Author.Tests.{eq-eqb, eqb-true, leb-false, lt-leb}
use Rattle.digest.specs.Pick.{pick}
use Rattle.digest.specs.Hmac.{hmac}
use Rattle.digest.specs.Mac.{size_of}
use Rattle.record.specs.Code.{code_by, fragment_by}
use Rattle.record.specs.Datagram.{Framing, framed, faulty, framing_of}
use Rattle.record.specs.History.{accepted, highest_of}
use Rattle.record.specs.Keys.{secret_for}
use Rattle.record.specs.Protection.{genuine_under, content_under}
use Rattle.record.specs.Window.{Held}
use Rattle.record.specs.declared.header.Content.{Content}
use Rattle.record.specs.declared.header.Content.TheVariants as C
use Rattle.record.specs.declared.keys.Keys.{Keys}
use Rattle.record.specs.declared.keys.Sense.{Sense}
use Rattle.record.specs.declared.reader.Fault.{Fault}
use Rattle.record.specs.declared.reader.Record.{Record}
use Rattle.record.proofs.Histories.{decide, accepted_here, accepted_other, accepted_still, below_all, held_some}
use Rattle.record.proofs.ProtectedBytes.{genuine_made, protected_genuine, protected_length}
use Rattle.message.specs.Alert.{alert_of}
use Rattle.connection.specs.Judge.{fragment_of}
use Rattle.demands.specs.Genuine.{RecordOf}
use Rattle.demands.specs.Course.{Course, is_new, alert_shuts, content_shuts}
use Rattle.demands.proofs.Genuine.{true_false}
use Rattle.ends.specs.Link.{GenuineFor, NoneFor, OtherFor, Report, Handed, handed, Entry, sends, writes, takes, In, SentAs, AllSentAs, Within, NewIn, with_all, Once, HandedIn, AllBelow, Arrives, Exactly}

-- ---- small things

-- a number is accepted of a longer history only if it is the new one or was accepted before
accepted_cases : (s : ℕ) (h : List ℕ) (n : ℕ) → accepted (s ∷ h) n ≡ true → (n ≡ s) ⊎ (accepted h n ≡ true)
accepted_cases s h n e =
    decide (eqb s n) (λ f. inl (sym (eqb-true s n f)))
    (λ f. inr (sym (accepted_other s n h (λ z. true_false (eqb s n) (eq-eqb s n z) f)) ∙ e))

-- one record in a datagram of one
pub in_one : (before : List Record) (r : Record) (behind : List Record) (q : Record) → before ++ (r ∷ behind) ≡ q ∷ [] → r ≡ q
in_one [] r behind q e = cc
in_one (x ∷ before) r behind q e =
    let z : length (before ++ (r ∷ behind)) ≡ 0 = let rest : before ++ (r ∷ behind) ≡ [] = cc in ap length rest in
    absurd (omega (arith, length-append before (r ∷ behind)))

pub same_records : (rs qs : List Record) (f : Framing) → f ≡ framed rs → f ≡ framed qs → rs ≡ qs
same_records rs qs f e g = cc

not_faulty : {P : Type 0} (rs : List Record) (fault : Fault) (at : ℕ) (f : Framing) → f ≡ framed rs → f ≡ faulty fault at → P
not_faulty rs fault at f e g = let z : ◌≡◌ {A = ℕ} 0 1 = cc in absurd (omega arith)

abbrev pub Sent : Report → List Report → Type 0
Sent report [] = ⊥
Sent report (x ∷ xs) = (report ≡ x) ⊎ Sent report xs

new_facts : (width : ℕ) (numbers : List ℕ) (s : ℕ) → is_new width numbers s ≡ true → (highest_of numbers < s + width) × (accepted numbers s ≡ false)
new_facts width numbers s e =
    decide (leb (s + width) (highest_of numbers))
    (λ o. true_false false (sym (ap (λ (b : Bool). pick b false (pick (accepted numbers s) false true)) o) ∙ e) refl)
    (λ o. decide (accepted numbers s)
    (λ a. true_false false (sym (ap₂ (λ (b c : Bool). pick b false (pick c false true)) o a) ∙ e) refl)
    (λ a. (leb-false (s + width) (highest_of numbers) o, a)))

new_so : (width : ℕ) (numbers : List ℕ) (s : ℕ) → highest_of numbers < s + width → accepted numbers s ≡ false → is_new width numbers s ≡ true
new_so width numbers s l a = ap₂ (λ (o b : Bool). pick o false (pick b false true)) (lt-leb (s + width) (highest_of numbers) l) a

module _ (k : Keys) (sense : Sense) (expected : List ℕ) where
  -- ---- genuine as a test

  abbrev pub test_for : List ℕ → Record → Bool
  test_for d r = pick r.protected (genuine_under k sense r.number r.byte (fragment_of d r)) false

  abbrev pub content_for : List ℕ → Record → List ℕ
  content_for d r = content_under k (fragment_of d r)

  module _ (d : List ℕ) (r : Record) where
    pub right : (c : List ℕ) → GenuineFor k sense d r c → test_for d r ≡ true
    right c g =
        ap₂ (λ p x. pick p x false) g.is_protected
        (ap (genuine_under k sense r.number r.byte) g.is_coded ∙ protected_genuine (secret_for k sense r.number) k.mac r.number r.byte c)

    pub content_is : (c : List ℕ) → GenuineFor k sense d r c → content_for d r ≡ c
    unfolding fragment_by
    content_is c g =
        let code : List ℕ = code_by (hmac (secret_for k sense r.number)) (size_of k.mac) r.number r.byte c in
        let size : length (c ++ code) ≡ length c + size_of k.mac = protected_length (secret_for k sense r.number) k.mac r.number r.byte c in
        ap (λ f. take (length f - size_of k.mac) f) g.is_coded ∙ take_at c code (length (c ++ code) - size_of k.mac) (omega (arith, size))

    pub made : RecordOf d r → test_for d r ≡ true → GenuineFor k sense d r (content_for d r)
    made at e = by r.protected refl e
      where
        by : (p : Bool) → r.protected ≡ p → pick p (genuine_under k sense r.number r.byte (fragment_of d r)) false ≡ true
            → GenuineFor k sense d r (content_for d r)
        by true ep g =
            record {
              in_place = at;
              is_protected = ep;
              is_coded = (genuine_made (hmac (secret_for k sense r.number)) (size_of k.mac) r.number r.byte (fragment_of d r) g).1;
            }
        by false ep g = true_false false g refl

  -- ---- the course, record by record

  abbrev pub used_for : Course → Record → List ℕ → Course
  used_for course r c =
      record { width = course.width; numbers = r.number ∷ course.numbers; shut = content_shuts r.content c expected }

  abbrev pub step_for : Course → List ℕ → Record → Course
  step_for course d r =
      pick course.shut course
      (pick (test_for d r) (pick (is_new course.width course.numbers r.number) (used_for course r (content_for d r)) course) course)

  pub data Stepped (course : Course) (d : List ℕ) (r : Record) : Course → Type 0 where
    same : Stepped course d r course
    used : (c : List ℕ) → GenuineFor k sense d r c → highest_of course.numbers < r.number + course.width
        → accepted course.numbers r.number ≡ false → Stepped course d r (used_for course r c)

  stepped : (course : Course) (d : List ℕ) (r : Record) → RecordOf d r → course.shut ≡ false → Stepped course d r (step_for course d r)
  stepped course d r at z = by (test_for d r) refl (is_new course.width course.numbers r.number) refl
    where
      by : (t : Bool) → test_for d r ≡ t → (b : Bool) → is_new course.width course.numbers r.number ≡ b → Stepped course d r (step_for course d r)
      by false et b eb =
          subst (Stepped course d r)
          (λ i. pick (sym z i) course (pick (sym et i) (pick (is_new course.width course.numbers r.number) (used_for course r (content_for d r)) course) course)) same
      by true et false eb =
          subst (Stepped course d r) (λ i. pick (sym z i) course (pick (sym et i) (pick (sym eb i) (used_for course r (content_for d r)) course) course)) same
      by true et true eb =
          let q = new_facts course.width course.numbers r.number eb in
          subst (Stepped course d r) (λ i. pick (sym z i) course (pick (sym et i) (pick (sym eb i) (used_for course r (content_for d r)) course) course))
          (used (content_for d r) (made d r at et) q.0 q.1)

  -- what is to be handed out at this place of the course
  pub record DueFor (course : Course) (d : List ℕ) (r : Record) (c : List ℕ) : Type 0 where
    pub not_shut : course.shut ≡ false
    pub genuine : GenuineFor k sense d r c
    pub is_data_lem : r.content ≡ C.Data
    pub some : 0 < length c
    pub not_before : accepted course.numbers r.number ≡ false
    pub recent : (n : ℕ) → accepted course.numbers n ≡ true → n < r.number + course.width

  -- the records of a datagram, one after the other: what is due is handed out, and nothing else
  pub data Taken (d : List ℕ) : Course → List Record → List Handed → Course → Type 0 where
    nothing : {course : Course} → Taken d course [] [] course
    hands : {course end : Course} {r : Record} {rs : List Record} {out : List Handed} (c : List ℕ) → DueFor course d r c
        → Taken d (step_for course d r) rs out end → Taken d course (r ∷ rs) (handed r.number c ∷ out) end
    passes : {course end : Course} {r : Record} {rs : List Record} {out : List Handed} → RecordOf d r
        → ((c : List ℕ) → DueFor course d r c → ⊥) → Taken d (step_for course d r) rs out end → Taken d course (r ∷ rs) out end

  -- a course that is shut stays so
  shut_step : (course : Course) (d : List ℕ) (r : Record) → course.shut ≡ true → (step_for course d r).shut ≡ true
  shut_step course d r z =
      ap (λ (b : Bool). (pick b course (pick (test_for d r) (pick (is_new course.width course.numbers r.number) (used_for course r (content_for d r)) course) course)).shut) z ∙ z

  pub stays_shut : (d : List ℕ) {course end : Course} {rs : List Record} {out : List Handed} → Taken d course rs out end → course.shut ≡ true
      → end.shut ≡ true
  stays_shut d nothing z = z
  stays_shut d (hands {course = course} {r = r} c u more) z = stays_shut d more (shut_step course d r z)
  stays_shut d (passes {course = course} {r = r} at no_due more) z = stays_shut d more (shut_step course d r z)

  -- ---- what was written

  -- a report is one record: its datagram has this one, genuine, data, with its number and its bytes
  pub record Single (report : Report) : Type 0 where
    pub r : Record
    pub framing : framing_of report.datagram ≡ framed (r ∷ [])
    pub genuine : GenuineFor k sense report.datagram r report.bytes
    pub number_is : r.number ≡ report.number
    pub is_data_lem : r.content ≡ C.Data
    pub some : 0 < length report.bytes

  single_only : (report : Report) (s : Single report) (r : Record) (c : List ℕ) → GenuineFor k sense report.datagram r c
      → (r ≡ s.r) × (c ≡ report.bytes)
  single_only report s r c g =
      let one : r ≡ s.r
      = in_one g.in_place.before r g.in_place.behind s.r
      (same_records (g.in_place.before ++ (r ∷ g.in_place.behind)) (s.r ∷ []) (framing_of report.datagram) g.in_place.framing s.framing) in
      (one, sym (content_is report.datagram r c g) ∙ ap (content_for report.datagram) one ∙ content_is report.datagram s.r report.bytes s.genuine)

  -- another protected record: an alert that closes nothing
  pub record Warned (next : ℕ) (d : List ℕ) (r : Record) (c : List ℕ) : Type 0 where
    pub number_is : r.number ≡ next
    pub is_alert : r.content ≡ C.Alert
    pub harmless : alert_shuts (alert_of c) ≡ false

  -- a genuine record of a datagram that was written
  pub record Fine (sent : List Report) (next : ℕ) (d : List ℕ) (r : Record) (c : List ℕ) : Type 0 where
    pub numbered : r.number < next
    pub harmless : (content_shuts r.content c expected ≡ false) ⊎ (r.number ≡ 0)
    pub data_sent_lem : r.content ≡ C.Data → SentAs sent d (handed r.number c)

  -- a genuine record with this number came
  pub record Came (seen : List (List ℕ)) (n : ℕ) : Type 0 where
    pub d : List ℕ
    pub there : In d seen
    pub r : Record
    pub c : List ℕ
    pub genuine : GenuineFor k sense d r c
    pub number_is : r.number ≡ n

  pub record Holds (first width : ℕ) (written : List (List ℕ)) (sent : List Report) (next : ℕ) (seen : List (List ℕ)) (course : Course) : Type 0 where
    pub width_is : course.width ≡ width
    pub held : Held width
    pub not_shut : course.shut ≡ false
    pub opened : accepted course.numbers 0 ≡ true
    pub below : (n : ℕ) → accepted course.numbers n ≡ true → n < next
    pub first_some : 1 ≤ first
    pub from_first : first ≤ next
    pub fine : (d : List ℕ) → In d written → (r : Record) (c : List ℕ) → GenuineFor k sense d r c → Fine sent next d r c
    pub singles : (report : Report) → Sent report sent → Single report × (first ≤ report.number) × (report.number < next)
    pub unique : (report : Report) → Sent report sent → (d : List ℕ) → In d written → (r : Record) (c : List ℕ)
        → GenuineFor k sense d r c → r.number ≡ report.number → d ≡ report.datagram
    pub traced : (n : ℕ) → accepted course.numbers n ≡ true → (n < first) ⊎ Came seen n
    pub ruled : (d : List ℕ) → In d seen → In d written ⊎ OtherFor k sense d

  module _ (first width : ℕ) where
    abbrev State : List (List ℕ) → List Report → ℕ → List (List ℕ) → Course → Type 0
    State written sent next seen course = Holds first width written sent next seen course

    module _ (written : List (List ℕ)) (sent : List Report) (next : ℕ) (seen : List (List ℕ)) (course : Course) (h : State written sent next seen course) where
      -- a report is sent
      pub after_report : (report : Report) → Single report → report.number ≡ next
          → State (report.datagram ∷ written) (report ∷ sent) (next + 1) seen course
      after_report report s e =
          record {
            width_is = h.width_is;
            held = h.held;
            not_shut = h.not_shut;
            opened = h.opened;
            below = λ n a. let q = h.below n a in omega arith;
            first_some = h.first_some;
            from_first = let q = h.from_first in omega arith;
            fine = fine_more;
            singles = singles_more;
            unique = unique_more;
            traced = h.traced;
            ruled = λ d i. wider d (h.ruled d i);
          }
        where
          wider : (d : List ℕ) → In d written ⊎ OtherFor k sense d → In d (report.datagram ∷ written) ⊎ OtherFor k sense d
          wider d (inl i) = inl (inr i)
          wider d (inr n) = inr n

          number_of : (r : Record) (c : List ℕ) → GenuineFor k sense report.datagram r c → r.number ≡ next
          number_of r c g = ap (λ (x : Record). x.number) (single_only report s r c g).0 ∙ s.number_is ∙ e

          fine_here : (d : List ℕ) → d ≡ report.datagram → (r : Record) (c : List ℕ) → GenuineFor k sense report.datagram r c
              → Fine (report ∷ sent) (next + 1) d r c
          fine_here d i r c g =
              let o = single_only report s r c g in
              let n = number_of r c g in
              record {
                numbered = omega arith;
                harmless = inl (ap (λ (x : Content). content_shuts x c expected) (ap (λ (x : Record). x.content) o.0 ∙ s.is_data_lem));
                data_sent_lem = λ z. inl (e ∙ sym n, sym o.1, sym i);
              }

          fine_more : (d : List ℕ) → In d (report.datagram ∷ written) → (r : Record) (c : List ℕ) → GenuineFor k sense d r c → Fine (report ∷ sent) (next + 1) d r c
          fine_more d (inl i) r c g = fine_here d i r c (subst (λ x. GenuineFor k sense x r c) i g)
          fine_more d (inr i) r c g =
              let f = h.fine d i r c g in
              record { numbered = let q = f.numbered in omega arith; harmless = f.harmless; data_sent_lem = λ z. inr (f.data_sent_lem z) }

          singles_more : (x : Report) → Sent x (report ∷ sent) → Single x × (first ≤ x.number) × (x.number < next + 1)
          singles_more x (inl i) =
              let n : x.number ≡ next = ap (λ (y : Report). y.number) i ∙ e in
              let q = h.from_first in
              (subst Single (sym i) s, omega arith, omega arith)
          singles_more x (inr i) = let q = h.singles x i in let l = q.2 in (q.0, q.1, omega arith)

          unique_more : (x : Report) → Sent x (report ∷ sent) → (d : List ℕ) → In d (report.datagram ∷ written) → (r : Record) (c : List ℕ)
              → GenuineFor k sense d r c → r.number ≡ x.number → d ≡ x.datagram
          unique_more x (inl i) d (inl j) r c g n = j ∙ ap (λ (y : Report). y.datagram) (sym i)
          unique_more x (inl i) d (inr j) r c g n =
              let l = (h.fine d j r c g).numbered in
              let m : x.number ≡ next = ap (λ (y : Report). y.number) i ∙ e in
              absurd (omega arith)
          unique_more x (inr i) d (inl j) r c g n =
              let l = (h.singles x i).2 in
              let m = number_of r c (subst (λ y. GenuineFor k sense y r c) j g) in
              absurd (omega arith)
          unique_more x (inr i) d (inr j) r c g n = h.unique x i d j r c g n

      -- an alert is written
      pub after_warning : (new : List ℕ) → ((r : Record) (c : List ℕ) → GenuineFor k sense new r c → Warned next new r c)
          → State (new ∷ written) sent (next + 1) seen course
      after_warning new w =
          record {
            width_is = h.width_is;
            held = h.held;
            not_shut = h.not_shut;
            opened = h.opened;
            below = λ n a. let q = h.below n a in omega arith;
            first_some = h.first_some;
            from_first = let q = h.from_first in omega arith;
            fine = fine_more;
            singles = λ x i. let q = h.singles x i in let l = q.2 in (q.0, q.1, omega arith);
            unique = unique_more;
            traced = h.traced;
            ruled = λ d i. wider d (h.ruled d i);
          }
        where
          wider : (d : List ℕ) → In d written ⊎ OtherFor k sense d → In d (new ∷ written) ⊎ OtherFor k sense d
          wider d (inl i) = inl (inr i)
          wider d (inr n) = inr n

          alert_data : {P : Type 0} → C.Alert ≡ C.Data → P
          alert_data z = let y : ◌≡◌ {A = ℕ} 0 1 = cc in absurd (omega arith)

          fine_here : (d : List ℕ) (r : Record) (c : List ℕ) → GenuineFor k sense new r c → Fine sent (next + 1) d r c
          fine_here d r c g =
              let q = w r c g in
              let n = q.number_is in
              record {
                numbered = omega arith;
                harmless = inl (ap (λ (x : Content). content_shuts x c expected) q.is_alert ∙ q.harmless);
                data_sent_lem = λ z. alert_data (sym q.is_alert ∙ z);
              }

          fine_more : (d : List ℕ) → In d (new ∷ written) → (r : Record) (c : List ℕ) → GenuineFor k sense d r c → Fine sent (next + 1) d r c
          fine_more d (inl i) r c g = fine_here d r c (subst (λ x. GenuineFor k sense x r c) i g)
          fine_more d (inr i) r c g =
              let f = h.fine d i r c g in
              record { numbered = let q = f.numbered in omega arith; harmless = f.harmless; data_sent_lem = f.data_sent_lem }

          unique_more : (x : Report) → Sent x sent → (d : List ℕ) → In d (new ∷ written) → (r : Record) (c : List ℕ)
              → GenuineFor k sense d r c → r.number ≡ x.number → d ≡ x.datagram
          unique_more x i d (inl j) r c g n =
              let l = (h.singles x i).2 in
              let m = (w r c (subst (λ y. GenuineFor k sense y r c) j g)).number_is in
              absurd (omega arith)
          unique_more x i d (inr j) r c g n = h.unique x i d j r c g n

      -- a datagram comes, by the link's rule
      pub after_seen : (d : List ℕ) → In d written ⊎ OtherFor k sense d → State written sent next (d ∷ seen) course
      after_seen d rule =
          record {
            width_is = h.width_is;
            held = h.held;
            not_shut = h.not_shut;
            opened = h.opened;
            below = h.below;
            first_some = h.first_some;
            from_first = h.from_first;
            fine = h.fine;
            singles = h.singles;
            unique = h.unique;
            traced = λ n a. later n (h.traced n a);
            ruled = by;
          }
        where
          later : (n : ℕ) → (n < first) ⊎ Came seen n → (n < first) ⊎ Came (d ∷ seen) n
          later n (inl l) = inl l
          later n (inr c) = inr (record { d = c.d; there = inr c.there; r = c.r; c = c.c; genuine = c.genuine; number_is = c.number_is })

          by : (x : List ℕ) → In x (d ∷ seen) → In x written ⊎ OtherFor k sense x
          by x (inl i) = subst (λ y. In y written ⊎ OtherFor k sense y) (sym i) rule
          by x (inr i) = h.ruled x i

      -- and a record of it is taken
      record_taken : (d : List ℕ) → In d seen → (r : Record) → RecordOf d r → (end : Course) → Stepped course d r end → State written sent next seen end
      record_taken d i r at end same = h
      record_taken d i r at end (used c g l new) = from (h.ruled d i)
        where
          from : In d written ⊎ OtherFor k sense d → State written sent next seen (used_for course r c)
          from (inr other) =
              true_false (accepted course.numbers 0) h.opened (ap (accepted course.numbers) (sym (other r c g).1) ∙ new)
          from (inl w) =
              record {
                width_is = h.width_is;
                held = h.held;
                not_shut = not_closed (h.fine d w r c g).harmless;
                opened = accepted_still r.number 0 course.numbers h.opened;
                below = λ n a. below_by n (accepted_cases r.number course.numbers n a);
                first_some = h.first_some;
                from_first = h.from_first;
                fine = h.fine;
                singles = h.singles;
                unique = h.unique;
                traced = λ n a. traced_by n (accepted_cases r.number course.numbers n a);
                ruled = h.ruled;
              }
            where
              not_closed : (content_shuts r.content c expected ≡ false) ⊎ (r.number ≡ 0) → content_shuts r.content c expected ≡ false
              not_closed (inl e) = e
              not_closed (inr e) = true_false (accepted course.numbers 0) h.opened (ap (accepted course.numbers) (sym e) ∙ new)

              below_by : (n : ℕ) → (n ≡ r.number) ⊎ (accepted course.numbers n ≡ true) → n < next
              below_by n (inl e) = let q = (h.fine d w r c g).numbered in omega arith
              below_by n (inr a) = h.below n a

              traced_by : (n : ℕ) → (n ≡ r.number) ⊎ (accepted course.numbers n ≡ true) → (n < first) ⊎ Came seen n
              traced_by n (inl e) = inr (record { d = d; there = i; r = r; c = c; genuine = g; number_is = sym e })
              traced_by n (inr a) = h.traced n a

    record_place : (course : Course) (d : List ℕ) (r : Record) (c : List ℕ) → DueFor course d r c → RecordOf d r
    record_place course d r c u = u.genuine.in_place

    -- all records of it
    pub after_taken : (written : List (List ℕ)) (sent : List Report) (next : ℕ) (seen : List (List ℕ)) (d : List ℕ) → In d seen
        → {course end : Course} {rs : List Record} {out : List Handed} → Taken d course rs out end
        → State written sent next seen course → State written sent next seen end
    after_taken written sent next seen d i nothing h = h
    after_taken written sent next seen d i (hands {course = course} {r = r} c u more) h =
        after_taken written sent next seen d i more
        (record_taken written sent next seen course h d i r u.genuine.in_place (step_for course d r) (stepped course d r u.genuine.in_place h.not_shut))
    after_taken written sent next seen d i (passes {course = course} {r = r} at no_due more) h =
        after_taken written sent next seen d i more
        (record_taken written sent next seen course h d i r at (step_for course d r) (stepped course d r at h.not_shut))

    -- ---- what a delivery hands out

    out_sent : (written : List (List ℕ)) (sent : List Report) (next : ℕ) (seen : List (List ℕ)) (d : List ℕ) → In d seen
        → {course end : Course} {rs : List Record} {out : List Handed} → Taken d course rs out end
        → State written sent next seen course → AllSentAs sent d out
    out_sent written sent next seen d i nothing h = tt
    out_sent written sent next seen d i (hands {course = course} {r = r} c u more) h = (
      by (h.ruled d i),
      out_sent written sent next seen d i more
          (record_taken written sent next seen course h d i r u.genuine.in_place (step_for course d r) (stepped course d r u.genuine.in_place h.not_shut)),
    )
      where
        by : In d written ⊎ OtherFor k sense d → SentAs sent d (handed r.number c)
        by (inl w) = (h.fine d w r c u.genuine).data_sent_lem u.is_data_lem
        by (inr other) =
            let z : C.Handshake ≡ C.Data = sym (other r c u.genuine).0 ∙ u.is_data_lem in
            let y : ◌≡◌ {A = ℕ} 0 1 = cc in
            absurd (omega arith)
    out_sent written sent next seen d i (passes {course = course} {r = r} at no_due more) h =
        out_sent written sent next seen d i more
        (record_taken written sent next seen course h d i r at (step_for course d r) (stepped course d r at h.not_shut))

    -- a number that was used up stays so, and one that is due is used up
    grows : (course : Course) (d : List ℕ) (r : Record) (end : Course) → Stepped course d r end → (n : ℕ) → accepted course.numbers n ≡ true
        → accepted end.numbers n ≡ true
    grows course d r end same n a = a
    grows course d r end (used c g l new) n a = accepted_still r.number n course.numbers a

    due_used : (course : Course) (d : List ℕ) (r : Record) (c : List ℕ) → Held course.width → DueFor course d r c
        → accepted (step_for course d r).numbers r.number ≡ true
    due_used course d r c held u =
        let l : highest_of course.numbers < r.number + course.width = below_all course.width (held_some course.width held) course.numbers r.number u.recent in
        let is : step_for course d r ≡ used_for course r (content_for d r)
        = λ i. pick (u.not_shut i) course (pick (right d r c u.genuine i) (pick (new_so course.width course.numbers r.number l u.not_before i) (used_for course r (content_for d r)) course) course) in
        ap (λ (x : Course). accepted x.numbers r.number) is ∙ accepted_here r.number course.numbers

    abbrev Inside : List ℕ → Course → Type 0
    Inside before course = (n : ℕ) → accepted before n ≡ true → accepted course.numbers n ≡ true

    not_inside : (before : List ℕ) (course : Course) (n : ℕ) → Inside before course → accepted course.numbers n ≡ false → accepted before n ≡ false
    not_inside before course n f a = decide (accepted before n) (λ e. true_false (accepted course.numbers n) (f n e) a) (λ e. e)

    inside_more : (before : List ℕ) (n : ℕ) (course : Course) → Inside before course → accepted course.numbers n ≡ true → Inside (n ∷ before) course
    inside_more before n course f a m e = by (accepted_cases n before m e)
      where
        by : (m ≡ n) ⊎ (accepted before m ≡ true) → accepted course.numbers m ≡ true
        by (inl z) = ap (accepted course.numbers) z ∙ a
        by (inr z) = f m z

    out_new : (written : List (List ℕ)) (sent : List Report) (next : ℕ) (seen : List (List ℕ)) (d : List ℕ) → In d seen
        → {course end : Course} {rs : List Record} {out : List Handed} → Taken d course rs out end
        → State written sent next seen course → (before : List ℕ) → Inside before course → NewIn before out × Inside (with_all before out) end
    out_new written sent next seen d i nothing h before f = (tt, f)
    out_new written sent next seen d i (hands {course = course} {r = r} c u more) h before f =
        let s = stepped course d r u.genuine.in_place h.not_shut in
        let g : Inside before (step_for course d r) = λ n a. grows course d r (step_for course d r) s n (f n a) in
        let held : Held course.width = subst Held (sym h.width_is) h.held in
        let q = out_new written sent next seen d i more (record_taken written sent next seen course h d i r u.genuine.in_place (step_for course d r) s)
        (r.number ∷ before) (inside_more before r.number (step_for course d r) g (due_used course d r c held u)) in
        ((not_inside before course r.number f u.not_before, q.0), q.1)
    out_new written sent next seen d i (passes {course = course} {r = r} at no_due more) h before f =
        let s = stepped course d r at h.not_shut in
        out_new written sent next seen d i more (record_taken written sent next seen course h d i r at (step_for course d r) s) before
        (λ n a. grows course d r (step_for course d r) s n (f n a))

    -- ---- a report that arrives for the first time

    module _ (written : List (List ℕ)) (sent : List Report) (next : ℕ) (seen : List (List ℕ)) (course : Course) (h : State written sent next seen course)
        (report : Report) (is-sent : Sent report sent) (not_seen : In report.datagram seen → ⊥)
        (lower : (d : List ℕ) → In d seen → AllBelow k sense (report.number + width) d) where
      abbrev s : Single report
      s = (h.singles report is-sent).0

      not_came : Came seen report.number → ⊥
      not_came c = by (h.ruled c.d c.there)
        where
          by : In c.d written ⊎ OtherFor k sense c.d → ⊥
          by (inl w) =
              not_seen (subst (λ x. In x seen) (h.unique report is-sent c.d w c.r c.c c.genuine c.number_is) c.there)
          by (inr other) =
              let n = (other c.r c.c c.genuine).1 in
              let m = c.number_is in
              let l = (h.singles report is-sent).1 in
              let f = h.first_some in
              omega arith

      not_accepted : accepted course.numbers report.number ≡ false
      not_accepted = decide (accepted course.numbers report.number) (λ a. absurd (by (h.traced report.number a))) (λ a. a)
        where
          by : (report.number < first) ⊎ Came seen report.number → ⊥
          by (inl l) = let q = (h.singles report is-sent).1 in omega arith
          by (inr c) = not_came c

      all_lower : (n : ℕ) → accepted course.numbers n ≡ true → n < report.number + width
      all_lower n a = by (h.traced n a)
        where
          by : (n < first) ⊎ Came seen n → n < report.number + width
          by (inl l) = let q = (h.singles report is-sent).1 in omega arith
          by (inr c) = let q = lower c.d c.there c.r c.c c.genuine in let m = c.number_is in omega arith

      is_due : DueFor course report.datagram s.r report.bytes
      is_due =
          record {
            not_shut = h.not_shut;
            genuine = s.genuine;
            is_data_lem = s.is_data_lem;
            some = s.some;
            not_before = ap (accepted course.numbers) s.number_is ∙ not_accepted;
            recent = λ n a. let q = all_lower n a in let m = s.number_is in let w = h.width_is in omega arith;
          }

      out_by : {end : Course} {out : List Handed} → Taken report.datagram course (s.r ∷ []) out end → HandedIn report out
      out_by (hands c u more) = inl (s.number_is, (single_only report s s.r c u.genuine).1)
      out_by (passes at no_due more) = absurd (no_due report.bytes is_due)

      pub handed_first : (rs : List Record) → framing_of report.datagram ≡ framed rs → {end : Course} {out : List Handed}
          → Taken report.datagram course rs out end → HandedIn report out
      handed_first rs f {end} {out} t =
          out_by (subst (λ x. Taken report.datagram course x out end) (same_records rs (s.r ∷ []) (framing_of report.datagram) f s.framing) t)

    -- ---- a whole run of a course

    -- what the two ends do, as the laws of each tell
    pub data Runs : List (List ℕ) → List Report → ℕ → Course → List Entry → Type 0 where
      done : {written : List (List ℕ)} {sent : List Report} {next : ℕ} {course : Course} → Runs written sent next course []
      reporting : {written : List (List ℕ)} {sent : List Report} {next : ℕ} {course : Course} {entries : List Entry} (report : Report)
          → Single report → report.number ≡ next → Runs (report.datagram ∷ written) (report ∷ sent) (next + 1) course entries
          → Runs written sent next course (sends report ∷ entries)
      warning : {written : List (List ℕ)} {sent : List Report} {next : ℕ} {course : Course} {entries : List Entry} (d : List ℕ)
          → ((r : Record) (c : List ℕ) → GenuineFor k sense d r c → Warned next d r c) → Runs (d ∷ written) sent (next + 1) course entries
          → Runs written sent next course (writes d ∷ entries)
      taking : {written : List (List ℕ)} {sent : List Report} {next : ℕ} {course end : Course} {entries : List Entry} {out : List Handed} (d : List ℕ)
          (rs : List Record) → framing_of d ≡ framed rs → In d written ⊎ OtherFor k sense d → Taken d course rs out end
          → Runs written sent next end entries → Runs written sent next course (takes d out ∷ entries)
      losing : {written : List (List ℕ)} {sent : List Report} {next : ℕ} {course : Course} {entries : List Entry} (d : List ℕ)
          (fault : Fault) (at : ℕ) → framing_of d ≡ faulty fault at → Runs written sent next course entries
          → Runs written sent next course (takes d [] ∷ entries)

    pub faulty_none : (d : List ℕ) (fault : Fault) (at : ℕ) → framing_of d ≡ faulty fault at → NoneFor k sense d
    faulty_none d fault at f r c g =
        not_faulty (g.in_place.before ++ (r ∷ g.in_place.behind)) fault at (framing_of d) g.in_place.framing f

    -- a datagram without a genuine record is one of the others
    pub none_other : (d : List ℕ) → NoneFor k sense d → OtherFor k sense d
    none_other d none r c g = absurd (none r c g)

    arrives : {written : List (List ℕ)} {sent : List Report} {next : ℕ} {course : Course} {entries : List Entry} → Runs written sent next course entries
        → (seen : List (List ℕ)) → State written sent next seen course → (report : Report) → Sent report sent → (In report.datagram seen → ⊥)
        → ((d : List ℕ) → In d seen → AllBelow k sense (report.number + width) d) → Arrives k sense width report entries
    unfolding Arrives
    arrives done seen h report i n l = tt
    arrives (reporting {written = written} {sent = sent} {next = next} {course = course} other s e more) seen h report i n l =
        arrives more seen (after_report written sent next seen course h other s e) report (inr i) n l
    arrives (warning {written = written} {sent = sent} {next = next} {course = course} d w more) seen h report i n l =
        arrives more seen (after_warning written sent next seen course h d w) report i n l
    arrives (taking {written = written} {sent = sent} {next = next} {course = course} {end = end} {out = out} d rs f rule t more) seen h report i n l = (
      λ z. handed_first written sent next seen course h report i n l rs (ap framing_of (sym z) ∙ f) (subst (λ x. Taken x course rs out end) z t),
      λ other low. arrives more (d ∷ seen) (after_taken written sent next (d ∷ seen) d (inl refl) t (after_seen written sent next seen course h d rule)) report i
          (unseen other) (lower low),
    )
      where
        unseen : (d ≢ report.datagram) → In report.datagram (d ∷ seen) → ⊥
        unseen other (inl z) = other (sym z)
        unseen other (inr z) = n z

        lower : AllBelow k sense (report.number + width) d → (x : List ℕ) → In x (d ∷ seen) → AllBelow k sense (report.number + width) x
        lower low x (inl z) = subst (AllBelow k sense (report.number + width)) (sym z) low
        lower low x (inr z) = l x z
    arrives (losing {written = written} {sent = sent} {next = next} {course = course} d fault at f more) seen h report i n l = (
      λ z. absurd (faulty_none d fault at f (h.singles report i).0.r report.bytes (subst (λ x. GenuineFor k sense x (h.singles report i).0.r report.bytes) (sym z) (h.singles report i).0.genuine)),
      λ other low. arrives more (d ∷ seen) (after_seen written sent next seen course h d (inr (none_other d (faulty_none d fault at f)))) report i (unseen other) (lower low),
    )
      where
        unseen : (d ≢ report.datagram) → In report.datagram (d ∷ seen) → ⊥
        unseen other (inl z) = other (sym z)
        unseen other (inr z) = n z

        lower : AllBelow k sense (report.number + width) d → (x : List ℕ) → In x (d ∷ seen) → AllBelow k sense (report.number + width) x
        lower low x (inl z) = subst (AllBelow k sense (report.number + width)) (sym z) low
        lower low x (inr z) = l x z

    -- what has come before a report is sent is not the report, and is below it
    module _ (written : List (List ℕ)) (sent : List Report) (next : ℕ) (seen : List (List ℕ)) (course : Course) (h : State written sent next seen course)
        (report : Report) (single : Single report) (e : report.number ≡ next) where
      seen_below : (d : List ℕ) → In d seen → (r : Record) (c : List ℕ) → GenuineFor k sense d r c → r.number < next
      seen_below d i r c g = by (h.ruled d i)
        where
          by : In d written ⊎ OtherFor k sense d → r.number < next
          by (inl w) = (h.fine d w r c g).numbered
          by (inr other) = let n = (other r c g).1 in let l = h.below 0 h.opened in omega arith

      pub fresh_report : In report.datagram seen → ⊥
      fresh_report i = let q = seen_below report.datagram i single.r report.bytes single.genuine in let n = single.number_is in omega arith

      pub fresh_lower : (d : List ℕ) → In d seen → AllBelow k sense (report.number + width) d
      fresh_lower d i r c g = let q = seen_below d i r c g in omega arith

    pub delivered : {written : List (List ℕ)} {sent : List Report} {next : ℕ} {course : Course} {entries : List Entry} → Runs written sent next course entries
        → (seen : List (List ℕ)) → State written sent next seen course → (before : List ℕ) → Inside before course
        → Within sent entries × Once before entries × Exactly k sense width entries
    unfolding Within Once Exactly
    delivered done seen h before f = (tt, tt, tt)
    delivered (reporting {written = written} {sent = sent} {next = next} {course = course} report s e more) seen h before f =
        let later = after_report written sent next seen course h report s e in
        let q = delivered more seen later before f in (
          q.0,
          q.1,
          (arrives more seen later report (inl refl) (fresh_report written sent next seen course h report s e) (fresh_lower written sent next seen course h report s e), q.2),
        )
    delivered (warning {written = written} {sent = sent} {next = next} {course = course} d w more) seen h before f =
        delivered more seen (after_warning written sent next seen course h d w) before f
    delivered (taking {written = written} {sent = sent} {next = next} {course = course} d rs fr rule t more) seen h before f =
        let here = after_seen written sent next seen course h d rule in
        let o = out_new written sent next (d ∷ seen) d (inl refl) t here before f in
        let q = delivered more (d ∷ seen) (after_taken written sent next (d ∷ seen) d (inl refl) t here) _ o.1 in
        ((out_sent written sent next (d ∷ seen) d (inl refl) t here, q.0), (o.0, q.1), q.2)
    delivered (losing {written = written} {sent = sent} {next = next} {course = course} d fault at fr more) seen h before f =
        let q = delivered more (d ∷ seen) (after_seen written sent next seen course h d (inr (none_other d (faulty_none d fault at fr)))) before f in
        ((tt, q.0), (tt, q.1), q.2)
