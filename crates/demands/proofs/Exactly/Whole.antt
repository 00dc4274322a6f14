-- The refusals of a datagram as a whole, exactly when. The idea: behind n sound records the walk stands where record
-- n begins; what it finds there is said by the bytes, and a fault there is the fault of the whole.
use mathlib.Core.Path.{◌≡◌, refl, sym, ap, subst, ◌∙◌}
use mathlib.Core.Logic.{◌⊎◌, ◌≢◌, inl, inr}
use mathlib.Core.List.{List, [], ◌∷◌}
use Prim.Native.Nat.{ℕ, zero, suc, ◌+◌, ◌-◌, ◌≤◌, ◌<◌}
use native.Mathlib.Omega.{arith}
use lib.ListN.{length, drop, length-drop}
use lib.Seq.{drop-drop}
use lib.Dec.{eqb, ltb}
use borrow.Author.Tests.{eq-eqb, ne_eqb, le-ltb, lt-ltb, ltb-true, ltb-false, eqb-true, eqb-false}
use Rattle.record.specs.Reader.{read_of}
use Rattle.record.specs.Datagram.{Framing, framed, faulty, after, framing_from, framing_of, placed_at}
use Rattle.record.specs.declared.reader.Record.{Record}
use Rattle.record.specs.declared.reader.Fault.{Fault}
use Rattle.record.specs.declared.reader.Fault.TheVariants as F
use Rattle.connection.specs.Receive.{received_of, framed_to, run_of, whole_of, slots_of}
use Rattle.connection.specs.declared.answer.Slot.{Slot}
use Rattle.connection.specs.declared.connection.Connection.{Connection}
use Rattle.connection.specs.declared.receive.Untaken.TheVariants as T
use Rattle.connection.specs.declared.receive.Received.{Received}
use Rattle.connection.specs.declared.refusal.Refusal.{Refusal}
use Rattle.connection.specs.declared.refusal.Refusal.TheVariants as X
use Rattle.demands.specs.Runs.{receive, Returned, received, sent, called, step_of}
use Rattle.demands.specs.Exactly.Whole.{head_at, size_at, SoundAt, start_of, SoundBefore, SizeFits, Reached, WhyFaulty, WhyMisframed, WhyWhole, CallFits, SoundlyFramed, ExactlyReceive}
use Rattle.demands.proofs.Exactly.Reasons.{decide}
use Rattle.demands.proofs.Exactly.Reading.{made_of, read-type, read_head, read-fragment, read_sound, used-is, by-record}
use Rattle.std.specs.Prelude.{Err, Ok}

module _ (d : List ℕ) where
  -- ---- one step of the walk

  abbrev walk : ℕ → ℕ → Framing
  walk room at = framing_from room at (drop at d)

  step_end : (room at : ℕ) → at ≡ length d → walk room at ≡ framed []
  unfolding framing_from
  step_end zero at e = rw (eq-eqb (length (drop at d)) 0 (omega (arith, length-drop at d))) refl
  step_end (suc room) at e = rw (eq-eqb (length (drop at d)) 0 (omega (arith, length-drop at d))) refl

  step-ninth : (at : ℕ) → at < length d → walk zero at ≡ faulty F.Ninth at
  unfolding framing_from
  step-ninth at h = rw (ne_eqb (length (drop at d)) 0 (λ e. omega (arith, length-drop at d))) refl

  step-fault : (room at : ℕ) (f : Fault) → at < length d → read_of (drop at d) ≡ Err f
      → walk (suc room) at ≡ faulty f at
  unfolding framing_from
  step-fault room at f h e = rw (ne_eqb (length (drop at d)) 0 (λ z. omega (arith, length-drop at d)), e) refl

  step_sound : (room at : ℕ) → SoundAt d at
      → walk (suc room) at ≡ after (placed_at (made_of (drop at d)) at ∷ []) (walk room (at + head_at d at + size_at d at))
  unfolding framing_from
  step_sound room at s =
      let r : Record = made_of (drop at d) in
      let next : at + r.used ≡ at + head_at d at + size_at d at = omega (arith, used-is d at s.begins) in
      let rest : framing_from room (at + r.used) (drop r.used (drop at d)) ≡ walk room
      (at + head_at d at + size_at d at)
      = ap (framing_from room (at + r.used)) (drop-drop r.used at d) ∙ ap (walk room) next in
      rw (
        ne_eqb (length (drop at d)) 0 (λ z. omega (arith, length-drop at d, s.begins)),
        read_sound d at s.begins
            s.right s.head s.some s.inside,
      )
      (ap (after (placed_at r at ∷ [])) rest)

  -- ---- what the walk finds has its reason

  abbrev FramingHolds : ℕ → Framing → Type 0
  FramingHolds n (framed rs) = (m : ℕ) × (m ≡ n + length rs) × SoundBefore d m × (start_of d m ≡ length d) × (m ≤ 8)
  FramingHolds n (faulty f at) = WhyFaulty d f at

  after_holds : (n : ℕ) (r : Record) (y : Framing) → FramingHolds (suc n) y → FramingHolds n (after (r ∷ []) y)
  after_holds n r (framed more) (m, e, s, z, l) = (m, omega arith, s, z, l)
  after_holds n r (faulty f at) w = w

  module _ (fits : SizeFits d) where
    reached : (n at : ℕ) → SoundBefore d n → at ≡ start_of d n → at < length d → Reached d n at
    reached n at s e h = record { fits = fits; sound = s; here = e; begins = h }

    walk-holds : (room n : ℕ) → n + room ≡ 8 → SoundBefore d n → start_of d n ≤ length d
        → FramingHolds n (walk room (start_of d n))
    unfolding start_of SoundBefore
    walk-holds zero n e s l =
        let at : ℕ = start_of d n in
        let eight : n ≡ 8 = omega arith in
        decide (eqb at (length d))
        (λ z. subst (FramingHolds n) (sym (step_end zero at (eqb-true at (length d) z)))
        (n, omega arith, s, eqb-true at (length d) z, omega arith))
        (λ z.
        let h : at < length d = omega (arith, eqb-false at (length d) z) in
        subst (FramingHolds n) (sym (step-ninth at h)) (subst (λ k. Reached d k at) eight (reached n at s refl h)))
    walk-holds (suc room) n e s l =
        let at : ℕ = start_of d n in
        let few : n < 8 = omega arith in
        decide (eqb at (length d))
        (λ z. subst (FramingHolds n) (sym (step_end (suc room) at (eqb-true at (length d) z)))
        (n, omega arith, s, eqb-true at (length d) z, omega arith))
        (λ z.
        let h : at < length d = omega (arith, eqb-false at (length d) z) in
        let here : Reached d n at = reached n at s refl h in
        by-record d at h
        (λ w. subst (FramingHolds n) (sym (step-fault room at F.Kind h (read-type d at h w))) (n, few, here, w))
        (λ r p. subst (FramingHolds n) (sym (step-fault room at F.Header h (read_head d at h r p)))
        (n, few, here, r, p))
        (λ r i w. subst (FramingHolds n) (sym (step-fault room at F.Fragment h (read-fragment d at h r i w)))
        (n, few, here, r, i, w))
        (λ q. subst (FramingHolds n) (sym (step_sound room at q))
        (after_holds n (placed_at (made_of (drop at d)) at) (walk room (at + head_at d at + size_at d at))
        (walk-holds room (suc n) (omega arith) (s, q) q.inside))))

    -- ---- and what the bytes say, the walk finds

    whole-walk : framing_of d ≡ framing_from 8 0 d
    unfolding framing_of
    whole-walk = rw (ne_eqb (length d) 0 (λ e. omega (arith, fits.0)), le-ltb 1400 (length d) fits.1) refl

    framing-holds : FramingHolds 0 (framing_of d)
    unfolding start_of SoundBefore
    framing-holds = subst (FramingHolds 0) (sym whole-walk) (walk-holds 8 0 refl tt (omega arith))

  -- a fault behind n sound records is the fault of the whole
  through_fault : (n room : ℕ) (f : Fault) (p : ℕ) → n + room ≡ 8 → SoundBefore d n
      → walk room (start_of d n) ≡ faulty f p
      → framing_from 8 0 d ≡ faulty f p
  unfolding start_of SoundBefore
  through_fault zero room f p e s w = let eight : room ≡ 8 = omega arith in subst
      (λ k. framing_from k 0 d ≡ faulty f p) eight w
  through_fault (suc n) room f p e (s, q) w =
      through_fault n (suc room) f p (omega arith) s
      (step_sound room (start_of d n) q ∙ ap (after (placed_at (made_of (drop (start_of d n) d)) (start_of d n) ∷ [])) w)

  -- and so are the records behind n others
  through-framed : (n room : ℕ) (more : List Record) → n + room ≡ 8 → SoundBefore d n
      → walk room (start_of d n) ≡ framed more
      → (rs : List Record) × (framing_from 8 0 d ≡ framed rs) × (length rs ≡ n + length more)
  unfolding start_of SoundBefore
  through-framed zero room more e s w =
      let eight : room ≡ 8 = omega arith in (more, subst (λ k. framing_from k 0 d ≡ framed more) eight w, omega arith)
  through-framed (suc n) room more e (s, q) w =
      let r : Record = placed_at (made_of (drop (start_of d n) d)) (start_of d n) in
      let (rs, f, l) = through-framed n (suc room) (r ∷ more) (omega arith) s
      (step_sound room (start_of d n) q ∙ ap (after (r ∷ [])) w) in
      (rs, f, omega arith)

  size-fault : (length d ≡ 0) ⊎ (1400 < length d) → framing_of d ≡ faulty F.Size 0
  unfolding framing_of
  size-fault (inl e) = rw (eq-eqb (length d) 0 e) refl
  size-fault (inr l) = rw (ne_eqb (length d) 0 (λ e. omega arith), lt-ltb 1400 (length d) l) refl

  -- the fault of the record where the walk stands
  here-fault : (n at : ℕ) (f : Fault) → n < 8 → (h : Reached d n at) → read_of (drop at d) ≡ Err f
      → framing_of d ≡ faulty f at
  here-fault n at f few h e =
      let room : ℕ = 8 - suc n in
      whole-walk h.fits
      ∙ through_fault n (suc room) f at (omega arith) h.sound
      (ap (walk (suc room)) (sym h.here) ∙ step-fault room at f h.begins e)

  pub faulty-because : (f : Fault) (at : ℕ) → WhyFaulty d f at → framing_of d ≡ faulty f at
  faulty-because F.Size at (e, w) = size-fault w ∙ ap (faulty F.Size) (sym e)
  faulty-because F.Ninth at h =
      whole-walk h.fits
      ∙ through_fault 8 0 F.Ninth at refl h.sound (ap (walk 0) (sym h.here) ∙ step-ninth at h.begins)
  faulty-because F.Kind at (n, few, h, w) = here-fault n at F.Kind few h (read-type d at h.begins w)
  faulty-because F.Header at (n, few, h, r, p) = here-fault n at F.Header few h (read_head d at h.begins r p)
  faulty-because F.Fragment at (n, few, h, r, l, w) = here-fault n at F.Fragment few h
      (read-fragment d at h.begins r l w)

  pub framed-because : (n : ℕ) → SoundlyFramed d n → (rs : List Record) × (framing_of d ≡ framed rs) × (length rs ≡ n)
  framed-because n h =
      let few : n ≤ 8 = h.few in
      let (rs, f, l) = through-framed n (8 - n) [] (omega arith) h.sound
      (step_end (8 - n) (start_of d n) h.whole) in
      (rs, whole-walk h.fits ∙ f, omega arith)

  -- what the framing of a datagram says, its bytes say
  abbrev pub Says : Framing → Type 0
  Says (framed rs) = SoundlyFramed d (length rs)
  Says (faulty f at) = WhyFaulty d f at

  some-records : (m : ℕ) → start_of d m ≡ length d → 1 ≤ length d → 1 ≤ m
  unfolding start_of
  some-records zero e h = absurd (omega arith)
  some-records (suc m) e h = omega arith

  says_of : SizeFits d → (y : Framing) → FramingHolds 0 y → Says y
  says_of fits (framed rs) (m, e, s, z, l) =
      let all : m ≡ length rs = omega arith in
      subst (SoundlyFramed d) all (record {
        fits = fits;
        some = some-records m z fits.0;
        few = l;
        sound = s;
        whole = z;
      })
  says_of fits (faulty f at) w = w

  pub framing-says : Says (framing_of d)
  framing-says =
      decide (eqb (length d) 0) (λ e. let w = inl (eqb-true (length d) 0 e) in subst Says (sym (size-fault w))
      (refl, w))
      (λ e. decide (ltb 1400 (length d)) (λ l. let w = inr (ltb-true 1400 (length d) l) in subst Says
      (sym (size-fault w)) (refl, w))
      (λ l.
      let fits : SizeFits d = (omega (arith, eqb-false (length d) 0 e), ltb-false 1400 (length d) l) in
      says_of fits (framing_of d) (framing-holds fits)))

-- ---- the call

-- what comes back of a receive has its reason
abbrev ResultHolds : List ℕ → ℕ → ℕ → Returned → Type 0
ResultHolds d random room (received (Err (T.Refused x)) answers written) = WhyWhole random room x
ResultHolds d random room (received (Err (T.Misframed x at)) answers written) = CallFits random room × WhyMisframed d x at
ResultHolds d random room (received (Ok n) answers written) = CallFits random room × SoundlyFramed d n
ResultHolds d random room (sent outcome written) = Unit
ResultHolds d random room (called outcome) = Unit

module _ (c : Connection) (d random out : List ℕ) where
  abbrev result : Returned
  result = (step_of c (receive d random out)).result

  abbrev H : Returned → Type 0
  H = ResultHolds d (length random) (length out)

  is-argument : length random ≢ 16 → result ≡ received (Err (T.Refused X.Argument)) (slots_of []) 0
  unfolding step_of received_of whole_of
  is-argument r = rw (ne_eqb (length random) 16 r) refl

  is-room : length random ≡ 16 → length out < 128 → result ≡ received (Err (T.Refused X.Room)) (slots_of []) 0
  unfolding step_of received_of whole_of
  is-room r o = rw (eq-eqb (length random) 16 r, lt-ltb (length out) 128 o) refl

  -- past 16 and 6, by the framing
  abbrev result_by : Framing → Returned
  result_by y = received (framed_to c random d y).taken (framed_to c random d y).answers (framed_to c random d y).written

  is_framed : CallFits (length random) (length out) → result ≡ result_by (framing_of d)
  unfolding step_of received_of
  is_framed (r, o) = rw (eq-eqb (length random) 16 r, le-ltb (length out) 128 o) refl

  by-holds : CallFits (length random) (length out) → (y : Framing) → Says d y → H (result_by y)
  unfolding run_of whole_of
  by-holds fits (framed rs) s = (fits, s)
  by-holds fits (faulty f at) w = (fits, w)

  result-holds : H result
  result-holds =
      decide (eqb (length random) 16)
      (λ r. decide (ltb (length out) 128)
      (λ o. let a = eqb-true (length random) 16 r in let b = ltb-true (length out) 128 o in subst H (sym (is-room a b))
      (a, b))
      (λ o.
      let fits : CallFits (length random) (length out)
      = (eqb-true (length random) 16 r, ltb-false (length out) 128 o) in
      subst H (sym (is_framed fits)) (by-holds fits (framing_of d) (framing-says d))))
      (λ r. let a = eqb-false (length random) 16 r in subst H (sym (is-argument a)) a)

  whole-because : (x : Refusal) → WhyWhole (length random) (length out) x
      → result ≡ received (Err (T.Refused x)) (slots_of []) 0
  whole-because X.Argument w = is-argument w
  whole-because X.Room (r, o) = is-room r o
  whole-because (X.Framing fault) w = absurd w
  whole-because X.Ended w = absurd w
  whole-because X.NotAllowed w = absurd w
  whole-because X.Forged w = absurd w
  whole-because X.TooOld w = absurd w
  whole-because X.Repeated w = absurd w
  whole-because X.Malformed w = absurd w
  whole-because X.Unacceptable w = absurd w
  whole-because X.Checksum w = absurd w
  whole-because X.Spent w = absurd w
  whole-because X.WrongFinished w = absurd w

  by-fault : (f : Fault) (at : ℕ) → result_by (faulty f at) ≡ received (Err (T.Misframed (X.Framing f) at)) (slots_of []) 0
  unfolding whole_of
  by-fault f at = refl

  misframed-because : (x : Refusal) (at : ℕ) → CallFits (length random) (length out) → WhyMisframed d x at
      → result ≡ received (Err (T.Misframed x at)) (slots_of []) 0
  misframed-because (X.Framing f) at fits w = is_framed fits ∙ ap result_by (faulty-because d f at w) ∙ by-fault f at
  misframed-because X.Room at fits w = absurd w
  misframed-because X.Ended at fits w = absurd w
  misframed-because X.NotAllowed at fits w = absurd w
  misframed-because X.Forged at fits w = absurd w
  misframed-because X.TooOld at fits w = absurd w
  misframed-because X.Repeated at fits w = absurd w
  misframed-because X.Malformed at fits w = absurd w
  misframed-because X.Unacceptable at fits w = absurd w
  misframed-because X.Checksum at fits w = absurd w
  misframed-because X.Spent at fits w = absurd w
  misframed-because X.Argument at fits w = absurd w
  misframed-because X.WrongFinished at fits w = absurd w

  by-records : (rs : List Record) → (framed_to c random d (framed rs)).taken ≡ Ok (length rs)
  unfolding run_of
  by-records rs = refl

  taken-because : (n : ℕ) → CallFits (length random) (length out) → SoundlyFramed d n
      → (answers : List Slot) × (written : ℕ) × (result ≡ received (Ok n) answers written)
  taken-because n fits s =
      let (rs, f, l) = framed-because d n s in
      let r : Received = framed_to c random d (framed rs) in (
        r.answers,
        r.written,
        is_framed fits ∙ ap result_by f
            ∙ ap (λ t. received t r.answers r.written) (by-records rs ∙ ap Ok l),
      )

pub exactly-receive : ExactlyReceive step_of
exactly-receive =
    record {
      refused = λ c d random out x. (
        λ e. subst (ResultHolds d (length random) (length out)) e (result-holds c d random out),
        whole-because c d random out x,
      );
      misframed = λ c d random out x at. (
        λ e. subst (ResultHolds d (length random) (length out)) e (result-holds c d random out),
        λ w. misframed-because c d random out x at w.0 w.1,
      );
      taken = λ c d random out n. (
        λ w. subst (ResultHolds d (length random) (length out)) w.2 (result-holds c d random out),
        λ w. taken-because c d random out n w.0 w.1,
      );
    }
