-- After the handshake of P7 both ends are just open: the shore in a run from fresh, the unit with a window that holds the number 0; the
-- hello and the flight, and the reply, have no genuine record but the Finished, number 0.
use mathlib.Core.Path.{◌≡◌, refl, sym, ◌∙◌, ap, subst}
use mathlib.Core.Logic.{◌⊎◌, inl, inr}
use mathlib.Core.Bool.{true, false}
use mathlib.Core.List.{List, [], ◌∷◌, ◌++◌}
use Prim.Native.Nat.{ℕ, ◌<◌}
use native.Mathlib.Omega.{arith}
use lib.ListN.{length, length-append}
use lib.Dec.{lit≤}
use Rattle.record.specs.Datagram.{framing_of}
use Rattle.record.specs.History.{accepted, highest_of, window_of, judged_of}
use Rattle.record.specs.Window.{Held, accept_of}
use Rattle.record.specs.declared.header.Content.TheVariants as C
use Rattle.record.specs.declared.keys.Keys.{Keys}
use Rattle.record.specs.declared.keys.Sense.{Sense}
use Rattle.record.specs.declared.keys.Sense.TheVariants.{FromUnit, FromShore}
use Rattle.record.specs.declared.reader.Record.{Record}
use Rattle.record.specs.declared.window.Window.{Window}
use Rattle.record.specs.declared.window.NotNew.TheVariants as A
use Rattle.record.proofs.Histories.{accepted_le, accepted_here, meaning, repeated_when, repeated_means}
use Rattle.digest.specs.Hmac.{hmac}
use Rattle.digest.specs.Mac.{size_of, server_expansion}
use Rattle.record.specs.Code.{protected_by}
use Rattle.record.specs.Keys.{mac_secret}
use Rattle.record.specs.Protection.{record_under}
use Rattle.message.specs.Finished.{server_verify}
use Rattle.message.specs.declared.acceptance.Plan.{Plan}
use Rattle.message.proofs.FinishedLaws.{finished_size as fifteen}
use Rattle.message.proofs.Replies.{length_server}
use Rattle.connection.specs.Calls.{session_of}
use Rattle.connection.specs.Reply.{client_random, our_hello, our_finished, hello_record, change_record, finished_record, flight_of, reply_to}
use Rattle.connection.specs.declared.handshake.Session.{Session}
use Rattle.unit.specs.Agree.{flight_bytes}
use Rattle.connection.specs.declared.connection.Connection.{Connection}
use Rattle.connection.specs.declared.receive.Received.{Received}
use Rattle.connection.specs.declared.state.State.TheVariants as S
use Rattle.demands.specs.Acts.{Act, acts_of, behind}
use Rattle.demands.specs.Example.{example_out}
use Rattle.demands.specs.Genuine.{keys_of}
use Rattle.demands.specs.HandedOut.{past_of}
use Rattle.demands.specs.LeftOut.{Unreplaced}
use Rattle.demands.specs.Past.{keys_in, expected_in, accepted_in}
use Rattle.demands.specs.Course.{course_of}
use Rattle.demands.specs.Runs.{Call, receive, final_of, step_of, fresh_one}
use Rattle.demands.specs.Ship.Course.{HoldsNumbers}
use Rattle.demands.proofs.Genuine.{true_false}
use Rattle.demands.proofs.HandedOut.{Along, along_run}
use Rattle.demands.proofs.Places.{run_behind, run_sound}
use Rattle.ends.specs.Sides.{Ends, ends_of}
use Rattle.ends.specs.InOrder.{Setting, ListedSetting}
use Rattle.ends.specs.Link.{GenuineFor, OtherFor, In}
use Rattle.ends.specs.BothEnds.{Quiet, Begun, JustOpen, HandshakesAreOthers}
use Rattle.ends.proofs.Courses.{same_records}
use Rattle.ends.proofs.Flight.{finished_at, change_first, flown, flown_framed, replied, hello_first, change_next, replied_framed}
use Rattle.ends.proofs.Greeting.{server_size}
use Rattle.ends.proofs.InOrder as P
use Rattle.ends.proofs.Reports.{Together}
use Rattle.std.specs.Prelude.{Err}

-- ---- windows that are equal say the same of a number

module _ (width : ℕ) (held : Held width) (numbers : List ℕ) (same : window_of width numbers ≡ window_of width (0 ∷ [])) where
  highest_0 : highest_of (0 ∷ []) ≡ 0
  unfolding highest_of
  highest_0 = omega arith

  pub only_0 : (n : ℕ) → accepted numbers n ≡ true → n < 1
  only_0 n a = let l = accepted_le numbers n a in let e : highest_of numbers ≡ highest_of (0 ∷ []) = ap (λ (w : Window). w.highest) same in omega (arith, highest_0)

  pub has_0 : accepted numbers 0 ≡ true
  has_0 =
      let repeated : judged_of width (0 ∷ []) 0 ≡ (Err A.Repeated) = repeated_when width (0 ∷ []) 0 (omega (arith, highest_0, held.0)) (accepted_here 0 []) in
      let e : judged_of width numbers 0 ≡ Err A.Repeated
      = sym (meaning width held numbers 0) ∙ ap (λ (w : Window). accept_of w 0) same ∙ meaning width held (0 ∷ []) 0 ∙ repeated in
      (repeated_means width numbers 0 e).1

-- ---- the records of the handshake

-- a record of a list is one of its members
one_of_one : (before : List Record) (r : Record) (behind : List Record) (x : Record) → before ++ (r ∷ behind) ≡ x ∷ [] → r ≡ x
one_of_one [] r behind x e = cc
one_of_one (y ∷ before) r behind x e =
    let z : length (before ++ (r ∷ behind)) ≡ 0 = let rest : before ++ (r ∷ behind) ≡ [] = cc in ap length rest in
    absurd (omega (arith, length-append before (r ∷ behind)))

one_of_two : (before : List Record) (r : Record) (behind : List Record) (x y : Record) → before ++ (r ∷ behind) ≡ x ∷ y ∷ [] → (r ≡ x) ⊎ (r ≡ y)
one_of_two [] r behind x y e = inl cc
one_of_two (w ∷ before) r behind x y e = inr (one_of_one before r behind y (let rest : before ++ (r ∷ behind) ≡ y ∷ [] = cc in rest))

one_of_three : (before : List Record) (r : Record) (behind : List Record) (x y v : Record) → before ++ (r ∷ behind) ≡ x ∷ y ∷ v ∷ [] → (r ≡ x) ⊎ (r ≡ y) ⊎ (r ≡ v)
one_of_three [] r behind x y v e = inl cc
one_of_three (w ∷ before) r behind x y v e = inr (one_of_two before r behind y v (let rest : before ++ (r ∷ behind) ≡ y ∷ v ∷ [] = cc in rest))

-- a clear record is not genuine
clear_not : {P : Type 0} (k : Keys) (sense : Sense) (d : List ℕ) (r x : Record) (c : List ℕ) → GenuineFor k sense d r c → r ≡ x → x.protected ≡ false → P
clear_not k sense d r x c g e f = true_false r.protected g.is_protected (ap (λ (y : Record). y.protected) e ∙ f)

-- a Finished of number 0 is quiet
finished_quiet : (r x : Record) (c : List ℕ) → r ≡ x → x.content ≡ C.Handshake → x.number ≡ 0 → Quiet 1 r c
finished_quiet r x c e f n =
    let handshake : r.content ≡ C.Handshake = ap (λ (y : Record). y.content) e ∙ f in
    let zero_is : r.number ≡ 0 = ap (λ (y : Record). y.number) e ∙ n in
    record {
      no_data = λ z. let y : C.Handshake ≡ C.Data = sym handshake ∙ z in let w : ◌≡◌ {A = ℕ} 0 1 = cc in omega arith;
      no_closing = λ z. let y : C.Handshake ≡ C.Alert = sym handshake ∙ z in let w : ◌≡◌ {A = ℕ} 0 1 = cc in absurd (omega arith);
      finished = λ z. zero_is;
      numbered = omega arith;
    }

-- ---- every reply and every flight, whatever keys it was made with, is one of the others

module _ (used made : Keys) (body : List ℕ) (l : length body ≡ 15) where
  finished_other : (r x : Record) → r ≡ x → x.content ≡ C.Handshake → x.number ≡ 0 → (r.content ≡ C.Handshake) × (r.number ≡ 0)
  finished_other r x e f n = (ap (λ (y : Record). y.content) e ∙ f, ap (λ (y : Record). y.number) e ∙ n)

  pub flight_other : OtherFor used FromUnit (flown made FromUnit body l)
  flight_other r c g =
      by (one_of_two g.in_place.before r g.in_place.behind (change_first made FromUnit body l) (finished_at made FromUnit body l 6)
      (same_records _ _ (framing_of (flown made FromUnit body l)) g.in_place.framing (flown_framed made FromUnit body l)))
    where
      by : (r ≡ change_first made FromUnit body l) ⊎ (r ≡ finished_at made FromUnit body l 6) → (r.content ≡ C.Handshake) × (r.number ≡ 0)
      by (inl z) = clear_not used FromUnit (flown made FromUnit body l) r (change_first made FromUnit body l) c g z refl
      by (inr z) = finished_other r (finished_at made FromUnit body l 6) z refl refl

  pub reply_other : (m : List ℕ) (lm : length m ≡ 35) → OtherFor used FromShore (replied made FromShore body l m lm)
  reply_other m lm r c g =
      by (one_of_three g.in_place.before r g.in_place.behind (hello_first made FromShore body l m lm) (change_next made FromShore body l m lm) (finished_at made FromShore body l 46)
      (same_records _ _ (framing_of (replied made FromShore body l m lm)) g.in_place.framing (replied_framed made FromShore body l m lm)))
    where
      by : (r ≡ hello_first made FromShore body l m lm) ⊎ (r ≡ change_next made FromShore body l m lm) ⊎ (r ≡ finished_at made FromShore body l 46)
          → (r.content ≡ C.Handshake) × (r.number ≡ 0)
      by (inl z) = clear_not used FromShore (replied made FromShore body l m lm) r (hello_first made FromShore body l m lm) c g z refl
      by (inr (inl z)) = clear_not used FromShore (replied made FromShore body l m lm) r (change_next made FromShore body l m lm) c g z refl
      by (inr (inr z)) = finished_other r (finished_at made FromShore body l 46) z refl refl

-- the keys that a reply was made with
abbrev keys_for : Session → List ℕ → List ℕ → Plan → Keys
keys_for session random m plan =
    record { secret = session.secret; server = random; client = client_random m; mac = plan.mac; refresh = plan.refresh }

module _ (session : Session) (random m : List ℕ) (plan : Plan) (lr : length random ≡ 16) (li : length session.id ≡ 8) where
  hello_35 : length (our_hello session random plan) ≡ 35
  unfolding our_hello
  hello_35 = length_server random session.id plan ∙ omega (arith, lr, li)

  finished_15 : length (our_finished session random m plan) ≡ 15
  unfolding our_finished
  finished_15 =
      fifteen (server_verify session.secret m (our_hello session random plan)) (server_size session.secret m (our_hello session random plan))

  reply_made : reply_to session random m plan
      ≡ replied (keys_for session random m plan) FromShore (our_finished session random m plan) finished_15 (our_hello session random plan) hello_35
  unfolding reply_to flight_of finished_record record_under
  reply_made =
      λ i. hello_record (our_hello session random plan) ++ (change_record
      ++ protected_by (hmac (mac_secret session.secret server_expansion (sym (P.key_zero plan.refresh) i) random (client_random m))) (size_of plan.mac) false C.Handshake 0
      (our_finished session random m plan))

pub handshakes_are_others : HandshakesAreOthers
unfolding flight_bytes
handshakes_are_others =
    record {
      replies = λ k session random m plan lr li.
          subst (OtherFor k FromShore) (sym (reply_made session random m plan lr li))
          (reply_other k (keys_for session random m plan) (our_finished session random m plan) (finished_15 session random m plan lr li) (our_hello session random plan)
          (hello_35 session random m plan lr li));
      flights = λ k made ours l. flight_other k made ours l;
    }

module _ (s : Setting) (ls : ListedSetting s) where
  abbrev kk : Keys
  kk = P.k s ls

  abbrev pub e : Ends
  e = ends_of (P.u₂ s ls) (P.c₂ s ls)

  abbrev pub by_unit : List (List ℕ)
  by_unit = P.flight s ls ∷ P.hello s ls ∷ []

  abbrev pub by_shore : List (List ℕ)
  by_shore = P.reply s ls ∷ []

  -- ---- what was written

  flight_quiet : (r : Record) (c : List ℕ) → GenuineFor kk FromUnit (P.flight s ls) r c → Quiet 1 r c
  flight_quiet r c g =
      by (one_of_two g.in_place.before r g.in_place.behind (change_first kk FromUnit (P.ours s ls) (P.ours_size s ls)) (finished_at kk FromUnit (P.ours s ls) (P.ours_size s ls) 6)
      (same_records _ _ (framing_of (P.flight s ls)) g.in_place.framing (flown_framed kk FromUnit (P.ours s ls) (P.ours_size s ls))))
    where
      by : (r ≡ change_first kk FromUnit (P.ours s ls) (P.ours_size s ls)) ⊎ (r ≡ finished_at kk FromUnit (P.ours s ls) (P.ours_size s ls) 6) → Quiet 1 r c
      by (inl z) = clear_not kk FromUnit (P.flight s ls) r (change_first kk FromUnit (P.ours s ls) (P.ours_size s ls)) c g z refl
      by (inr z) = finished_quiet r (finished_at kk FromUnit (P.ours s ls) (P.ours_size s ls) 6) c z refl refl

  hello_quiet : (r : Record) (c : List ℕ) → GenuineFor kk FromUnit (P.hello s ls) r c → Quiet 1 r c
  hello_quiet r c g =
      clear_not kk FromUnit (P.hello s ls) r (P.r₁ s ls) c g
      (one_of_one g.in_place.before r g.in_place.behind (P.r₁ s ls) (same_records _ _ (framing_of (P.hello s ls)) g.in_place.framing (P.hello_framed s ls)))
      (P.hello_clear s ls)

  abbrev th : List ℕ
  th = P.theirs s ls

  abbrev lt : length th ≡ 15
  lt = P.theirs_size s ls

  abbrev lh : length (P.sh s ls) ≡ 35
  lh = P.sh_size s ls

  reply_quiet : (r : Record) (c : List ℕ) → GenuineFor kk FromShore (P.reply s ls) r c → Quiet 1 r c
  reply_quiet r c g =
      by (one_of_three g.in_place.before r g.in_place.behind (hello_first kk FromShore th lt (P.sh s ls) lh) (change_next kk FromShore th lt (P.sh s ls) lh) (finished_at kk FromShore th lt 46)
      (same_records _ _ (framing_of (P.reply s ls)) g.in_place.framing (ap framing_of (P.reply_is s ls) ∙ replied_framed kk FromShore th lt (P.sh s ls) lh)))
    where
      by : (r ≡ hello_first kk FromShore th lt (P.sh s ls) lh) ⊎ (r ≡ change_next kk FromShore th lt (P.sh s ls) lh) ⊎ (r ≡ finished_at kk FromShore th lt 46) → Quiet 1 r c
      by (inl z) = clear_not kk FromShore (P.reply s ls) r (hello_first kk FromShore th lt (P.sh s ls) lh) c g z refl
      by (inr (inl z)) = clear_not kk FromShore (P.reply s ls) r (change_next kk FromShore th lt (P.sh s ls) lh) c g z refl
      by (inr (inr z)) = finished_quiet r (finished_at kk FromShore th lt 46) c z refl refl

  unit_quiet : (d : List ℕ) → In d by_unit → (r : Record) (c : List ℕ) → GenuineFor kk FromUnit d r c → Quiet 1 r c
  unit_quiet d (inl i) r c g = flight_quiet r c (subst (λ x. GenuineFor kk FromUnit x r c) i g)
  unit_quiet d (inr (inl i)) r c g = hello_quiet r c (subst (λ x. GenuineFor kk FromUnit x r c) i g)
  unit_quiet d (inr (inr i)) r c g = absurd i

  shore_quiet : (d : List ℕ) → In d by_shore → (r : Record) (c : List ℕ) → GenuineFor kk FromShore d r c → Quiet 1 r c
  shore_quiet d (inl i) r c g = reply_quiet r c (subst (λ x. GenuineFor kk FromShore x r c) i g)
  shore_quiet d (inr i) r c g = absurd i

  -- ---- the shore's run from fresh

  calls : List Call
  calls = receive (P.hello s ls) s.server example_out ∷ receive (P.flight s ls) s.server example_out ∷ []

  final_is : final_of step_of (fresh_one s.id s.secret s.shore_width) calls ≡ P.c₂ s ls
  unfolding calls final_of step_of
  final_is =
      ap (λ (x : Received). (step_of x.connection (receive (P.flight s ls) s.server example_out)).connection) (P.replies s ls example_out (lit≤ tt))
      ∙ ap (λ (x : Received). x.connection) (P.opens_ashore s ls s.server example_out ls.server_size (lit≤ tt))

  abbrev run : List Act
  run = acts_of calls

  shore_is : P.c₂ s ls ≡ behind (fresh_one s.id s.secret s.shore_width) run
  shore_is = sym final_is ∙ run_behind (fresh_one s.id s.secret s.shore_width) calls

  tog : Together s.unit_width s.shore_width e
  tog = P.together s ls

  is_open : (behind (fresh_one s.id s.secret s.shore_width) run).handshake.state ≡ S.Open
  is_open = ap (λ (c : Connection). c.handshake.state) (sym shore_is) ∙ tog.is_open

  abbrev numbers : List ℕ
  numbers = accepted_in (past_of s.id s.secret s.shore_width run)

  along : Along (keys_in (session_of s.id s.secret) (past_of s.id s.secret s.shore_width run))
      (expected_in (session_of s.id s.secret) (past_of s.id s.secret s.shore_width run)) (record { width = s.shore_width; numbers = numbers; shut = false })
      (behind (fresh_one s.id s.secret s.shore_width) run).handshake
  unfolding course_of behind Unreplaced
  along = along_run s.id s.secret s.shore_width ls.shore_held run (run_sound calls) is_open [] tt tt

  same_window : window_of s.shore_width numbers ≡ window_of s.shore_width (0 ∷ [])
  same_window =
      sym (along.window_same refl) ∙ ap (λ (c : Connection). c.handshake.protection.window) (sym shore_is) ∙ P.shore_window s ls

  keys_are : keys_in (session_of s.id s.secret) (past_of s.id s.secret s.shore_width run) ≡ kk
  keys_are = sym (along.keys_same refl) ∙ ap (λ (c : Connection). keys_of c.handshake) (sym shore_is) ∙ sym tog.same_keys ∙ P.unit_keys s ls

  holds : HoldsNumbers (P.u₂ s ls) (0 ∷ [])
  holds =
      let width_is : (P.u₂ s ls).protection.window.width ≡ s.unit_width = ap (λ (w : Window). w.width) (P.unit_window s ls) in
      record {
        held = subst Held (sym width_is) ls.unit_held;
        means = P.unit_window s ls ∙ ap (λ w. window_of w (0 ∷ [])) (sym width_is);
      }

  first_below : (n : ℕ) → accepted (0 ∷ []) n ≡ true → n < 1
  first_below n a = only_0 s.unit_width ls.unit_held (0 ∷ []) refl n a

  pub just_open : JustOpen kk e by_unit by_shore
  just_open =
      record {
        id = s.id;
        secret = s.secret;
        width = s.shore_width;
        held = ls.shore_held;
        acts = run;
        sound = run_sound calls;
        shore_is = shore_is;
        is_open = is_open;
        keys_ashore = keys_are;
        is_up = tog.talks;
        numbers = 0 ∷ [];
        holds = holds;
        keys_aboard = P.unit_keys s ls;
        from_unit = subst (λ n. Begun kk FromUnit by_unit n numbers) (sym (P.next_aboard s ls))
            (record { quiet = unit_quiet; opened = has_0 s.shore_width ls.shore_held numbers same_window; below = only_0 s.shore_width ls.shore_held numbers same_window });
        from_shore = subst (λ n. Begun kk FromShore by_shore n (0 ∷ [])) (sym (P.next_ashore s ls))
            (record { quiet = shore_quiet; opened = accepted_here 0 []; below = first_below });
      }
