-- What we send, by the row of the send, the round trip of layer 2, and what the connection keeps.
use mathlib.Core.Path.{◌≡◌, refl, sym, ap, ap₂, subst}
use mathlib.Core.Bool.{Bool, true, false}
use mathlib.Core.List.{List, []}
use Prim.Native.Nat.{ℕ, ◌+◌, ◌≤◌}
use native.Mathlib.Omega.{arith}
use lib.ListN.{length, take}
use Rattle.digest.specs.Hmac.{hmac}
use Rattle.digest.specs.Mac.{size_of}
use Rattle.record.specs.Written.{record_of}
use Rattle.record.specs.Code.{protected_by}
use Rattle.record.specs.declared.header.Content.{Content}
use Rattle.record.specs.declared.header.Content.TheVariants as C
use Rattle.record.proofs.Fronts.{record_length}
use Rattle.record.proofs.RoundTrip.{read_back}
use Rattle.message.specs.Alert.{level_of, sorted_of}
use Rattle.message.specs.declared.alert.Level.{Level}
use Rattle.message.specs.declared.alert.Description.{Description}
use Rattle.connection.specs.Calls.{session_of}
use Rattle.record.specs.Protection.{record_under}
use Rattle.connection.specs.Send.{next_protected, next_clear, next_alert, alert_body, sender_of, clear_sender}
use Rattle.connection.specs.declared.state.State.{State}
use Rattle.connection.specs.declared.state.State.TheVariants as S
use Rattle.connection.specs.declared.refusal.Refusal.TheVariants as X
use Rattle.connection.specs.declared.handshake.Handshake.{Handshake}
use Rattle.connection.specs.declared.handshake.Session.{Session}
use Rattle.demands.specs.Runs.{send_data, send_alert, Step, step_of}
use Rattle.record.specs.declared.keys.Keys.{Keys}
use Rattle.demands.specs.Genuine.{keys_of}
use Rattle.demands.specs.Table.{Hears}
use Rattle.demands.specs.Calls.{may_alert, number_for, CallRow, data_16, data_7, data_8, data_15, data_6, data_sent_lem, alert_16, alert_7, alert_8, alert_15, alert_6, alert_sent_lem}
use Rattle.demands.specs.Refusals.{written_by}
use Rattle.demands.specs.Events.{Event, AllSound, Happened, after, history}
use Rattle.demands.specs.Acts.{behind}
use Rattle.demands.specs.Lives.{Lives, no_lives, lives_of, Lived, clear_sender_life, sender_life}
use Rattle.demands.proofs.States.{ended}
use Rattle.demands.proofs.Lives.{alive, lives_hold_at, lives_sound_at}
use Rattle.demands.specs.Past.{keys_in, protected_next, next_clear_number}
use Rattle.demands.specs.Runs.{fresh_with, fresh_one}
use Rattle.demands.specs.Sends.{our_key, ProtectedRecord, ClearRecord, AlertRecord, DataSentRight, AlertSentRight}
use Rattle.demands.proofs.Genuine.{true_false}
use Rattle.demands.proofs.Calls.{call_of}
use Rattle.demands.proofs.Refusals.{outcome_in, laid_front, refused_done}
use Rattle.demands.proofs.Kept.{live}
use Rattle.demands.proofs.Finished.{Progress, progress_all, progress_fresh, keys_are}
use Rattle.demands.proofs.Wire.{clear_read, clear_fragment, size_protected, protected_read, protected_fragment}
use mathlib.Core.Logic.{inl, inr}
use Rattle.record.specs.Window.{Held}
use Rattle.connection.specs.declared.connection.Connection.{Connection}
use Rattle.std.specs.Prelude.{Ok, Option, Some}

protected_record : (k : Keys) (content : Content) (s : ℕ) (body : List ℕ) → s ≤ 65535
    → ProtectedRecord k content s body (protected_by (hmac (our_key k s)) (size_of k.mac) false content s body)
protected_record k content s body l =
    record {
      r = read_back false true content s (length body + size_of k.mac);
      reads = protected_read content s l (our_key k s) k.mac body;
      protection = refl;
      content_is = refl;
      number_is = refl;
      short = refl;
      whole = sym (size_protected content s l (our_key k s) k.mac body);
      in_range = l;
      coded = protected_fragment content s l (our_key k s) k.mac body;
    }

clear_record : (s : ℕ) (body : List ℕ) → 1 ≤ length body → s ≤ 65535 → ClearRecord s body (record_of false false C.Alert s body)
clear_record s body some l =
    record {
      r = read_back false false C.Alert s (length body);
      reads = clear_read C.Alert s l body some;
      protection = refl;
      content_is = refl;
      number_is = refl;
      short = refl;
      whole = sym (record_length false false C.Alert s body);
      in_range = l;
      body_is = clear_fragment C.Alert s l body some;
    }

may_live : (protected : Bool) (s : State) → may_alert protected s ≡ true → ended s ≡ false
may_live protected S.Idle e = refl
may_live protected S.Replied e = refl
may_live protected S.Spec e = refl
may_live protected S.Open e = refl
may_live protected S.Closed e = true_false false e refl
may_live protected S.Barred e = true_false false e refl

one_level : (l v : Level) (g : Option Level) → g ≡ Some l → g ≡ Some v → v ≡ l
one_level l v g e f = cc

one_description : (k m : Description) (s : Option Description) → s ≡ Some k → s ≡ Some m → m ≡ k
one_description k m s e f = cc

module _ (session : Session) {width : ℕ} (past : List Happened) (h : Handshake) (p : Progress session width past h) where
  protected_by_lem : (content : Content) (body : List ℕ) → h.protection.protected ≤ 65535 → ended h.state ≡ false
      → ProtectedRecord (keys_in session past) content (protected_next past) body (next_protected h content body)
  unfolding next_protected record_under
  protected_by_lem content body n l =
      let e : keys_of h ≡ keys_in session past = keys_are session past h p (live session past h p.kept l) in
      subst (λ k. ProtectedRecord k content (protected_next past) body (next_protected h content body)) e
      (subst (λ s. ProtectedRecord (keys_of h) content s body (next_protected h content body)) p.kept.protected_is
      (protected_record (keys_of h) content h.protection.protected body n))

  clear_by : (body : List ℕ) → 1 ≤ length body → h.protection.clear ≤ 65535 → ClearRecord (next_clear_number past) body (next_clear h body)
  unfolding next_clear
  clear_by body some n =
      subst (λ s. ClearRecord s body (next_clear h body)) p.kept.clear_is (clear_record h.protection.clear body some n)

  alert_bytes_lem : (protected : Bool) (l : Level) (k : Description) (lent : List ℕ) → may_alert protected h.state ≡ true → number_for protected h ≤ 65535
      → AlertRecord protected (keys_in session past) past (alert_body l k lent) (next_alert protected h (alert_body l k lent))
  alert_bytes_lem true l k lent e n = protected_by_lem C.Alert (alert_body l k lent) n (may_live true h.state e)
  alert_bytes_lem false l k lent e n = clear_by (alert_body l k lent) (omega arith) n

module _ (session : Session) {width : ℕ} (past : List Happened) (c : Connection) where
  data_by : Progress session width past c.handshake → (bytes out : List ℕ) {s : Step} → CallRow c (send_data bytes out) s → outcome_in s.result ≡ Ok tt
      → ProtectedRecord (keys_in session past) C.Data (protected_next past) bytes (take (written_by s.result) s.output)
  data_by p bytes out (data_16 b) x = refused_done X.Argument x
  data_by p bytes out (data_7 g e) x = refused_done X.Ended x
  data_by p bytes out (data_8 g e n) x = refused_done X.NotAllowed x
  data_by p bytes out (data_15 g e n) x = refused_done X.Spent x
  data_by p bytes out (data_6 g e n l) x = refused_done X.Room x
  data_by p bytes out (data_sent_lem g e n l) x =
      subst (ProtectedRecord (keys_in session past) C.Data (protected_next past) bytes) (sym (laid_front out (next_protected c.handshake C.Data bytes)))
      (protected_by_lem session past c.handshake p C.Data bytes n (ap ended e))

  -- by whoever sends, if it may
  alert_by_lem : (protected : Bool) → (may_alert protected (sender_of protected c).state ≡ true → Progress session width past (sender_of protected c))
      → (level description : ℕ) (l : Level) (k : Description) (lent out : List ℕ) → level_of level ≡ Some l → sorted_of description ≡ Some k
      → {s : Step} → CallRow c (send_alert protected level description lent out) s → outcome_in s.result ≡ Ok tt
      → AlertRecord protected (keys_in session past) past (alert_body l k lent) (take (written_by s.result) s.output)
  alert_by_lem protected p level description l k lent out el ek (alert_16 b) x = refused_done X.Argument x
  alert_by_lem protected p level description l k lent out el ek (alert_7 g e) x = refused_done X.Ended x
  alert_by_lem protected p level description l k lent out el ek (alert_8 g e f) x = refused_done X.NotAllowed x
  alert_by_lem protected p level description l k lent out el ek (alert_15 g e n) x = refused_done X.Spent x
  alert_by_lem protected p level description l k lent out el ek (alert_6 g e n m) x = refused_done X.Room x
  alert_by_lem protected p level description l k lent out el ek (alert_sent_lem {l = v} {k = m} g e n q) x =
      let ev : v ≡ l = one_level l v (level_of level) el g.level_is in
      let em : m ≡ k = one_description k m (sorted_of description) ek g.description_is in
      let bytes : List ℕ = next_alert protected (sender_of protected c) (alert_body v m lent) in
      subst (AlertRecord protected (keys_in session past) past (alert_body l k lent)) (sym (laid_front out bytes))
      (subst (λ b. AlertRecord protected (keys_in session past) past (alert_body l k lent) b)
      (sym (ap₂ (λ y z. next_alert protected (sender_of protected c) (alert_body y z lent)) ev em))
      (alert_bytes_lem session past (sender_of protected c) (p e) protected l k lent e n))

pub data_sent_right : DataSentRight
unfolding DataSentRight step_of
data_sent_right id secret width held acts sound bytes out x =
    let h₀ : Handshake = fresh_with id secret width in
    let l : Lives = lives_of (fresh_one id secret width) no_lives acts in
    let c : Connection = behind (fresh_one id secret width) acts in
    let past : List Happened = history h₀ l.own [] in
    let p : Progress (session_of id secret) width past (after h₀ l.own) = progress_all (session_of id secret) l.own [] h₀ (lives_sound_at id secret width acts sound).0 (progress_fresh id secret width held) in
    data_by (session_of id secret) past c (subst (Progress (session_of id secret) width past) (sym (lives_hold_at id secret width held acts).own_life) p) bytes out
    (call_of c (send_data bytes out)) x

-- whoever sends, and may, is what its life leaves
module _ (id secret : List ℕ) (width : ℕ) (held : Held width) (l : Lives) (c : Connection) (v : Lived (fresh_with id secret width) l c) where
  clear_hears : (s : State) → may_alert false s ≡ true → Hears s
  clear_hears S.Idle e = true_false false e refl
  clear_hears S.Replied e = inl refl
  clear_hears S.Spec e = inr refl
  clear_hears S.Open e = true_false false e refl
  clear_hears S.Closed e = true_false false e refl
  clear_hears S.Barred e = true_false false e refl

  clear_lives_lem : (s : State) → may_alert false (clear_sender c s).state ≡ true → clear_sender c s ≡ after (fresh_with id secret width) (clear_sender_life l s)
  clear_lives_lem S.Idle e = v.own_life
  clear_lives_lem S.Replied e = v.own_life
  clear_lives_lem S.Spec e = v.own_life
  clear_lives_lem S.Open e = alive id secret width held l c v (clear_hears c.started.state e)
  clear_lives_lem S.Closed e = v.own_life
  clear_lives_lem S.Barred e = v.own_life

  sender_lives : (protected : Bool) → may_alert protected (sender_of protected c).state ≡ true
      → sender_of protected c ≡ after (fresh_with id secret width) (sender_life l protected c.handshake.state)
  sender_lives true e = v.own_life
  sender_lives false e = clear_lives_lem c.handshake.state e

  module _ (own_sound : AllSound l.own) (beside_sound : AllSound l.beside) where
    clear_sound : (s : State) → AllSound (clear_sender_life l s)
    clear_sound S.Idle = own_sound
    clear_sound S.Replied = own_sound
    clear_sound S.Spec = own_sound
    clear_sound S.Open = beside_sound
    clear_sound S.Closed = own_sound
    clear_sound S.Barred = own_sound

    sender_sound : (protected : Bool) (s : State) → AllSound (sender_life l protected s)
    sender_sound true s = own_sound
    sender_sound false s = clear_sound s

pub alert_sent_right : AlertSentRight
unfolding AlertSentRight step_of
alert_sent_right id secret width held acts sound protected level description l k lent out el ek x =
    let h₀ : Handshake = fresh_with id secret width in
    let session : Session = session_of id secret in
    let lives : Lives = lives_of (fresh_one id secret width) no_lives acts in
    let c : Connection = behind (fresh_one id secret width) acts in
    let v : Lived h₀ lives c = lives_hold_at id secret width held acts in
    let sounds = lives_sound_at id secret width acts sound in
    let life : List Event = sender_life lives protected c.handshake.state in
    let past : List Happened = history h₀ life [] in
    let p : Progress session width past (after h₀ life)
    = progress_all session life [] h₀ (sender_sound id secret width held lives c v sounds.0 sounds.1 protected c.handshake.state) (progress_fresh id secret width held) in
    alert_by_lem session past c protected (λ e. subst (Progress session width past) (sym (sender_lives id secret width held lives c v protected e)) p)
    level description l k lent out el ek (call_of c (send_alert protected level description lent out)) x
