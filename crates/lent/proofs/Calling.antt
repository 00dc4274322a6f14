-- What the exported calls answer and leave, from what the connection's calls gave: by whether the bytes are a saved
-- connection.
use mathlib.Core.Path.{◌≡◌, refl, sym, ◌∙◌, ap}
use mathlib.Core.Bool.{Bool, true, false}
use mathlib.Core.List.{List, [], ◌∷◌}
use Prim.Native.Nat.{ℕ, zero, suc, ◌≤◌, ◌<◌}
use native.Mathlib.Omega.{arith}
use lib.ListN.{length}
use lib.Dec.{eqb}
use borrow.Author.Tests.{eqb-true, ne_eqb}
use Rattle.digest.specs.Pick.{pick}
use Rattle.digest.specs.Bytes.{word_at}
use Rattle.digest.proofs.Picks.{pick_yes, pick_no}
use Rattle.message.specs.Alert.{level_of, sorted_of, among, descriptions, description_number}
use Rattle.message.specs.declared.alert.Description.{Description}
use Rattle.message.specs.declared.alert.Description.TheVariants as K
use Rattle.connection.specs.Send.{alert_sent, alert_output, alert_sent_as, alert_output_as, unsent}
use Rattle.connection.specs.declared.connection.Connection.{Connection}
use Rattle.connection.specs.declared.calls.Called.{Called}
use Rattle.connection.specs.declared.refusal.Refusal.TheVariants.{Argument}
use Rattle.connection.proofs.Sending.{no_level, no_level_output}
use Rattle.lent.specs.Fields.{bytes_in}
use Rattle.lent.specs.Saved.{state_size, handshake_size, handshake_place, started_place, mark, is_handshake, is_saved, connection_in, loaded}
use Rattle.lent.specs.Calls.{result_of, refusal_in, left_in, left_loaded, called_result, called_state, called_loads, sense, lent_for}
use Rattle.std.specs.Prelude.{None, Option, Some}
use Rattle.message.specs.declared.alert.Level.{Level}

-- a test and another
pub both_true : (t x : Bool) → pick t x false ≡ true → (t ≡ true) × (x ≡ true)
both_true true x h = (refl, h)
both_true false x h = (h, cc)

-- by a test that was made
pub test_yes : {A : Type 0} {r x : A} (y : A) {b t : Bool} → t ≡ b → t ≡ true → r ≡ x → r ≡ pick b x y
test_yes {A} {r} {x} y {b} s h e = pick_yes A r x y b (sym s ∙ h) e

pub test_no : {A : Type 0} {r y : A} (x : A) {b t : Bool} → t ≡ b → t ≡ false → r ≡ y → r ≡ pick b x y
test_no {A} {r} {y} x {b} s h e = pick_no A r x y b (sym s ∙ h) e

-- by neither value of it
pub either : {A : Type 0} {r x y : A} (b : Bool) → r ≡ x → r ≡ y → r ≡ pick b x y
either true e f = e
either false e f = f

-- a saved connection has its size
pub saved_size : (b : List ℕ) → is_saved b ≡ true → length b ≡ state_size
unfolding is_saved
saved_size b h =
    eqb-true (length b) state_size
    (both_true (eqb (length b) state_size)
    (pick (eqb (word_at b 0) mark)
    (pick (is_handshake (bytes_in b handshake_place handshake_size)) (is_handshake (bytes_in b started_place handshake_size)) false)
    false)
    h).0

pub lent_sizes : (b : List ℕ) (counts places : ℕ) → lent_for b counts places ≡ true → (length b ≡ state_size) × ((counts ≡ 16) × (places ≡ 192))
unfolding lent_for
lent_sizes b counts places h =
    let first = both_true (eqb counts 16) (pick (eqb places 192) (is_saved b) false) h in
    let second = both_true (eqb places 192) (is_saved b) first.1 in
    (saved_size b second.1, (eqb-true counts 16 first.0, eqb-true places 192 second.0))

-- close and start again
pub called : (call : Connection → Called) (b : List ℕ) (t : Bool) (k : Called) (r : ℕ) (e : List ℕ) → t ≡ is_saved b → t ≡ true
    → k ≡ call (connection_in b) → r ≡ result_of (refusal_in k.outcome) 0 0 → e ≡ left_in b k.connection k.outcome
    → loaded e ≡ left_loaded b k.connection k.outcome
    → (r ≡ called_result call b) × ((e ≡ called_state call b) × (loaded e ≡ called_loads call b))
called call b t k r e s h is er ee el = (
  test_yes _ s h (er ∙ ap (λ x. result_of (refusal_in x.outcome) 0 0) is),
  (
    test_yes _ s h (ee ∙ ap (λ x. left_in b x.connection x.outcome) is),
    test_yes _ s h (el ∙ ap (λ x. left_loaded b x.connection x.outcome) is),
  ),
)

-- clear or protected
pub sense_in : {A : Type 0} (p : ℕ) (f : Bool → A) (other : A) → p ≤ 1 → f (eqb p 1) ≡ sense p f other
sense_in zero f other h = refl
sense_in (suc zero) f other h = refl
sense_in (suc (suc p)) f other h = absurd (omega arith)

pub sense_out : (A : Type 0) (p : ℕ) (f : Bool → A) (other : A) → 1 < p → other ≡ sense p f other
sense_out A p f other h =
    let none : eqb p 0 ≡ false = ne_eqb p 0 (λ e. omega arith) in
    let one : eqb p 1 ≡ false = ne_eqb p 1 (λ e. omega arith) in
    pick_no A other (f false) (pick (eqb p 1) (f true) other) (eqb p 0) none (pick_no A other (f true) other (eqb p 1) one refl)

-- whichever it is
pub sense_same : (A : Type 0) (p : ℕ) (f : Bool → A) (other : A) → ((b : Bool) → other ≡ f b) → other ≡ sense p f other
sense_same A p f other h = either (eqb p 0) (h false) (either (eqb p 1) (h true) refl)

-- no level and no description is above 255
pub no_level_above : (n : ℕ) → 255 < n → level_of n ≡ None
unfolding level_of
no_level_above n h =
    let a : eqb n 1 ≡ false = ne_eqb n 1 (λ e. omega arith) in
    let b : eqb n 2 ≡ false = ne_eqb n 2 (λ e. omega arith) in
    let c : eqb n 3 ≡ false = ne_eqb n 3 (λ e. omega arith) in
    rw a (rw b (rw c))

described_below : (d : Description) → description_number d < 256
described_below K.ConnectionCloseNotify = omega arith
described_below K.SessionCloseNotify = omega arith
described_below K.NoConnection = omega arith
described_below K.UnexpectedMessage = omega arith
described_below K.TimeRequired = omega arith
described_below K.BadRecordMac = omega arith
described_below K.DecryptionFailed = omega arith
described_below K.RecordOverflow = omega arith
described_below K.DecompressionFailure = omega arith
described_below K.HandshakeFailure = omega arith
described_below K.BadCertificate = omega arith
described_below K.UnsupportedCertificate = omega arith
described_below K.CertificateRevoked = omega arith
described_below K.CertificateExpired = omega arith
described_below K.CertificateUnknown = omega arith
described_below K.IllegalParameter = omega arith
described_below K.UnknownCa = omega arith
described_below K.AccessDenied = omega arith
described_below K.DecodeError = omega arith
described_below K.DecryptError = omega arith
described_below K.UnknownKeyId = omega arith
described_below K.DisabledKeyId = omega arith
described_below K.KeyExchangeDisabled = omega arith
described_below K.SessionNotReady = omega arith
described_below K.UnknownParameterIndex = omega arith
described_below K.DuplicateFinishedReceived = omega arith
described_below K.ExportRestriction = omega arith
described_below K.ProtocolVersion = omega arith
described_below K.InsufficientSecurity = omega arith
described_below K.InternalError = omega arith
described_below K.UserCanceled = omega arith
described_below K.NoRenegotiation = omega arith

pub no_description_above : (ds : List Description) (n : ℕ) → 255 < n → among ds n ≡ None
unfolding among
no_description_above [] n h = refl
no_description_above (d ∷ ds) n h =
    let other : eqb (description_number d) n ≡ false = ne_eqb (description_number d) n (λ e. omega (arith, described_below d)) in
    rw other (no_description_above ds n h)

-- so an alert with one is refused 16, and nothing is written
pub level_above : (c : Connection) (protected : Bool) (level description : ℕ) (answered : List ℕ) (room : ℕ) → 255 < level
    → unsent c Argument ≡ alert_sent c protected level description answered room
unfolding alert_sent
level_above c protected level description answered room h =
    rw (no_level_above level h) (no_level c protected answered room (sorted_of description))

pub level_above_output : (c : Connection) (protected : Bool) (level description : ℕ) (answered out : List ℕ) → 255 < level
    → out ≡ alert_output c protected level description answered out
unfolding alert_output
level_above_output c protected level description answered out h =
    rw (no_level_above level h) (no_level_output c protected answered out (sorted_of description))

no_sort : (c : Connection) (protected : Bool) (answered : List ℕ) (room : ℕ) (g : Option Level) → unsent c Argument ≡ alert_sent_as c protected answered room g None
no_sort c protected answered room (Some level) = refl
no_sort c protected answered room None = refl

no_sort_output : (c : Connection) (protected : Bool) (answered out : List ℕ) (g : Option Level) → out ≡ alert_output_as c protected answered out g None
no_sort_output c protected answered out (Some level) = refl
no_sort_output c protected answered out None = refl

pub description_above : (c : Connection) (protected : Bool) (level description : ℕ) (answered : List ℕ) (room : ℕ) → 255 < description
    → unsent c Argument ≡ alert_sent c protected level description answered room
unfolding alert_sent sorted_of
description_above c protected level description answered room h =
    rw (no_description_above descriptions description h) (no_sort c protected answered room (level_of level))

pub description_above_output : (c : Connection) (protected : Bool) (level description : ℕ) (answered out : List ℕ) → 255 < description
    → out ≡ alert_output c protected level description answered out
unfolding alert_output sorted_of
description_above_output c protected level description answered out h =
    rw (no_description_above descriptions description h) (no_sort_output c protected answered out (level_of level))
