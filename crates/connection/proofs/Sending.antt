-- What a send writes: the size of a record, and the record at the front of the output.
use mathlib.Core.Path.{◌≡◌, refl, sym, ◌∙◌, ap}
use mathlib.Core.Bool.{Bool, true, false}
use mathlib.Core.List.{List}
use Prim.Native.Nat.{ℕ, ◌+◌, ◌≤◌}
use native.Mathlib.Omega.{arith}
use native.Mathlib.Nat.{zero-add}
use lib.ListN.{length, take}
use lib.Dec.{leb, ltb, eqb}
use borrow.Author.Tests.{le-leb, ltb-false}
use Rattle.digest.specs.Bytes.{laid_over}
use Rattle.digest.specs.Hmac.{hmac}
use Rattle.digest.specs.Mac.{size_of}
use Rattle.digest.specs.declared.mac.Mac.{Mac}
use Rattle.digest.proofs.Lay.{laid_front}
use Rattle.record.specs.Written.{byte_for, written_of, count_of}
use Rattle.record.specs.Code.{protected_by, fragment_by}
use Rattle.record.proofs.Fronts.{record_length}
use Rattle.record.proofs.ProtectedBytes.{protected_length}
use Rattle.record.specs.declared.header.Content.{Content}
use Rattle.record.specs.declared.header.Content.TheVariants as C
use Rattle.digest.specs.Pick.{pick}
use Rattle.record.specs.Protection.{next_record, counted_on, wrote_size, writing, wrote_by, output_by}
use Rattle.record.specs.declared.keys.Sense.TheVariants.{FromShore}
use Rattle.record.specs.declared.protection.Writing.{Writing}
use Rattle.record.proofs.Protecting.{record_under_length, wrote_when, output_when}
use Rattle.connection.specs.Send.{and_then, may_data, numbered_by, data_refused, alert_refused, unsent, sent_to, output_to, next_protected, next_clear, alert_sent_as, alert_output_as, after_protected, after_clear, after_send, sender_of, clear_back, done, done_with}
use Rattle.connection.specs.Sent.{sum_of, with_record}
use Rattle.connection.specs.Connection.{connection_of}
use Rattle.connection.specs.declared.state.State.{State}
use Rattle.connection.specs.declared.refusal.Refusal.{Refusal}
use Rattle.connection.specs.declared.refusal.Refusal.TheVariants.{Room, Spent, Argument}
use Rattle.connection.specs.declared.sent.SentRecords.{SentRecords}
use Rattle.connection.specs.declared.handshake.Handshake.{Handshake}
use Rattle.connection.specs.declared.connection.Connection.{Connection}
use Rattle.connection.specs.declared.send.Sent.{Sent}
use Rattle.std.specs.Prelude.{Err, None, Ok, Option, Result, Some, ⊤}
use Rattle.message.specs.declared.alert.Description.{Description}

-- a protected record without a length: three bytes, the content and the code
pub protected_size : (k : List ℕ) (mac : Mac) (content : Content) (number : ℕ) (body : List ℕ)
    → length (protected_by (hmac k) (size_of mac) false content number body) ≡ 3 + length body + size_of mac
unfolding protected_by
protected_size k mac content number body =
    record_length false true content number (fragment_by (hmac k) (size_of mac) number (byte_for false true content) body)
    ∙ ap (λ n. 3 + n) (protected_length k mac number (byte_for false true content) body)
    ∙ omega arith

-- what was written of bytes that fit, and its checksum
pub record Wrote (out bytes after : List ℕ) (n : ℕ) : Type 0 where
  pub count : n ≡ length bytes
  pub bytes_are : after ≡ laid_over out 0 bytes
  pub front : take n after ≡ bytes

pub wrote : (out bytes other after : List ℕ) (n : ℕ) → other ≡ bytes → length bytes ≤ length out
    → n ≡ count_of out other → after ≡ written_of out other → Wrote out bytes after n
unfolding count_of written_of
wrote out bytes other after n e h en ea =
    let fits : leb (length bytes) (length out) ≡ true = le-leb (length bytes) (length out) h in
    let count-is : n ≡ length bytes = en ∙ ap (count_of out) e ∙ rw fits refl in
    let after_is : after ≡ laid_over out 0 bytes = ea ∙ ap (written_of out) e ∙ rw fits refl in
    let all : n ≡ 0 + length bytes = count-is ∙ sym (zero-add (length bytes)) in
    record {
      count = count-is;
      bytes_are = after_is;
      front = ap (take n) after_is ∙ laid_front out 0 n bytes (omega arith) all;
    }

-- the next protected record, written where there is a number to spend, and room
pub protected_wrote : (h : Handshake) (content : Content) (body out after : List ℕ) (w : Writing) (n : ℕ)
    → h.protection.protected ≤ 65535 → length (next_protected h content body) ≤ length out
    → w ≡ wrote_by h.protection FromShore content body (length out) → after ≡ output_by h.protection FromShore content body out
    → n ≡ wrote_size w.wrote → Wrote out (next_protected h content body) after n × (w.protection ≡ counted_on h.protection)
unfolding next_protected
protected_wrote h content body out after w n few fits ew ea en =
    let p = h.protection in
    let next = next_record p FromShore content body in
    let done-is : w ≡ writing (Ok (length next)) (counted_on p) = ew ∙ wrote_when p FromShore content body out few fits in
    let count-is : n ≡ length next = en ∙ ap (λ (x : Writing). wrote_size x.wrote) done-is in
    let after_is : after ≡ laid_over out 0 next = ea ∙ output_when p FromShore content body out few fits in
    let all : n ≡ 0 + length next = count-is ∙ sym (zero-add (length next)) in (
      record { count = count-is; bytes_are = after_is; front = ap (take n) after_is ∙ laid_front out 0 n next (omega arith) all },
      ap (λ (x : Writing). x.protection) done-is,
    )

-- A send that is refused, and one that is done.
pub refused_send : (c : Connection) (success : Sent) (out bytes : List ℕ) (o : Result ⊤ Refusal) (r : Refusal) → o ≡ Err r
    → (unsent c r ≡ sent_to c success o) × (out ≡ output_to out bytes o)
refused_send c success out bytes o r e = (sym (ap (sent_to c success) e), sym (ap (output_to out bytes) e))

pub done_send : (c : Connection) (success : Sent) (out bytes : List ℕ) (o : Result ⊤ Refusal) → o ≡ Ok tt
    → (success ≡ sent_to c success o) × (laid_over out 0 bytes ≡ output_to out bytes o)
done_send c success out bytes o e = (sym (ap (sent_to c success) e), sym (ap (output_to out bytes) e))

-- What a send that is not refused has: a number to spend, and room.
pick_done : (b : Bool) (r : Refusal) (o : Result ⊤ Refusal) → pick b (Err r) o ≡ Ok tt → (b ≡ false) × (o ≡ Ok tt)
pick_done true r o e = let z : ◌≡◌ {A = ℕ} 0 1 = cc in absurd (omega arith)
pick_done false r o e = (refl, e)

then_done : (a o : Result ⊤ Refusal) → and_then a o ≡ Ok tt → o ≡ Ok tt
then_done (Ok tt) o e = e
then_done (Err r) o e = let z : ◌≡◌ {A = ℕ} 0 1 = cc in absurd (omega arith)

numbered_done : (number size room : ℕ) → numbered_by number size room ≡ Ok tt → (number ≤ 65535) × (size ≤ room)
unfolding numbered_by
numbered_done number size room e =
    let a = pick_done (ltb 65535 number) Spent (pick (ltb room size) (Err Room) (Ok tt)) e in
    let b = pick_done (ltb room size) Room (Ok tt) a.1 in
    (ltb-false 65535 number a.0, ltb-false room size b.0)

pub data_done : (state : State) (size number code room : ℕ) → data_refused state size number code room ≡ Ok tt
    → (number ≤ 65535) × (3 + size + code ≤ room)
unfolding data_refused
data_done state size number code room e =
    let a = pick_done (eqb size 0) Argument _ e in
    let b = pick_done (ltb 1300 size) Argument _ a.1 in
    numbered_done number (3 + size + code) room (then_done (may_data state) _ b.1)

pub alert_done : (may : Result ⊤ Refusal) (lent number code room : ℕ) → alert_refused may lent number code room ≡ Ok tt
    → (number ≤ 65535) × (9 + code ≤ room)
unfolding alert_refused
alert_done may lent number code room e =
    let a = pick_done (ltb 1400 lent) Argument _ e in
    numbered_done number (9 + code) room (then_done may _ a.1)

-- the sizes of our records
pub next_size : (h : Handshake) (content : Content) (body : List ℕ)
    → length (next_protected h content body) ≡ 3 + length body + size_of h.protection.keys.mac
unfolding next_protected
next_size h content body =
    record_under_length h.protection.keys FromShore content h.protection.protected body ∙ omega arith

pub clear_size : (h : Handshake) (body : List ℕ) → length (next_clear h body) ≡ 3 + length body
unfolding next_clear
clear_size h body = record_length false false C.Alert h.protection.clear body

-- an unknown level or description is refused, whatever else is said
pub no_level : (c : Connection) (protected : Bool) (answered : List ℕ) (room : ℕ) (s : Option Description) → unsent c Argument ≡ alert_sent_as c protected answered room None s
no_level c protected answered room (Some d) = refl
no_level c protected answered room None = refl

pub no_level_output : (c : Connection) (protected : Bool) (answered out : List ℕ) (s : Option Description) → out ≡ alert_output_as c protected answered out None s
no_level_output c protected answered out (Some d) = refl
no_level_output c protected answered out None = refl

-- the connection after a record was sent, from its parts
pub protected_sent_lem : (c : Connection) (next : List ℕ) (g : Handshake) (s : SentRecords) (size sum : ℕ) (r : Sent)
    → size ≡ length next → sum ≡ sum_of next → g ≡ after_protected c.handshake → s ≡ with_record c.sent sum
    → r ≡ done_with size (connection_of g c.started s) → r ≡ done next (after_send true c next)
protected_sent_lem c next g s size sum r en em eg es er =
    let list = es ∙ ap (with_record c.sent) em in
    er ∙ (λ i. done_with (en i) (connection_of (eg i) c.started (list i)))

pub clear_sent_lem : (c : Connection) (body : List ℕ) (h g : Handshake) (s : SentRecords) (k : Connection) (size sum : ℕ) (r : Sent)
    → h ≡ sender_of false c → size ≡ length (next_clear h body) → sum ≡ sum_of (next_clear h body) → g ≡ after_clear h
    → s ≡ with_record c.sent sum → k ≡ clear_back c g s c.handshake.state → r ≡ done_with size k
    → r ≡ done (next_clear (sender_of false c) body) (after_send false c (next_clear (sender_of false c) body))
clear_sent_lem c body h g s k size sum r eh en em eg es ek er =
    let count = en ∙ ap (λ x. length (next_clear x body)) eh in
    let sender = eg ∙ ap after_clear eh in
    let list = es ∙ ap (with_record c.sent) (em ∙ ap (λ x. sum_of (next_clear x body)) eh) in
    er ∙ ap (done_with size) ek ∙ (λ i. done_with (count i) (clear_back c (sender i) (list i) c.handshake.state))
