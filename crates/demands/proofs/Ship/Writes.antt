-- What a successful call writes: by the tests of each call, and the round trip of layer 2.
use mathlib.Core.Path.{◌≡◌, refl, sym, ◌∙◌, ap}
use mathlib.Core.Logic.{inl, inr}
use mathlib.Core.Bool.{Bool, true, false}
use mathlib.Core.List.{List, [], ◌∷◌, ◌++◌, map}
use Prim.Native.Nat.{ℕ, suc, ◌+◌, ◌-◌, ◌≤◌}
use native.Mathlib.Omega.{arith}
use lib.ListN.{length, take, get_or, replicate}
use lib.Dec.{eqb, ltb, leb}
use borrow.Author.Tests.{le-leb, ltb-false}
use Rattle.digest.specs.Bytes.{laid_over}
use Rattle.digest.specs.Mac.{size_of}
use Rattle.record.specs.Datagram.{Framing, framed, faulty, framing_of}
use Rattle.record.specs.Keys.{secret_for}
use Rattle.record.specs.Protection.{record_under, next_record, wrote_by, output_by}
use Rattle.record.specs.Written.{record_of, written_of}
use Rattle.record.specs.declared.header.Content.{Content}
use Rattle.record.specs.declared.header.Content.TheVariants as C
use Rattle.record.specs.declared.keys.Keys.{Keys}
use Rattle.record.specs.declared.keys.Sense.TheVariants.{FromUnit}
use Rattle.record.specs.declared.reader.Record.{Record}
use Rattle.record.proofs.Fronts.{record_length}
use Rattle.record.proofs.RoundTrip.{read_back}
use Rattle.message.specs.Alert.{level_of, sorted_of}
use Rattle.message.specs.Offer.{kinds_named}
use Rattle.message.specs.declared.alert.Level.{Level}
use Rattle.message.specs.declared.alert.Description.{Description}
use Rattle.message.specs.declared.offer.Kinds.{Kinds}
use Rattle.connection.specs.Send.{alert_body}
use Rattle.connection.specs.Sent.{sum_of}
use Rattle.unit.specs.Answer.{slot, opens_by, opens_to}
use Rattle.unit.specs.Hello.{hello_datagram, offer_of, may_hello, greeted_with, hello_as, hello_sent, hello_output_as, hello_output, said_again, hello_said, again_in, again_output_in}
use Rattle.unit.specs.Receive.{end_of, answers_of, slots_of, flight_in, run_of, whole_of, framed_to, received_of, sent_of, output_of}
use Rattle.unit.specs.Send.{may_protect, may_clear, sent_if, output_if, protected_sent, clear_sent, clear_output, next_clear, data_sent, data_output, alert_sent_by, alert_output_by, alert_sent_as, alert_output_as, alert_sent, alert_output}
use Rattle.unit.specs.Unit.{greeted, flight_of}
use Rattle.unit.specs.declared.answer.Answer.{Answer}
use Rattle.unit.specs.declared.answer.Answer.TheVariants as W
use Rattle.unit.specs.declared.answer.Slot.{Slot}
use Rattle.unit.specs.declared.send.Sent.{Sent}
use Rattle.unit.specs.declared.state.State.{State}
use Rattle.unit.specs.declared.state.State.TheVariants as S
use Rattle.unit.specs.declared.unit.Unit.{Unit as Ship}
use Rattle.demands.specs.Sends.{ClearRecord}
use Rattle.demands.specs.Ship.Table.{Midway}
use Rattle.demands.specs.Ship.Runs.{hello, again, receive, send_data, send_alert, Step, sent_as, step_of}
use Rattle.demands.specs.Ship.Refusals.{written_by}
use Rattle.demands.specs.Ship.ExactlyReceive.{answer_given}
use Rattle.demands.specs.Ship.Writes.{IsDone, wrote_step, AgainGives, HelloWrote, HelloSaidNext, NothingWithoutOpen, OurRecord, Lays, DataWritten, AlertIs, AlertWritten}
use Rattle.demands.proofs.Exactly.Reasons.{decide}
use Rattle.demands.proofs.Wire.{clear_read, clear_fragment, size_protected, protected_read, protected_fragment}
use Rattle.std.specs.Prelude.{Err, None, Ok, Option, Result, Some, ⊤}
use Rattle.connection.specs.declared.refusal.Refusal.{Refusal}

-- ---- again

module _ (u : Ship) (out : List ℕ) where
  said_is : (bytes : List ℕ) → length bytes ≤ length out → sent_as (said_again u bytes (length out)) (written_of out bytes) ≡ wrote_step out bytes u
  unfolding said_again written_of
  said_is bytes fits = rw (le-leb (length bytes) (length out) fits) refl

  again-at : (s : State) → u.state ≡ s → (bytes : List ℕ)
      → sent_as (again_in u s (length out)) (again_output_in u s out) ≡ wrote_step out bytes u → step_of u (again out) ≡ wrote_step out bytes u
  unfolding step_of
  again-at s e bytes p = ap (λ x. sent_as (again_in u x (length out)) (again_output_in u x out)) e ∙ p

  again-hello : Midway u.state → length (hello_said u) ≤ length out → step_of u (again out) ≡ wrote_step out (hello_said u) u
  again-hello (inl e) fits = again-at S.Sent e (hello_said u) (said_is (hello_said u) fits)
  again-hello (inr (inl e)) fits = again-at S.Replied e (hello_said u) (said_is (hello_said u) fits)
  again-hello (inr (inr e)) fits = again-at S.Spec e (hello_said u) (said_is (hello_said u) fits)

  again-flight : u.state ≡ S.Opening → length (flight_of u) ≤ length out → step_of u (again out) ≡ wrote_step out (flight_of u) u
  again-flight e fits = again-at S.Opening e (flight_of u) (said_is (flight_of u) fits)

pub again_gives : AgainGives step_of
again_gives = record { the_hello = again-hello; the_flight = again-flight }

-- ---- hello

module _ (u : Ship) (random macs : List ℕ) (refresh : ℕ) (out : List ℕ) where
  abbrev said : Kinds → List ℕ
  said kinds = hello_datagram u.id random (offer_of kinds refresh)

  abbrev greeted_as : Kinds → Ship
  greeted_as kinds = greeted u random (offer_of kinds refresh) (sum_of (said kinds))

  abbrev Greeted : Step → Type 0
  Greeted s = IsDone s.result → (kinds : Kinds) × (kinds_named macs ≡ Some kinds) × (s ≡ wrote_step out (said kinds) (greeted_as kinds))

  greeted-by : (kinds : Kinds) → kinds_named macs ≡ Some kinds
      → Greeted (sent_as (greeted_with u random (offer_of kinds refresh) (length out)) (written_of out (said kinds)))
  unfolding greeted_with written_of
  greeted-by kinds e =
      decide (leb (length (said kinds)) (length out)) (λ f. rw f (λ x. (kinds, e, refl))) (λ f. rw f (λ x. absurd x))

  may-by : (o : Result ⊤ Refusal) (kinds : Kinds) → kinds_named macs ≡ Some kinds
      → Greeted (sent_as (sent_if u o (greeted_with u random (offer_of kinds refresh) (length out))) (output_if out o (written_of out (said kinds))))
  may-by (Ok tt) kinds e = greeted-by kinds e
  may-by (Err x) kinds e = λ y. absurd y

  named_by : (n : Option Kinds) → kinds_named macs ≡ n → Greeted (sent_as (hello_as u random refresh (length out) n) (hello_output_as u random refresh out n))
  named_by (Some kinds) e = may-by (may_hello u.state) kinds e
  named_by None e = λ y. absurd y

  hello-by : Greeted (step_of u (hello random macs refresh out))
  unfolding step_of hello_sent hello_output
  hello-by =
      decide (eqb (length random) 16)
      (λ a. decide (ltb 255 refresh) (λ b. rw (a, b) (λ y. absurd y)) (λ b. rw (a, b) (named_by (kinds_named macs) refl)))
      (λ a. rw a (λ y. absurd y))

  hello-wrote : IsDone (step_of u (hello random macs refresh out)).result → HelloWrote step_of u random macs refresh out
  unfolding hello_datagram
  hello-wrote x =
      let q = hello-by x in
      record {
        kinds = q.0;
        named = q.1;
        bytes = said q.0;
        bytes_are = refl;
        left = greeted_as q.0;
        wrote = q.2;
        said_next = λ more fits. again-hello (greeted_as q.0) more (inl refl) fits;
      }

pub hello-said-next : HelloSaidNext step_of
unfolding HelloSaidNext
hello-said-next u random macs refresh out x = hello-wrote u random macs refresh out x

-- ---- receive

not_open : (n : ℕ) (a : Answer) → ((size : ℕ) → a ≡ W.Open size → ⊥) → opens_by n a ≡ n
not_open n W.Nothing never = refl
not_open n W.Hello never = refl
not_open n W.Spec never = refl
not_open n (W.Open size) never = absurd (never size refl)
not_open n W.Again never = refl
not_open n (W.Data number start size) never = refl
not_open n W.Request never = refl
not_open n W.Ignored never = refl
not_open n (W.Warning description) never = refl
not_open n (W.Critical description) never = refl
not_open n (W.Fatal description) never = refl
not_open n (W.Barred description) never = refl
not_open n (W.Refused refusal) never = refl

none-opens : (l : List Answer) (tail : List Slot) → ((i size : ℕ) → (get_or (map slot l ++ tail) i (slot W.Nothing)).answer ≡ W.Open size → ⊥)
    → (n : ℕ) → opens_to n l ≡ n
unfolding opens_to
none-opens [] tail never n = refl
none-opens (a ∷ l) tail never n =
    ap (λ m. opens_to m l) (not_open n a (λ size e. never 0 size e)) ∙ none-opens l tail (λ i size e. never (suc i) size e) n

nothing-laid : (out : List ℕ) → laid_over out 0 [] ≡ out
unfolding laid_over
nothing-laid out = refl

module _ (u : Ship) (d out : List ℕ) where
  no-flight : (rs : List Record) → ((i size : ℕ) → (get_or (slots_of (answers_of u d rs)) i (slot W.Nothing)).answer ≡ W.Open size → ⊥) → flight_in u d rs ≡ []
  unfolding flight_in slots_of
  no-flight rs never =
      ap (λ n. take n (end_of u d rs).flight)
      (none-opens (answers_of u d rs) (replicate (8 - length (answers_of u d rs)) (slot W.Nothing)) never 0)

  framed-none : (y : Framing) → ((i size : ℕ) → (get_or (framed_to u d y).answers i (slot W.Nothing)).answer ≡ W.Open size → ⊥)
      → (laid_over out 0 (sent_of u d y) ≡ out) × ((framed_to u d y).written ≡ 0)
  unfolding run_of whole_of
  framed-none (framed rs) never = (ap (laid_over out 0) (no-flight rs never) ∙ nothing-laid out, ap length (no-flight rs never))
  framed-none (faulty fault at) never = (nothing-laid out, refl)

  receive-none : ((i size : ℕ) → answer_given (step_of u (receive d out)).result i ≡ W.Open size → ⊥)
      → ((step_of u (receive d out)).output ≡ out) × (written_by (step_of u (receive d out)).result ≡ 0)
  unfolding step_of received_of output_of whole_of
  receive-none =
      decide (ltb (length out) 128) (λ e. rw e (λ never. (refl, refl))) (λ e. rw e (λ never. framed-none (framing_of d) never))

pub nothing-without-open : NothingWithoutOpen step_of
unfolding NothingWithoutOpen
nothing-without-open u d out never = receive-none u d out never

-- ---- sends

our-record : (k : Keys) (content : Content) (s : ℕ) (body : List ℕ) → s ≤ 65535 → OurRecord k content s body (record_under k FromUnit content s body)
unfolding record_under
our-record k content s body l =
    let key : List ℕ = secret_for k FromUnit s in
    record {
      r = read_back false true content s (length body + size_of k.mac);
      reads = protected_read content s l key k.mac body;
      protection = refl;
      content_is = refl;
      number_is = refl;
      short = refl;
      whole = sym (size_protected content s l key k.mac body);
      in_range = l;
      coded = protected_fragment content s l key k.mac body;
    }

our-clear : (s : ℕ) (body : List ℕ) → 1 ≤ length body → s ≤ 65535 → ClearRecord s body (record_of false false C.Alert s body)
our-clear s body some l =
    record {
      r = read_back false false C.Alert s (length body);
      reads = clear_read C.Alert s l body some;
      protection = refl;
      content_is = refl;
      number_is = refl;
      short = refl;
      whole = sym (record_length false false C.Alert s body);
      in_range = l;
      body_is = clear_fragment C.Alert s l body some;
    }

module _ (u : Ship) (out : List ℕ) where
  abbrev Writes : (List ℕ → Type 0) → Step → Type 0
  Writes Kind s = IsDone s.result → Lays s out Kind

  if-writes : (Kind : List ℕ → Type 0) (o : Result ⊤ Refusal) (s : Sent) (os : List ℕ) → Writes Kind (sent_as s os) → Writes Kind (sent_as (sent_if u o s) (output_if out o os))
  if-writes Kind (Ok tt) s os a = a
  if-writes Kind (Err x) s os a = λ y. absurd y

  protected-writes : (content : Content) (body : List ℕ)
      → Writes (OurRecord u.protection.keys content u.protection.protected body)
      (sent_as (protected_sent u content body (length out)) (output_by u.protection FromUnit content body out))
  unfolding protected_sent wrote_by output_by written_of
  protected-writes content body =
      let n : List ℕ = next_record u.protection FromUnit content body in
      decide (ltb 65535 u.protection.protected) (λ e. rw e (λ y. absurd y))
      (λ e. decide (ltb (length out) (length n)) (λ f. rw (e, f) (λ y. absurd y))
      (λ f. rw (e, f, le-leb (length n) (length out) (ltb-false (length out) (length n) f))
      (λ y. (n, our-record u.protection.keys content u.protection.protected body (ltb-false 65535 u.protection.protected e), refl, refl))))

  clear-writes : (body : List ℕ) → 1 ≤ length body
      → Writes (ClearRecord u.protection.clear body) (sent_as (clear_sent u body (length out)) (clear_output u body out))
  unfolding clear_sent clear_output written_of
  clear-writes body some =
      let n : List ℕ = next_clear u body in
      decide (ltb 65535 u.protection.clear) (λ e. rw e (λ y. absurd y))
      (λ e. decide (leb (length n) (length out))
      (λ f. rw (e, f) (λ y. (n, our-clear u.protection.clear body some (ltb-false 65535 u.protection.clear e), refl, refl)))
      (λ f. rw (e, f) (λ y. absurd y)))

  data-writes : (bytes : List ℕ)
      → Writes (OurRecord u.protection.keys C.Data u.protection.protected bytes) (step_of u (send_data bytes out))
  unfolding step_of data_sent data_output
  data-writes bytes =
      decide (eqb (length bytes) 0) (λ e. rw e (λ y. absurd y))
      (λ e. decide (ltb 1300 (length bytes)) (λ f. rw (e, f) (λ y. absurd y))
      (λ f. rw (e, f)
      (if-writes (OurRecord u.protection.keys C.Data u.protection.protected bytes) (may_protect u.state)
      (protected_sent u C.Data bytes (length out)) (output_by u.protection FromUnit C.Data bytes out) (protected-writes C.Data bytes))))

  by-writes : (protected : Bool) (body : List ℕ) → 1 ≤ length body
      → Writes (AlertIs u protected body) (sent_as (alert_sent_by u protected body (length out)) (alert_output_by u protected body out))
  unfolding alert_sent_by alert_output_by
  by-writes true body some =
      if-writes (AlertIs u true body) (may_protect u.state) (protected_sent u C.Alert body (length out))
      (output_by u.protection FromUnit C.Alert body out) (protected-writes C.Alert body)
  by-writes false body some =
      if-writes (AlertIs u false body) (may_clear u.state) (clear_sent u body (length out)) (clear_output u body out) (clear-writes body some)

  module _ (protected : Bool) (level description : ℕ) (answered : List ℕ) where
    abbrev Alerts : Step → Type 0
    Alerts s =
        IsDone s.result → (l : Level) × (k : Description) × (level_of level ≡ Some l) × (sorted_of description ≡ Some k)
        × Lays s out (AlertIs u protected (alert_body l k answered))

    as-writes : (g : Option Level) (s : Option Description) → level_of level ≡ g → sorted_of description ≡ s
        → Alerts (sent_as (alert_sent_as u protected answered (length out) g s) (alert_output_as u protected answered out g s))
    as-writes (Some l) (Some k) el ek =
        decide (ltb 1400 (length answered)) (λ f. rw f (λ y. absurd y))
        (λ f. rw f (λ y. (l, k, el, ek, by-writes protected (alert_body l k answered) (omega arith) y)))
    as-writes (Some l) None el ek = λ y. absurd y
    as-writes None (Some k) el ek = λ y. absurd y
    as-writes None None el ek = λ y. absurd y

    alert-writes : Alerts (step_of u (send_alert protected level description answered out))
    unfolding step_of alert_sent alert_output
    alert-writes = as-writes (level_of level) (sorted_of description) refl refl

pub data_written : DataWritten step_of
unfolding DataWritten
data_written u bytes out x = data-writes u out bytes x

pub alert_written : AlertWritten step_of
unfolding AlertWritten
alert_written u protected level description answered out x = alert-writes u out protected level description answered x
