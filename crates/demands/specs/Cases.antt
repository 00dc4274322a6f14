-- Cases that the worked handshake does not show, each met in a run from fresh: both MAC kinds, a forged record of full
-- size, one that is too old, a repeated one, a late one from before a key refresh, and an alert that we send clear.
use Rattle.std.specs.Prelude.{◌≡◌, true, false, List, [], ℕ, ◌≤◌, length, Ok}
use Rattle.digest.specs.Mac.{size_of}
use Rattle.digest.specs.declared.mac.Mac.{Mac}
use Rattle.digest.specs.declared.mac.Mac.TheVariants.{Sha80, Sha}
use Rattle.record.specs.Keys.{key_number}
use Rattle.record.specs.declared.reader.Record.{Record}
use Rattle.connection.specs.Judge.{judged_record}
use Rattle.connection.specs.Send.{alert_sent}
use Rattle.connection.specs.declared.answer.Answer.{Answer}
use Rattle.connection.specs.declared.answer.Answer.TheVariants.{Data, Refused}
use Rattle.connection.specs.declared.refusal.Refusal.TheVariants as X
use Rattle.connection.specs.declared.state.State.TheVariants.{Replied, Open}
use Rattle.demands.specs.Genuine.{keys_of}
use Rattle.demands.specs.Events.{Event, took, Sound, AllSound, after}
use Rattle.demands.specs.Past.{is_data}
use Rattle.demands.specs.Instances.{example_fresh}
use Rattle.connection.specs.Connection.{alone}
use Rattle.connection.specs.Sent.{no_records}

-- a run from fresh that is Open under this MAC kind, and a record that is answered with data there
pub record OpenWith (mac : Mac) : Type 0 where
  pub es : List Event
  pub sound : AllSound es
  pub is_open : (after example_fresh es).state ≡ Open
  pub kind : (keys_of (after example_fresh es)).mac ≡ mac
  pub random : List ℕ
  pub d : List ℕ
  pub r : Record
  pub here : Sound (took no_records random d r)
  pub handed : is_data (judged_record (after example_fresh es) no_records random d r).answer ≡ true

-- a protected record, with room for a code, that gets this answer where a run from fresh is Open
pub record Answered (answer : Answer) : Type 0 where
  pub es : List Event
  pub sound : AllSound es
  pub is_open : (after example_fresh es).state ≡ Open
  pub random : List ℕ
  pub d : List ℕ
  pub r : Record
  pub here : Sound (took no_records random d r)
  pub protected : r.protected ≡ true
  pub whole : size_of (keys_of (after example_fresh es)).mac ≤ r.size
  pub answered : (judged_record (after example_fresh es) no_records random d r).answer ≡ answer

-- a record from before a key refresh, handed out where one from behind it was already accepted
pub record Crossed : Type 0 where
  pub late : Answered (Data 7 3 6)
  pub its_number : late.r.number ≡ 7
  pub highest : (after example_fresh late.es).protection.window.highest ≡ 9
  pub key_behind : key_number (keys_of (after example_fresh late.es)).refresh 9 ≡ 8
  pub key_before : key_number (keys_of (after example_fresh late.es)).refresh 7 ≡ 0

-- an alert that is sent clear
pub record SentClear : Type 0 where
  pub es : List Event
  pub sound : AllSound es
  pub is_replied : (after example_fresh es).state ≡ Replied
  pub out : List ℕ
  pub done : (alert_sent (alone (after example_fresh es)) false 1 0 [] (length out)).outcome ≡ Ok tt

pub record Cases : Type 0 where
  pub sha_80 : OpenWith Sha80
  pub sha : OpenWith Sha
  pub forged : Answered (Refused X.Forged)
  pub too_old : Answered (Refused X.TooOld)
  pub repeated : Answered (Refused X.Repeated)
  pub crossed : Crossed
  pub sent_clear : SentClear
