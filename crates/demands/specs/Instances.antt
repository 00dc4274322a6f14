-- No premise is empty: beside the statements that have premises, an instance that meets them.
use Rattle.std.specs.Prelude.{◌≡◌, true, List, [], ℕ, length, Ok}
use Rattle.record.specs.Datagram.{framed, framing_of}
use Rattle.record.specs.declared.reader.Record.{Record}
use Rattle.message.specs.Acceptance.{heard_of}
use Rattle.connection.specs.Judge.{judged_record}
use Rattle.connection.specs.Send.{data_sent, alert_sent}
use Rattle.connection.specs.declared.state.State.TheVariants.{Open, Barred}
use Rattle.connection.specs.declared.handshake.Handshake.{Handshake}
use Rattle.demands.specs.Runs.{fresh_with, fresh_one, step_of}
use Rattle.demands.specs.Genuine.{keys_of}
use Rattle.demands.specs.Events.{Event, took, Sound, AllSound, next, after}
use Rattle.demands.specs.Past.{is_data}
use Rattle.demands.specs.LeftOut.{NoneGenuine}
use Rattle.demands.specs.Traps.{JustOpen}
use Rattle.demands.specs.Example.{example_data, example_hello, example_id, example_out, example_plan, example_random, example_secret, example_width, sha_hello, sha_plan}
use Rattle.connection.specs.Connection.{alone}
use Rattle.connection.specs.Sent.{no_records}
use Rattle.demands.specs.Acts.{Act, SoundActs, behind}
use Rattle.demands.specs.Works.{Rebooted}
use Rattle.connection.specs.Calls.{session_of}

abbrev pub example_fresh : Handshake
example_fresh = fresh_with example_id example_secret example_width

-- a run from fresh that is Open, and a record that is answered with data there
pub record OpenRun : Type 0 where
  pub es : List Event
  pub sound : AllSound es
  pub is_open : (after example_fresh es).state ≡ Open
  pub just_open : JustOpen (alone (after example_fresh es))
  pub random : List ℕ
  pub d : List ℕ
  pub r : Record
  pub here : Sound (took no_records random d r)
  pub handed : is_data (judged_record (after example_fresh es) no_records random d r).answer ≡ true
  -- sends that are done there, protected
  pub bytes : List ℕ
  pub out : List ℕ
  pub data_done : (data_sent (alone (after example_fresh es)) bytes (length out)).outcome ≡ Ok tt
  pub alert_done : (alert_sent (alone (after example_fresh es)) true 1 0 [] (length out)).outcome ≡ Ok tt
  -- a soundly framed datagram without a genuine record
  pub noise : List ℕ
  pub noise_records : List Record
  pub noise_framed : framing_of noise ≡ framed noise_records
  pub noise_only : NoneGenuine (keys_of (after example_fresh es)) noise
  -- an event that bars
  pub fatal : Event
  pub fatal_sound : Sound fatal
  pub fatal_bars : (next (after example_fresh es) fatal).state ≡ Barred

-- a run of a connection from fresh that is Open, and a unit that reboots there: another hello, change cipher spec, Finished, and data
-- under the new keys (02, P6)
pub record RebootRun : Type 0 where
  pub acts : List Act
  pub sound : SoundActs acts
  pub is_open : (behind (fresh_one example_id example_secret example_width) acts).handshake.state ≡ Open
  pub rebooted : Rebooted step_of example_secret (behind (fresh_one example_id example_secret example_width) acts)
      (session_of example_id example_secret) sha_hello example_random example_out example_data sha_plan

pub record Instances : Type 0 where
  pub hello : heard_of example_hello example_id ≡ Ok example_plan
  pub run : OpenRun
  pub reboot : RebootRun
