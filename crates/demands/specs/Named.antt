-- 02, P5: the premises of `Why` are met. Behind these runs from fresh the tool names these reasons, with these facts.
use Rattle.std.specs.Prelude.{◌≡◌, List, ℕ, length}
use Rattle.message.specs.declared.acceptance.Condition.TheVariants as N
use Rattle.connection.specs.Connection.{alone}
use Rattle.why.specs.Why.{why_of}
use Rattle.why.specs.declared.reason.Reason.{Reason}
use Rattle.why.specs.declared.reason.Reason.TheVariants as R
use Rattle.why.specs.declared.reason.Under.TheVariants as U
use Rattle.demands.specs.Events.{Event, AllSound, after}
use Rattle.demands.specs.Instances.{example_fresh}

-- of the record at the front of a datagram, by the list of April 2001
pub record Named (reason : Reason) : Type 0 where
  pub es : List Event
  pub sound : AllSound es
  pub d : List ℕ
  pub random : List ℕ
  pub sixteen : length random ≡ 16
  pub named : (why_of 2 (alone (after example_fresh es)) d random 0).reason ≡ reason

pub record NamedCases : Type 0 where
  -- no byte
  pub empty : Named (R.Size 0)
  -- a hello of version 2, which is the byte behind three of the record's header and three of the message's
  pub version : Named (R.Unacceptable N.Version 6 1)
  -- number 7 where 80 was accepted, at a width of 64; and number 7 again, whose mark is the lowest
  pub too_old : Named (R.TooOld U.Open 7 80 16)
  pub repeated : Named (R.Repeated U.Open 7 7 0)
