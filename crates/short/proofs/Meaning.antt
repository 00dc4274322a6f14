-- What a message leaves, by its answer (02, P2), each from the definition alone.
use mathlib.Core.Path.{refl}
use mathlib.Core.List.{List}
use Prim.Native.Nat.{ℕ}
use lib.ListN.{length}
use Rattle.gather.specs.Gatherer.{Left}
use Rattle.gather.specs.declared.gatherer.Gatherer.{Gatherer}
use Rattle.connection.specs.declared.connection.Connection.{Connection}
use Rattle.short.specs.Message.{taken_of, heard_of, gathered_of, message_of}
use Rattle.short.specs.Meaning.{Alone, Quiet, ByReceive, LentWrong}

module _ (c : Connection) (g : Gatherer) (store message assembly random out : List ℕ) where
  abbrev l : Left
  l = gathered_of g store message assembly random (length out)

  -- the gathering never looks at the connection
  pub alone : Alone c g store message assembly random out
  unfolding message_of taken_of
  alone = (refl, (refl, (refl, refl)))

  -- no datagram: the connection and the output are left alone
  pub quiet : Quiet c g store message assembly random out
  unfolding message_of taken_of heard_of
  quiet h = rw h (refl, (refl, refl))

  -- one is shown: what receive gives of it, and writes
  pub by_receive : ByReceive c g store message assembly random out
  unfolding message_of taken_of heard_of
  by_receive h = rw h (refl, refl)

  -- 16 for the random and 6 for the output leave the gathering, the connection and every byte
  pub lent_wrong : LentWrong c g store message assembly random out
  unfolding message_of gathered_of taken_of heard_of
  lent_wrong = (λ h. rw h refl, λ h k m. rw (h, k, m) refl)
