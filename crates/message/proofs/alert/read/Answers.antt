-- `message::alert::read` meets its contract: each return is a case of `alert_of`. Assumes nothing.
use Rattle.std.proofs.Common.{◌≡◌, refl, sym, arith, length}
use Rattle.digest.proofs.Picks.{if_eq}
use Rattle.message.specs.Alert.{alert_of}
use Rattle.digest.specs.Bytes.{word_at}
use Rattle.message.proofs.alert.read.Goals as goal

pub returns : goal.returns
unfolding alert_of word_at
returns c =
    let e : c.from_be_bytes-checksum.result ≡ word_at c.args.s.now 2 = omega (arith, c.from_be_bytes-checksum.ensures) in
    rw (sym c.in_ok-level.ensures, sym c.in_ok-description.ensures, e) (if_eq _ (length c.args.s.now) 6 (omega arith) refl)
