-- `contents::first_of`: content by content.
use mathlib.Core.Path.{refl}
use borrow.Author.Tests.{le-leb, lt-leb}
use Rattle.digest.proofs.Picks.{pick_yes, pick_no, if_eq, if_ne}
use lib.ListN.{length}
use Rattle.why.specs.Contents.{first_of}
use Rattle.why.proofs.contents.first_of.Goals as goal

pub returns-then-m-eq1 : goal.returns-then-m-eq1
unfolding first_of
returns-then-m-eq1 c = rw c.in-ChangeCipherSpec.is (if_eq _ (length c.args.m.now) 1 c.if-m-eq1.true c.byte_at.ensures)

pub returns-then-m-eq6 : goal.returns-then-m-eq6
unfolding first_of
returns-then-m-eq6 c = rw c.in-Alert.is (if_eq _ (length c.args.m.now) 6 c.if-m-eq6.true c.byte_at-then-m-eq6.ensures)

pub returns-then-m-lt3 : goal.returns-then-m-lt3
unfolding first_of
returns-then-m-lt3 c = rw c.in-Handshake.is (pick_no _ _ _ _ _ (lt-leb 3 (length c.args.m.now) c.if-m-lt3.true) refl)

pub returns-else-m-eq1 : goal.returns-else-m-eq1
unfolding first_of
returns-else-m-eq1 c = rw c.in-ChangeCipherSpec.is (if_ne _ (length c.args.m.now) 1 c.if-m-eq1.false refl)

pub returns-else-m-eq6 : goal.returns-else-m-eq6
unfolding first_of
returns-else-m-eq6 c = rw c.in-Alert.is (if_ne _ (length c.args.m.now) 6 c.if-m-eq6.false refl)

pub returns-else-m-lt3 : goal.returns-else-m-lt3
unfolding first_of
returns-else-m-lt3 c = rw c.in-Handshake.is (pick_yes _ _ _ _ _ (le-leb 3 (length c.args.m.now) c.if-m-lt3.false) c.byte_at-in-Handshake.ensures)

pub returns-in-Data : goal.returns-in-Data
unfolding first_of
returns-in-Data c = rw c.in-Data.is refl
