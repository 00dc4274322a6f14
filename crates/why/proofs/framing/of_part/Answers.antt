-- `framing::of_part`: fault by fault.
use mathlib.Core.Path.{refl, ◌∙◌, ap, ap₂}
use Prim.Native.Nat.{◌-◌}
use lib.ListN.{length}
use Rattle.record.specs.Header.{kind_of}
use Rattle.record.specs.Reader.{head_of, size_of}
use Rattle.why.specs.declared.reason.Reason.TheVariants.{Header, TypeByte, Fragment}
use Rattle.why.proofs.framing.of_part.Goals as goal

pub returns-in-Size : goal.returns-in-Size
returns-in-Size c = rw c.in-Size.is refl

pub returns-in-Header : goal.returns-in-Header
returns-in-Header c = let args = c.args in
    let kind = (c.split-kind.ensures ∙ ap kind_of c.byte_at-byte.ensures) in
    rw c.in-Header.is (ap (Header args.at (length args.part.now)) (c.head_of.ensures ∙ ap head_of kind))

pub returns-in-Kind : goal.returns-in-Kind
returns-in-Kind c = rw c.in-Kind.is (ap (TypeByte c.args.at) c.byte_at-byte.ensures)

pub returns-in-Fragment : goal.returns-in-Fragment
returns-in-Fragment c = let args = c.args in
    let kind = (c.split-kind.ensures ∙ ap kind_of c.byte_at-byte.ensures) in
    let size = c.stated.ensures ∙ ap (size_of args.part.now) kind in
    let left = c.less.ensures ∙ ap (λ x. length args.part.now - x) (c.head_of-in-Fragment.ensures ∙ ap head_of kind) in
    rw c.in-Fragment.is (ap₂ (Fragment args.at) size left)

pub returns-in-Ninth : goal.returns-in-Ninth
returns-in-Ninth c = rw c.in-Ninth.is refl
