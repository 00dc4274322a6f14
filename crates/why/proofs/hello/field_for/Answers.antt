-- `hello::field_for`: condition by condition.
use mathlib.Core.Path.{refl}
use Rattle.why.proofs.hello.field_for.Goals as goal

pub returns-in-Version : goal.returns-in-Version
returns-in-Version c = rw c.in-Version.is refl

pub returns-in-SessionId : goal.returns-in-SessionId
returns-in-SessionId c = rw c.in-SessionId.is refl

pub returns-in-CipherSuite : goal.returns-in-CipherSuite
returns-in-CipherSuite c = rw c.in-CipherSuite.is refl

pub returns-in-Compression : goal.returns-in-Compression
returns-in-Compression c = rw c.in-Compression.is refl

pub returns-in-Numbering : goal.returns-in-Numbering
returns-in-Numbering c = rw c.in-Numbering.is refl
