-- What became of a short message, in 10 lent bytes. Numbers have the most significant byte first.
--
--     place  bytes
--         0      1  1: it waits for further parts; 2: its datagram stands in the message; 3: its datagram stands in the assembly buffer
--         1      1  of one that waits, its reference; else 0
--         2      1  of one that waits, how many places have come; else 0
--         3      1  of one that waits, the total; else 0
--         4      2  the destination port
--         6      2  the originator port
--         8      2  where in the message the datagram begins; or how many bytes of the assembly buffer it is; else 0
use Rattle.std.specs.Prelude.{List, [], ◌∷◌, ◌++◌, ℕ, ◌%◌, Result, Ok, Err}
use Rattle.digest.specs.Bytes.{bytes2}
use Rattle.gather.specs.declared.header.Ports.{Ports}
use Rattle.gather.specs.declared.refusal.Refusal.{Refusal}
use Rattle.gather.specs.declared.gatherer.Answer.{Answer}
use Rattle.gather.specs.declared.gatherer.Answer.TheVariants as A

abbrev pub said_size : ℕ
said_size = 10

abbrev pub told : List ℕ → Ports → ℕ → List ℕ
told kind ports n = kind ++ bytes2 ports.destination ++ bytes2 ports.originator ++ bytes2 n

-- a refused message leaves them
abbrev pub saying_of : Result Answer Refusal → List ℕ → List ℕ
saying_of (Err refusal) before = before
saying_of (Ok (A.Waiting ports reference have total)) before = told (1 ∷ reference ∷ have % 256 ∷ total ∷ []) ports 0
saying_of (Ok (A.Received ports start)) before = told (2 ∷ 0 ∷ 0 ∷ 0 ∷ []) ports start
saying_of (Ok (A.Gathered ports size)) before = told (3 ∷ 0 ∷ 0 ∷ 0 ∷ []) ports size
