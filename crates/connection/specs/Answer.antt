-- What an answer hands out, and what it sends (01, "Handshake").
use Rattle.std.specs.Prelude.{List, [], ℕ, ◌-◌, length, take, drop, leb}
use Rattle.digest.specs.Pick.{pick}
use Rattle.connection.specs.Refusal.{refusal_number}
use Rattle.connection.specs.declared.answer.Answer.{Answer}
use Rattle.connection.specs.declared.answer.Answer.TheVariants.{Nothing, Reply, Resent, Spec, Open, Again, Data, Warning, Critical, Fatal, Barred, Refused}
use Rattle.connection.specs.declared.answer.Judged.{Judged}
use Rattle.connection.specs.declared.handshake.Handshake.{Handshake}
use Rattle.connection.specs.declared.refusal.Refusal.{Refusal}

-- the bytes of a datagram from a place on, as many as said; none where they are not all there
abbrev pub part_at : List ℕ → ℕ → ℕ → List ℕ
part_at d start size = pick (leb start (length d)) (pick (leb size (length d - start)) (take size (drop start d)) []) []

-- "handed out, as a part of the datagram"
abbrev pub handed_of : List ℕ → Answer → List ℕ
handed_of d Nothing = []
handed_of d (Reply size) = []
handed_of d (Resent size) = []
handed_of d Spec = []
handed_of d Open = []
handed_of d Again = []
handed_of d (Data number start size) = part_at d start size
handed_of d (Warning description) = []
handed_of d (Critical description) = []
handed_of d (Fatal description) = []
handed_of d (Barred description) = []
handed_of d (Refused refusal) = []

-- how many bytes of the kept reply an answer sends
abbrev pub reply_size : Answer → ℕ
reply_size Nothing = 0
reply_size (Reply size) = size
reply_size (Resent size) = size
reply_size Spec = 0
reply_size Open = 0
reply_size Again = 0
reply_size (Data number start size) = 0
reply_size (Warning description) = 0
reply_size (Critical description) = 0
reply_size (Fatal description) = 0
reply_size (Barred description) = 0
reply_size (Refused refusal) = 0

-- the number of the refusal that an answer is (01, "Refusal numbers"); 0 where it is none
abbrev pub answer_number : Answer → ℕ
answer_number Nothing = 0
answer_number (Reply size) = 0
answer_number (Resent size) = 0
answer_number Spec = 0
answer_number Open = 0
answer_number Again = 0
answer_number (Data number start size) = 0
answer_number (Warning description) = 0
answer_number (Critical description) = 0
answer_number (Fatal description) = 0
answer_number (Barred description) = 0
answer_number (Refused refusal) = refusal_number refusal

-- the level of the alert that was heard (01, "Alerts": "warning 1, critical 2, fatal 3"); 0 where none was
abbrev pub answer_level : Answer → ℕ
answer_level Nothing = 0
answer_level (Reply size) = 0
answer_level (Resent size) = 0
answer_level Spec = 0
answer_level Open = 0
answer_level Again = 0
answer_level (Data number start size) = 0
answer_level (Warning description) = 1
answer_level (Critical description) = 2
answer_level (Fatal description) = 3
answer_level (Barred description) = 3
answer_level (Refused refusal) = 0

-- an answer beside the handshake that it leaves
abbrev pub judged : Answer → Handshake → Judged
judged answer h = record { answer = answer; handshake = h }

-- "A refusal changes neither buffer nor connection"
abbrev pub refusing : Refusal → Handshake → Judged
refusing refusal h = judged (Refused refusal) h
