-- What is written of a reply. 01: "Idle | clear ClientHello | reply", "Replied, Spec | the same ClientHello message |
-- the same reply bytes", "A success writes the counted bytes at the front and no others."
use Rattle.std.specs.Prelude.{◌≡◌, List, [], ◌∷◌, ℕ, ◌≤◌, length, Ok}
use Rattle.digest.specs.Bytes.{laid_over}
use Rattle.record.specs.Datagram.{framed, framing_of}
use Rattle.record.specs.declared.reader.Record.{Record}
use Rattle.message.specs.Acceptance.{heard_of}
use Rattle.message.specs.declared.acceptance.Plan.{Plan}
use Rattle.connection.specs.Calls.{session_of}
use Rattle.connection.specs.Judge.{fragment_of}
use Rattle.connection.specs.Asked.{whom_of}
use Rattle.connection.specs.Told.{told_record}
use Rattle.connection.specs.Reply.{reply_to}
use Rattle.connection.specs.declared.answer.Answer.{Answer}
use Rattle.connection.specs.declared.answer.Answer.TheVariants.{Nothing, Reply, Resent, Spec, Open, Again, Data, Warning, Critical, Fatal, Barred, Refused}
use Rattle.connection.specs.declared.handshake.Session.{Session}
use Rattle.record.specs.Window.{Held}
use Rattle.demands.specs.Runs.{receive, step_of, fresh_with, fresh_one}
use Rattle.demands.specs.Events.{Happened, history}
use Rattle.demands.specs.Acts.{Act, behind}
use Rattle.demands.specs.Lives.{no_lives, lives_of, life_of}
use Rattle.demands.specs.Past.{kept_greeting, reply_for}
use Rattle.demands.specs.Refusals.{written_by}

-- The bytes that the first record of a datagram sends, by its answer: a new reply, of this session to this hello with
-- the random that was lent; the same reply again, to the hello that was answered then, with our random of then; else
-- none.
abbrev pub Sends : Session → List Happened → List ℕ → List ℕ → List ℕ → Answer → Type 0
Sends session past random m bytes Nothing = bytes ≡ []
Sends session past random m bytes (Reply size) =
    (plan : Plan) × (heard_of m session.id ≡ Ok plan) × (bytes ≡ reply_to session random m plan)
    × (length bytes ≡ size)
Sends session past random m bytes (Resent size) = (bytes ≡ reply_for session (kept_greeting past)) × (length bytes ≡ size)
Sends session past random m bytes Spec = bytes ≡ []
Sends session past random m bytes Open = bytes ≡ []
Sends session past random m bytes Again = bytes ≡ []
Sends session past random m bytes (Data number start size) = bytes ≡ []
Sends session past random m bytes (Warning description) = bytes ≡ []
Sends session past random m bytes (Critical description) = bytes ≡ []
Sends session past random m bytes (Fatal description) = bytes ≡ []
Sends session past random m bytes (Barred description) = bytes ≡ []
Sends session past random m bytes (Refused refusal) = bytes ≡ []

-- in any run from fresh, what a receive writes, by the life of the handshake that is asked
unfoldable pub RepliesRight : Type 0
RepliesRight =
    (id secret : List ℕ) (width : ℕ) → Held width → (acts : List Act) (d random out : List ℕ) (r : Record) (rs : List Record)
    → length random ≡ 16 → 128 ≤ length out
    → framing_of d ≡ framed (r ∷ rs)
    → let c = behind (fresh_one id secret width) acts in
    let l = lives_of (fresh_one id secret width) no_lives acts in
    let past = history (fresh_with id secret width) (life_of l (whom_of c d r)) [] in
    (bytes : List ℕ) × Sends (session_of id secret) past random (fragment_of d r) bytes (told_record c random d r).answer
    × ((step_of c (receive d random out)).output ≡ laid_over out 0 bytes)
    × (written_by (step_of c (receive d random out)).result ≡ length bytes)
