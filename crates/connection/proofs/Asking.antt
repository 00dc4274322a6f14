-- Whom a record is asked of, and where the handshake that was asked goes.
use mathlib.Core.Path.{◌≡◌, refl, sym, ◌∙◌, ap, ap₂}
use mathlib.Core.Bool.{Bool, true, false}
use mathlib.Core.List.{List}
use Prim.Native.Nat.{ℕ}
use lib.ListN.{get_or}
use Rattle.record.specs.declared.reader.Record.{Record}
use Rattle.connection.specs.State.{kind_of}
use Rattle.connection.specs.Judge.{fragment_of, kind_in, judged_record}
use Rattle.connection.specs.Clear.{is_kept}
use Rattle.connection.specs.Asked.{under_way, hello_to, greeting_to, open_to, whom_in, whom_of, asked_of}
use Rattle.connection.specs.Told.{left_with, left_by, sent_after, place_of, placed_by, is_beside, judged_in, told_by, told_record}
use Rattle.connection.specs.declared.state.State.{State}
use Rattle.connection.specs.declared.state.State.TheVariants as S
use Rattle.connection.specs.declared.state.Kind.{Kind}
use Rattle.connection.specs.declared.asked.Whom.{Whom}
use Rattle.connection.specs.declared.asked.Whom.TheVariants as A
use Rattle.connection.specs.declared.answer.Judged.{Judged}
use Rattle.connection.specs.declared.sent.SentRecords.{SentRecords}
use Rattle.connection.specs.declared.handshake.Handshake.{Handshake}
use Rattle.connection.specs.declared.connection.Connection.{Connection}
use Rattle.connection.specs.declared.told.Told.{Told}
use Rattle.connection.specs.declared.told.Place.{Place}

-- a hello while one is started: its own, or not
pub own_hello : (c : Connection) (m : List ℕ) → under_way c.started.state ≡ true → is_kept c.started.kept m ≡ true → A.Started ≡ greeting_to c m
own_hello c m u k = rw (u, k) refl

pub other_hello : (c : Connection) (m : List ℕ) (w : Whom) → under_way c.started.state ≡ true → is_kept c.started.kept m ≡ false
    → w ≡ hello_to c m → w ≡ greeting_to c m
other_hello c m w u k e = rw (u, k) e

-- in Open, from what the fragment is
pub asked_as : (c : Connection) (d : List ℕ) (r : Record) (f : List ℕ) (kind : Kind) (w : Whom) → c.handshake.state ≡ S.Open
    → f ≡ fragment_of d r → kind ≡ kind_of r.content r.protected (get_or f 0 0) → w ≡ open_to c r f kind → w ≡ whom_of c d r
unfolding whom_of
asked_as c d r f kind w is_open ef ek ew =
    let kind-is : kind ≡ kind_in d r = ek ∙ ap (λ x. kind_of r.content r.protected (get_or x 0 0)) ef in
    ew ∙ ap₂ (open_to c r) ef kind-is ∙ sym (ap (whom_in c d r) is_open)

-- the place of the handshake that was asked is where the definition puts it
placed_by_lem : (c : Connection) (h : Handshake) (sent : SentRecords) (whom : Whom) (state : State) → h.state ≡ state
    → placed_by c h sent (place_of whom state) ≡ left_with c h sent whom
placed_by_lem c h sent A.Only state e = refl
placed_by_lem c h sent A.Open S.Idle e = rw e refl
placed_by_lem c h sent A.Open S.Replied e = rw e refl
placed_by_lem c h sent A.Open S.Spec e = rw e refl
placed_by_lem c h sent A.Open S.Open e = rw e refl
placed_by_lem c h sent A.Open S.Closed e = rw e refl
placed_by_lem c h sent A.Open S.Barred e = rw e refl
placed_by_lem c h sent A.Started S.Idle e = rw e refl
placed_by_lem c h sent A.Started S.Replied e = rw e refl
placed_by_lem c h sent A.Started S.Spec e = rw e refl
placed_by_lem c h sent A.Started S.Open e = rw e refl
placed_by_lem c h sent A.Started S.Closed e = rw e refl
placed_by_lem c h sent A.Started S.Barred e = rw e refl
placed_by_lem c h sent A.Newcomer S.Idle e = rw e refl
placed_by_lem c h sent A.Newcomer S.Replied e = rw e refl
placed_by_lem c h sent A.Newcomer S.Spec e = rw e refl
placed_by_lem c h sent A.Newcomer S.Open e = rw e refl
placed_by_lem c h sent A.Newcomer S.Closed e = rw e refl
placed_by_lem c h sent A.Newcomer S.Barred e = rw e refl

pub left_placed : (c : Connection) (h : Handshake) (sent : SentRecords) (whom : Whom)
    → placed_by c h sent (place_of whom h.state) ≡ left_with c h sent whom
left_placed c h sent whom = placed_by_lem c h sent whom h.state refl

-- a record, from the parts
pub told_as : (c : Connection) (random d : List ℕ) (r : Record) (whom : Whom) (asked : Handshake) (j : Judged) (place : Place)
    (sent : SentRecords) (left : Connection) (beside : Bool) → whom ≡ whom_of c d r → asked ≡ asked_of c whom
    → j ≡ judged_record asked c.sent random d r → place ≡ place_of whom j.handshake.state
    → sent ≡ sent_after c.sent j.handshake.kept j.answer → left ≡ placed_by c j.handshake sent place → beside ≡ is_beside whom
    → ◌≡◌ {A = Told} (record { answer = j.answer; connection = left; beside = beside }) (told_record c random d r)
unfolding told_record judged_in
told_as c random d r whom asked j place sent left beside ew ea ej ep es el eb =
    let judged : j ≡ judged_in c random d r = ej ∙ ap (λ h. judged_record h c.sent random d r) (ea ∙ ap (asked_of c) ew) in
    let placed : left ≡ left_by c whom j = el ∙ ap₂ (placed_by c j.handshake) es ep ∙ left_placed c j.handshake (sent_after c.sent j.handshake.kept j.answer) whom in
    let made : ◌≡◌ {A = Told} (record { answer = j.answer; connection = left; beside = beside }) (told_by c whom j)
    = λ i. record { answer = j.answer; connection = placed i; beside = eb i } in
    made ∙ ap₂ (told_by c) ew judged
