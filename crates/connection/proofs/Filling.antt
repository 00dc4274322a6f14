-- Arrays filled from the front, and the rule of a record.
use mathlib.Core.Path.{◌≡◌, sym, ◌∙◌, ap, ap₂}
use mathlib.Core.List.{List, ◌++◌, append-nil, append_assoc}
use Prim.Native.Nat.{ℕ, ◌+◌, ◌-◌, ◌≤◌}
use native.Mathlib.Omega.{arith}
use lib.ListN.{length, drop, get_or, replicate, length-replicate, length-append}
use mathlib.Core.Bool.{true}
use lib.Dec.{leb}
use borrow.Author.Tests.{le-leb}
use Rattle.digest.specs.Bytes.{laid_over, laid_within}
use Rattle.digest.proofs.Codes.{laid_zeros}
use Rattle.digest.proofs.Lay.{length_laid}
use Rattle.record.specs.Written.{written_of, count_of}
use Rattle.record.proofs.Fronts.{laid_next}
use Rattle.message.specs.Buffer.{over, fitting}
use Rattle.message.specs.Server.{server_hello_of, reply_of}
use Rattle.message.proofs.Replies.{reply_hello, length_server}
use Rattle.message.specs.declared.acceptance.Plan.{Plan}
use Rattle.record.specs.declared.reader.Record.{Record}
use Rattle.connection.specs.Reply.{pad_to}
use Rattle.connection.specs.State.{kind_of, rule_of}
use Rattle.connection.specs.Judge.{judged_record, ruled_by, fragment_of, kind_in}
use Rattle.connection.specs.declared.state.Kind.{Kind}
use Rattle.connection.specs.declared.state.Rule.{Rule}
use Rattle.connection.specs.declared.answer.Judged.{Judged}
use Rattle.connection.specs.declared.sent.SentRecords.{SentRecords}
use Rattle.connection.specs.declared.handshake.Handshake.{Handshake}

pub filled : (n : ℕ) (s d : List ℕ) → length s ≤ n → d ≡ laid_within (replicate n 0) 0 s → d ≡ pad_to n s
unfolding laid_within
filled n s d h e =
    let fits : leb (0 + length s) (length {A = ℕ} (replicate n 0)) ≡ true = le-leb (0 + length s) (length {A = ℕ} (replicate n 0)) (omega (arith, length-replicate {A = ℕ} n 0)) in
    e ∙ rw fits (laid_zeros n s h)

pub filled_whole : (n : ℕ) (s d : List ℕ) → length s ≡ n → d ≡ laid_within (replicate n 0) 0 s → d ≡ s
filled_whole n s d l e =
    let none : n - length s ≡ 0 = omega arith in
    filled n s d (omega arith) e ∙ ap (λ k. s ++ replicate k 0) none ∙ append-nil s

-- a ServerHello in a room of its own size
pub hello_whole : (random id : List ℕ) (plan : Plan) (d : List ℕ) → length random ≡ 16 → length id ≡ 8
    → d ≡ over (replicate 35 0) (fitting (length {A = ℕ} (replicate 35 0)) (reply_of random id plan)) → d ≡ server_hello_of random id plan
hello_whole random id plan d lr li e =
    let p = server_hello_of random id plan in
    let size : length p ≡ 35 = length_server random id plan ∙ omega arith in
    let is : reply_of random id plan ≡ p = reply_hello random id plan lr (omega arith) in
    let fits : leb (length p) 35 ≡ true = le-leb (length p) 35 (omega arith) in
    e ∙ ap (λ x. over (replicate 35 0) (fitting 35 x)) is ∙ rw fits (ap (λ n. p ++ drop n (replicate 35 0)) size ∙ append-nil p)

-- the rule of a record, from what its fragment is
pub ruled_as : (h : Handshake) (sent : SentRecords) (random d : List ℕ) (r : Record) (f : List ℕ) (kind : Kind) (rule : Rule) (j : Judged)
    → f ≡ fragment_of d r → kind ≡ kind_of r.content r.protected (get_or f 0 0) → rule ≡ rule_of h.state kind
    → j ≡ ruled_by h sent random rule kind r f → j ≡ judged_record h sent random d r
unfolding judged_record
ruled_as h sent random d r f kind rule j ef ek er ej =
    let kind-is : kind ≡ kind_in d r = ek ∙ ap (λ x. kind_of r.content r.protected (get_or x 0 0)) ef in
    let rule-is : rule ≡ rule_of h.state (kind_in d r) = er ∙ ap (rule_of h.state) kind-is in
    ej ∙ (λ i. ruled_by h sent random (rule-is i) (kind-is i) r (ef i))

-- a record written into a room of zeros
pub written_front : (n : ℕ) (bytes d : List ℕ) → length bytes ≤ n → d ≡ written_of (replicate n 0) bytes → d ≡ pad_to n bytes
unfolding written_of
written_front n bytes d h e =
    let fits : leb (length bytes) (length {A = ℕ} (replicate n 0)) ≡ true = le-leb (length bytes) (length {A = ℕ} (replicate n 0)) (omega (arith, length-replicate {A = ℕ} n 0)) in
    e ∙ rw fits (laid_zeros n bytes h)

pub written_whole : (n : ℕ) (bytes d : List ℕ) → length bytes ≡ n → d ≡ written_of (replicate n 0) bytes → d ≡ bytes
written_whole n bytes d l e =
    let none : n - length bytes ≡ 0 = omega arith in
    written_front n bytes d (omega arith) e ∙ ap (λ k. bytes ++ replicate k 0) none ∙ append-nil bytes

pub counted_front : (n : ℕ) (bytes : List ℕ) (k : ℕ) → length bytes ≤ n → k ≡ count_of (replicate n 0) bytes → k ≡ length bytes
unfolding count_of
counted_front n bytes k h e =
    let fits : leb (length bytes) (length {A = ℕ} (replicate n 0)) ≡ true = le-leb (length bytes) (length {A = ℕ} (replicate n 0)) (omega (arith, length-replicate {A = ℕ} n 0)) in
    e ∙ rw fits

-- bytes that fit are laid
pub within : (d : List ℕ) (at : ℕ) (s r : List ℕ) → at + length s ≤ length d → r ≡ laid_within d at s → r ≡ laid_over d at s
unfolding laid_within
within d at s r h e = e ∙ rw (le-leb (at + length s) (length d) h)

-- three pieces that fill a room
pub three_laid : (a b c d₁ d₂ d₃ : List ℕ) → length a ≡ 40 → length b ≡ 6 → length c ≡ 38
    → d₁ ≡ laid_within (replicate 84 0) 0 a → d₂ ≡ laid_within d₁ 40 b → d₃ ≡ laid_within d₂ 46 c → d₃ ≡ a ++ (b ++ c)
three_laid a b c d₁ d₂ d₃ la lb lc e₁ e₂ e₃ =
    let z : List ℕ = replicate 84 0 in
    let room : length {A = ℕ} z ≡ 84 = length-replicate {A = ℕ} 84 0 in
    let f₁ : d₁ ≡ laid_over z 0 a = within z 0 a d₁ (omega arith) e₁ in
    let s₁ : length d₁ ≡ 84 = ap length f₁ ∙ length_laid z 0 a (omega arith) ∙ room in
    let f₂ : d₂ ≡ laid_over z 0 (a ++ b)
    = within d₁ 40 b d₂ (omega arith) e₂ ∙ ap₂ (λ x n. laid_over x n b) f₁ (sym la) ∙ laid_next z a b in
    let lab : length (a ++ b) ≡ 46 = length-append a b ∙ omega arith in
    let s₂ : length d₂ ≡ 84 = ap length f₂ ∙ length_laid z 0 (a ++ b) (omega arith) ∙ room in
    let all : length (a ++ b ++ c) ≡ 84 = length-append (a ++ b) c ∙ omega arith in
    within d₂ 46 c d₃ (omega arith) e₃
    ∙ ap₂ (λ x n. laid_over x n c) f₂ (sym lab)
    ∙ laid_next z (a ++ b) c
    ∙ laid_zeros 84 (a ++ b ++ c) (omega arith)
    ∙ ap (λ n. (a ++ b ++ c) ++ replicate (84 - n) 0) all
    ∙ append-nil (a ++ b ++ c)
    ∙ append_assoc a b c

-- zeros behind the last of three records are zeros behind all
pub padded_last : (a b c : List ℕ) → length a ≡ 40 → length b ≡ 6 → length c ≤ 38 → a ++ (b ++ pad_to 38 c) ≡ pad_to 84 (a ++ (b ++ c))
padded_last a b c la lb lc =
    let same : 38 - length c ≡ 84 - length (a ++ (b ++ c)) = omega (arith, length-append a (b ++ c), length-append b c) in
    ap (λ n. a ++ (b ++ (c ++ replicate n 0))) same ∙ simp append_assoc
