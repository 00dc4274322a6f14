-- The reply: its size, and the handshake that it leaves, from its parts.
use mathlib.Core.Path.{◌≡◌, refl, sym, ◌∙◌, ap, ap₂}
use mathlib.Core.Bool.{true, false}
use mathlib.Core.List.{List, ◌++◌, append_assoc}
use Prim.Native.Nat.{ℕ, ◌+◌, ◌-◌, ◌≤◌}
use native.Mathlib.Omega.{arith}
use lib.ListN.{length, take, drop, replicate, length-append, length-replicate}
use lib.Seq.{take_at, drop_at, length-take-le}
use Rattle.digest.specs.Sha1.{sha1}
use Rattle.digest.specs.Hmac.{hmac, key_of, code_under}
use Rattle.digest.specs.Expansion.{prf, expansion, terms, chain}
use Rattle.digest.proofs.Codes.{length_hmac}
use Rattle.digest.specs.declared.key.Key.{Key}
use Rattle.digest.specs.Mac.{size_of, server_expansion}
use Rattle.digest.specs.declared.mac.Mac.{Mac}
use Rattle.record.specs.Keys.{mac_secret}
use Rattle.record.specs.declared.header.Content.TheVariants as C
use Rattle.record.specs.Written.{record_of, written_of}
use Rattle.record.specs.Code.{protected_by}
use Rattle.record.proofs.Fronts.{record_length}
use Rattle.record.proofs.ProtectedBytes.{size_most, protected_key}
use Rattle.message.specs.Change.{change_bytes}
use Rattle.message.specs.Server.{server_hello_of}
use Rattle.message.specs.Finished.{server_verify, client_verify, server_label, finished_of}
use Rattle.message.specs.declared.acceptance.Plan.{Plan}
use Rattle.message.proofs.Replies.{length_server}
use Rattle.connection.specs.Handshake.{planted}
use Rattle.connection.specs.Sent.{sum_of, with_reply}
use Rattle.connection.specs.Reply.{client_random, our_hello, our_finished, expected_of, hello_record, change_record, finished_record, flight_of, flight_with, reply_to, last_of, pad_to, answered_with}
use Rattle.connection.proofs.Sending.{protected_size}
use Rattle.connection.specs.Told.{replied_with}
use Rattle.connection.proofs.Filling.{written_front, written_whole, padded_last}
use Rattle.connection.specs.declared.state.State.TheVariants.{Replied}
use Rattle.connection.specs.declared.handshake.Session.{Session}
use Rattle.connection.specs.declared.sent.SentRecords.{SentRecords}
use Rattle.connection.specs.declared.handshake.Handshake.{Handshake}

pub hello_size_lem : (hello : List ℕ) → length hello ≡ 35 → length (hello_record hello) ≡ 40
unfolding hello_record
hello_size_lem hello l = record_length true false C.Handshake 0 hello ∙ ap (λ n. 5 + n) l

pub change_size : length change_record ≡ 6
unfolding change_record
change_size = record_length true false C.ChangeCipherSpec 1 change_bytes

pub finished_size : (secret server client : List ℕ) (mac : Mac) (ours : List ℕ) → length ours ≡ 15
    → length (finished_record secret server client mac ours) ≡ 18 + size_of mac
unfolding finished_record
finished_size secret server client mac ours l =
    protected_size (mac_secret secret server_expansion 0 server client) mac C.Handshake 0 ours ∙ ap (λ n. 3 + n + size_of mac) l

pub flight_size_lem : (secret server client : List ℕ) (mac : Mac) (hello ours : List ℕ) → length hello ≡ 35 → length ours ≡ 15
    → length (flight_of secret server client mac hello ours) ≡ 64 + size_of mac
unfolding flight_of
flight_size_lem secret server client mac hello ours lh lo =
    let f = finished_record secret server client mac ours in
    length-append (hello_record hello) (change_record ++ f)
    ∙ ap₂ (λ x y. x + y) (hello_size_lem hello lh)
    (length-append change_record f ∙ ap₂ (λ x y. x + y) change_size (finished_size secret server client mac ours lo))
    ∙ omega arith

our_hello_size : (session : Session) (random : List ℕ) (plan : Plan) → length random ≡ 16 → length session.id ≡ 8
    → length (our_hello session random plan) ≡ 35
unfolding our_hello
our_hello_size session random plan lr li = length_server random session.id plan ∙ omega arith

-- twelve bytes of verify data, and a Finished of fifteen
verify_size : (secret label seed : List ℕ) → length (prf secret label seed 12) ≡ 12
unfolding prf expansion terms
verify_size secret label seed =
    length-take-le 12 (hmac secret (chain (hmac secret) (label ++ seed) 1 ++ (label ++ seed)))
    (omega (arith, length_hmac secret (chain (hmac secret) (label ++ seed) 1 ++ (label ++ seed))))

our_finished_size : (session : Session) (random m : List ℕ) (plan : Plan) → length (our_finished session random m plan) ≡ 15
unfolding our_finished server_verify
our_finished_size session random m plan =
    omega (arith, verify_size session.secret server_label (sha1 (m ++ our_hello session random plan)))

-- the reply's size, which the MAC kind alone decides
pub reply_size_lem : (session : Session) (random m : List ℕ) (plan : Plan) → length random ≡ 16 → length session.id ≡ 8
    → length (reply_to session random m plan) ≡ 64 + size_of plan.mac
unfolding reply_to
reply_size_lem session random m plan lr li =
    flight_size_lem session.secret random (client_random m) plan.mac (our_hello session random plan) (our_finished session random m plan)
    (our_hello_size session random plan lr li) (our_finished_size session random m plan)

-- the three records as they are written, each into a room of its own
pub record Flown (secret server client : List ℕ) (mac : Mac) (hello ours first second third : List ℕ) : Type 0 where
  pub first_size : length first ≡ 40
  pub second_size : length second ≡ 6
  pub third_size : length third ≡ 38
  pub joined_is : first ++ (second ++ third) ≡ flight_with secret server client mac hello ours

pub flown_by : (secret server client : List ℕ) (mac : Mac) (hello ours one first second third : List ℕ) (key : Key)
    → length hello ≡ 35 → length ours ≡ 15 → one ≡ change_bytes
    → key ≡ key_of (mac_secret secret server_expansion 0 server client)
    → first ≡ written_of (replicate 40 0) (record_of true false C.Handshake 0 hello)
    → second ≡ written_of (replicate 6 0) (record_of true false C.ChangeCipherSpec 1 one)
    → third ≡ written_of (replicate 38 0) (protected_by (code_under key) (size_of mac) false C.Handshake 0 ours)
    → Flown secret server client mac hello ours first second third
unfolding flight_of hello_record change_record finished_record
flown_by secret server client mac hello ours one first second third key lh lo eo ek e₁ e₂ e₃ =
    let k = mac_secret secret server_expansion 0 server client in
    let r₃ = finished_record secret server client mac ours in
    let s₁ : length (hello_record hello) ≡ 40 = hello_size_lem hello lh in
    let s₃ : length r₃ ≡ 18 + size_of mac = finished_size secret server client mac ours lo in
    let few : length r₃ ≤ 38 = omega (arith, size_most mac) in
    let same = protected_key key k ek (size_of mac) false C.Handshake 0 ours in
    let f₁ : first ≡ hello_record hello = written_whole 40 (hello_record hello) first s₁ e₁ in
    let f₂ : second ≡ change_record = written_whole 6 change_record second change_size (e₂ ∙ ap (λ x. written_of (replicate 6 0) (record_of true false C.ChangeCipherSpec 1 x)) eo) in
    let f₃ : third ≡ pad_to 38 r₃ = written_front 38 r₃ third few (e₃ ∙ ap (written_of (replicate 38 0)) same) in
    let all : first ++ (second ++ third) ≡ pad_to 84 (flight_of secret server client mac hello ours)
    = (λ i. f₁ i ++ (f₂ i ++ f₃ i)) ∙ padded_last (hello_record hello) change_record r₃ s₁ change_size few in
    record {
      first_size = ap length f₁ ∙ s₁;
      second_size = ap length f₂ ∙ change_size;
      third_size = ap length f₃ ∙ length-append r₃ (replicate (38 - length r₃) 0) ∙ ap (λ x. length r₃ + x) (length-replicate {A = ℕ} (38 - length r₃) 0) ∙ whole (length r₃) few;
      joined_is = all;
    }
  where
    whole : (n : ℕ) → n ≤ 38 → n + (38 - n) ≡ 38
    whole n h = omega arith

-- the parts of a new reply, put together
module _ (h : Handshake) (random m : List ℕ) (plan : Plan) where
  pub answered_by : (client hello verify ours expected reply kept : List ℕ) (size : ℕ)
      → client ≡ client_random m → hello ≡ server_hello_of random h.id plan
      → verify ≡ server_verify h.protection.keys.secret m hello → ours ≡ finished_of verify
      → expected ≡ client_verify h.protection.keys.secret m hello ours
      → reply ≡ flight_with h.protection.keys.secret random client plan.mac hello ours
      → kept ≡ pad_to 256 m → size ≡ length (reply_to (planted h) random m plan)
      → ◌≡◌ {A = Handshake} (record {
        state = Replied;
        id = h.id;
        expected = expected;
        kept = record { hello = kept; heard = length m; reply = reply; size = size };
        protection = record {
          keys = record { secret = h.protection.keys.secret; server = random; client = client; mac = plan.mac; refresh = plan.refresh };
          window = h.protection.window;
          protected = 1;
          clear = 2;
        };
      }) (answered_with h random m plan)
  unfolding answered_with reply_to expected_of our_finished our_hello
  answered_by client hello verify ours expected reply kept size ec eh ev eo ee es ek ez =
      let secret = h.protection.keys.secret in
      let ours-is : ours ≡ our_finished (planted h) random m plan = eo ∙ ap finished_of (ev ∙ ap (server_verify secret m) eh) in
      let expected_is : expected ≡ expected_of (planted h) random m plan = ee ∙ ap₂ (client_verify secret m) eh ours-is in
      let reply_is : reply ≡ flight_with secret random (client_random m) plan.mac (our_hello (planted h) random plan) (our_finished (planted h) random m plan)
      = es ∙ (λ i. flight_with secret random (ec i) plan.mac (eh i) (ours-is i)) in
      λ i. record {
        state = Replied;
        id = h.id;
        expected = expected_is i;
        kept = record { hello = ek i; heard = length m; reply = reply_is i; size = ez i };
        protection = record {
          keys = record { secret = h.protection.keys.secret; server = random; client = ec i; mac = plan.mac; refresh = plan.refresh };
          window = h.protection.window;
          protected = 1;
          clear = 2;
        };
      }

-- the three records of a reply, found again in its bytes as they are kept
three_records : (a b c : List ℕ) (sent : SentRecords) → length a ≡ 40 → length b ≡ 6 → length c ≤ 38
    → replied_with sent (pad_to 84 (a ++ (b ++ c))) (length (a ++ (b ++ c))) ≡ with_reply sent (sum_of a) (sum_of b) (sum_of c)
unfolding replied_with
three_records a b c sent la lb lc =
    let z : List ℕ = replicate (38 - length c) 0 in
    let padded : pad_to 84 (a ++ (b ++ c)) ≡ a ++ (b ++ (c ++ z)) = sym (padded_last a b c la lb lc) in
    let size : length (a ++ (b ++ c)) - 46 ≡ length c = omega (arith, length-append a (b ++ c), length-append b c) in
    let first : take 40 (pad_to 84 (a ++ (b ++ c))) ≡ a = ap (take 40) padded ∙ take_at a (b ++ (c ++ z)) 40 la in
    let second : take 6 (drop 40 (pad_to 84 (a ++ (b ++ c)))) ≡ b
    = ap (λ x. take 6 (drop 40 x)) padded ∙ ap (take 6) (drop_at a (b ++ (c ++ z)) 40 la) ∙ take_at b (c ++ z) 6 lb in
    let both : length (a ++ b) ≡ 46 = length-append a b ∙ omega arith in
    let behind : drop 46 (pad_to 84 (a ++ (b ++ c))) ≡ c ++ z
    = ap (drop 46) (padded ∙ sym (append_assoc a b (c ++ z))) ∙ drop_at (a ++ b) (c ++ z) 46 both in
    let third : take (length (a ++ (b ++ c)) - 46) (drop 46 (pad_to 84 (a ++ (b ++ c)))) ≡ c = ap₂ take size behind ∙ take_at c z (length c) refl in
    λ i. with_reply sent (sum_of (first i)) (sum_of (second i)) (sum_of (third i))

-- a new reply adds its three records to those that we sent
pub reply_adds : (session : Session) (random m : List ℕ) (plan : Plan) (sent : SentRecords) → length random ≡ 16 → length session.id ≡ 8
    → replied_with sent (pad_to 84 (reply_to session random m plan)) (length (reply_to session random m plan))
    ≡ with_reply sent (sum_of (hello_record (our_hello session random plan))) (sum_of change_record) (sum_of (last_of session random m plan))
unfolding reply_to flight_of last_of
reply_adds session random m plan sent lr li =
    let last = finished_record session.secret random (client_random m) plan.mac (our_finished session random m plan) in
    let size : length last ≡ 18 + size_of plan.mac
    = finished_size session.secret random (client_random m) plan.mac (our_finished session random m plan) (our_finished_size session random m plan) in
    three_records (hello_record (our_hello session random plan)) change_record last sent
    (hello_size_lem (our_hello session random plan) (our_hello_size session random plan lr li)) change_size (omega (arith, size_most plan.mac))
