-- The worked handshake meets the premises of the statements: its hello is accepted, and the run of its first three datagrams from fresh is
-- Open.
use mathlib.Core.Path.{◌≡◌, refl, sym, ◌∙◌, ap}
use mathlib.Core.List.{List, [], ◌∷◌}
use Prim.Native.Nat.{ℕ}
use native.Mathlib.Omega.{arith}
use lib.ListN.{length}
use lib.Dec.{lit≤}
use Rattle.digest.specs.Mac.{listed_as, same_bytes}
use Rattle.digest.specs.declared.mac.Mac.TheVariants.{Sha80, Sha}
use Rattle.record.specs.Datagram.{framed, framing_of}
use Rattle.record.specs.declared.reader.Record.{Record}
use Rattle.message.specs.Field.{field_end, short_end, long_end}
use Rattle.message.specs.Handshake.{fills}
use Rattle.message.specs.Keys.{specifier_end, identifier_end, entry_end, entries_from, key_list, keys_end}
use Rattle.message.specs.Hello.{suites_end, walk_on, read_of}
use Rattle.message.specs.Acceptance.{fits_pair, first_fit, has_null, accepted_of, heard_of}
use Rattle.connection.specs.Judge.{judged_record}
use Rattle.connection.specs.declared.state.State.TheVariants.{Idle, Replied, Spec, Open}
use Rattle.demands.specs.Genuine.{RecordOf}
use Rattle.demands.specs.Events.{Event, took, AllSound, after}
use Rattle.record.specs.Window.{Held}
use Rattle.demands.specs.Runs.{fresh_with}
use Rattle.demands.specs.Example.{example_id, example_secret, example_width, example_hello, sha_hello, example_random, example_plan, sha_plan, example_out, example_data}
use Rattle.demands.proofs.Table.{row_is}
use Rattle.demands.proofs.Works.{Walk, walk, walk_mac, walk_refresh, walk_clear, walk_hello}
use Rattle.connection.specs.Sent.{no_records}
use Rattle.connection.specs.Handshake.{none_started}
use Rattle.connection.specs.Connection.{connection_of}
use Rattle.connection.specs.Told.{sent_after}
use Rattle.connection.specs.declared.answer.Answer.TheVariants.{Reply}
use Rattle.connection.specs.declared.sent.SentRecords.{SentRecords}
use Rattle.demands.specs.Asked.{tells, asks_only, left_only}
use Rattle.demands.specs.Acts.{Act, comes, SoundActs, behind}
use Rattle.demands.specs.Runs.{fresh_one}
use Rattle.demands.proofs.Asked.{tells_is}
use Rattle.std.specs.Prelude.{Ok}

pub example_heard : heard_of example_hello example_id ≡ Ok example_plan
unfolding heard_of accepted_of has_null first_fit fits_pair read_of walk_on suites_end keys_end key_list entries_from entry_end identifier_end specifier_end fills long_end short_end field_end listed_as same_bytes
example_heard = refl

pub example_held : Held example_width
example_held = (lit≤ tt, lit≤ tt)

pub sha_heard : heard_of sha_hello example_id ≡ Ok sha_plan
unfolding heard_of accepted_of has_null first_fit fits_pair read_of walk_on suites_end keys_end key_list entries_from entry_end identifier_end specifier_end fills long_end short_end field_end listed_as same_bytes
sha_heard = refl

pub example_walk : Walk example_id example_secret example_width example_random example_data
example_walk =
    walk example_id example_secret example_width example_held example_hello example_random example_out example_data example_plan refl (lit≤ tt) example_heard (lit≤ tt) (lit≤ tt)

pub sha_walk : Walk example_id example_secret example_width example_random example_data
sha_walk =
    walk example_id example_secret example_width example_held sha_hello example_random example_out example_data sha_plan refl (lit≤ tt) sha_heard (lit≤ tt) (lit≤ tt)

pub example_mac : example_walk.h₃.protection.keys.mac ≡ Sha80
unfolding example_walk
example_mac = walk_mac example_id example_secret example_width example_held example_hello example_random example_out example_data example_plan refl (lit≤ tt) example_heard (lit≤ tt) (lit≤ tt)

pub sha_mac : sha_walk.h₃.protection.keys.mac ≡ Sha
unfolding sha_walk
sha_mac = walk_mac example_id example_secret example_width example_held sha_hello example_random example_out example_data sha_plan refl (lit≤ tt) sha_heard (lit≤ tt) (lit≤ tt)

pub example_refresh : example_walk.h₃.protection.keys.refresh ≡ 3
unfolding example_walk
example_refresh = walk_refresh example_id example_secret example_width example_held example_hello example_random example_out example_data example_plan refl (lit≤ tt) example_heard (lit≤ tt) (lit≤ tt)

pub example_clear : example_walk.h₁.protection.clear ≡ 2
unfolding example_walk
example_clear = walk_clear example_id example_secret example_width example_held example_hello example_random example_out example_data example_plan refl (lit≤ tt) example_heard (lit≤ tt) (lit≤ tt)

pub example_greeted : example_walk.greeted ≡ example_hello
unfolding example_walk
example_greeted = walk_hello example_id example_secret example_width example_held example_hello example_random example_out example_data example_plan refl (lit≤ tt) example_heard (lit≤ tt) (lit≤ tt)

-- a walk as events: the first three from fresh are Open, and the fourth is data
module _ (id secret random bytes : List ℕ) (lr : length random ≡ 16) {width : ℕ} (w : Walk id secret width random bytes) where
  pub in_one : (d : List ℕ) (r : Record) → framing_of d ≡ framed (r ∷ []) → RecordOf d r
  in_one d r f = record { before = []; behind = []; framing = f }

  pub opening : List Event
  opening = took no_records random w.d₁ w.r₁ ∷ took no_records random w.d₂ w.r₂ ∷ took no_records random w.d₃ w.r₃ ∷ []

  pub opening_sound : AllSound opening
  unfolding opening
  opening_sound =
      ((lr, in_one w.d₁ w.r₁ w.framed₁), ((lr, in_one w.d₂ w.r₂ w.framed₂), ((lr, in_one w.d₃ w.r₃ w.framed₃), tt)))

  pub opening_leaves : after (fresh_with id secret width) opening ≡ w.h₃
  unfolding opening after
  opening_leaves =
      ap (λ x. (judged_record (judged_record x.handshake no_records random w.d₂ w.r₂).handshake no_records random w.d₃ w.r₃).handshake) (row_is (fresh_with id secret width) no_records random w.d₁ w.r₁ (w.row₁ no_records))
      ∙ ap (λ x. (judged_record x.handshake no_records random w.d₃ w.r₃).handshake) (row_is w.h₁ no_records random w.d₂ w.r₂ (w.row₂ no_records))
      ∙ ap (λ x. x.handshake) (row_is w.h₂ no_records random w.d₃ w.r₃ (w.row₃ no_records))

  pub opening_open : (after (fresh_with id secret width) opening).state ≡ Open
  opening_open = ap (λ x. x.state) opening_leaves ∙ w.open_is

  -- the same as acts of a connection
  pub acts : List Act
  acts = comes random w.d₁ w.r₁ ∷ comes random w.d₂ w.r₂ ∷ comes random w.d₃ w.r₃ ∷ []

  pub acts_sound : SoundActs acts
  unfolding acts
  acts_sound =
      ((lr, in_one w.d₁ w.r₁ w.framed₁), ((lr, in_one w.d₂ w.r₂ w.framed₂), ((lr, in_one w.d₃ w.r₃ w.framed₃), tt)))

  -- the records sent behind the reply
  pub sent₁ : SentRecords
  sent₁ = sent_after no_records w.h₁.kept (Reply w.reply)

  idle_not : Idle ≡ Open → ⊥
  idle_not z = let n : ◌≡◌ {A = ℕ} 0 1 = cc in omega arith

  replied_not : w.h₁.state ≡ Open → ⊥
  replied_not z = let y : Replied ≡ Open = sym w.replied_is ∙ z in let n : ◌≡◌ {A = ℕ} 0 1 = cc in omega arith

  spec_not : w.h₂.state ≡ Open → ⊥
  spec_not z = let y : Spec ≡ Open = sym w.spec_is ∙ z in let n : ◌≡◌ {A = ℕ} 0 1 = cc in omega arith

  pub acts_leave : behind (fresh_one id secret width) acts ≡ connection_of w.h₃ none_started sent₁
  unfolding acts behind sent₁
  acts_leave =
      ap (λ t. behind t.connection (comes random w.d₂ w.r₂ ∷ comes random w.d₃ w.r₃ ∷ []))
      (tells_is (fresh_one id secret width) random w.d₁ w.r₁ (tells (asks_only idle_not) (w.row₁ no_records) left_only))
      ∙ ap (λ t. behind t.connection (comes random w.d₃ w.r₃ ∷ []))
      (tells_is (connection_of w.h₁ none_started sent₁) random w.d₂ w.r₂ (tells (asks_only replied_not) (w.row₂ sent₁) left_only))
      ∙ ap (λ t. t.connection)
      (tells_is (connection_of w.h₂ none_started sent₁) random w.d₃ w.r₃ (tells (asks_only spec_not) (w.row₃ sent₁) left_only))

  pub acts_open : (behind (fresh_one id secret width) acts).handshake.state ≡ Open
  acts_open = ap (λ c. c.handshake.state) acts_leave ∙ w.open_is
