-- Saving and loading: what was saved loads as the unit that it was, by the laws of fields in `lent`.
use mathlib.Core.Path.{◌≡◌, refl, ◌∙◌, ap}
use mathlib.Core.Bool.{true, false}
use mathlib.Core.List.{List, [], ◌∷◌}
use Prim.Native.Nat.{ℕ, zero, suc, ◌+◌, ◌*◌, ◌<◌}
use native.Mathlib.Omega.{arith}
use lib.ListN.{length, get_or}
use lib.Seq.{take_all}
use lib.Dec.{ltb}
use borrow.Author.Tests.{eq-eqb}
use Rattle.digest.specs.Bytes.{bytes4}
use Rattle.digest.specs.Mac.{number_of}
use Rattle.message.specs.declared.offer.Kinds.{Kinds}
use Rattle.message.specs.declared.offer.Kinds.TheVariants as K
use Rattle.connection.specs.declared.sent.SentRecords.{SentRecords}
use Rattle.lent.specs.Fields.{joined, bytes_in}
use Rattle.lent.specs.Saved.{sent_fields, mac_numbered}
use Rattle.lent.proofs.Laying.{length_eight}
use Rattle.lent.proofs.Numbers.{byte_back, two_back, four_back, eight_back}
use Rattle.lent.proofs.Back.{cuts, total, Sized, sized_joined, cut_back, sent_back, mac_back, mac_one}
use Rattle.unit.specs.declared.state.State.{State}
use Rattle.unit.specs.declared.state.State.TheVariants.{Idle, Sent, Replied, Spec, Opening, Open, Closed, Barred}
use Rattle.unit.specs.declared.unit.Unit.{Unit}
use Rattle.lentunit.specs.Saved.{unit_size, state_place, mark, state_number, kinds_number, unit_fields, saved_of, is_saved, state_numbered, kinds_numbered, keys_in, offer_in, window_in, protection_in, unit_in, Is, loaded, Ranged}

-- the sizes of the fields of the records sent, and of a unit's
abbrev pub sent_sizes : List ℕ
sent_sizes = 4 ∷ 4 ∷ 4 ∷ 4 ∷ 4 ∷ 4 ∷ 4 ∷ 4 ∷ 4 ∷ []

abbrev pub unit_sizes : List ℕ
unit_sizes =
    4 ∷ 4 ∷ 4 ∷ 4 ∷ 4 ∷ 4 ∷ 4 ∷ 4 ∷ 4 ∷ 4 ∷ 1 ∷ 8 ∷ 20 ∷ 16 ∷ 16 ∷ 1 ∷ 1 ∷ 12 ∷ 1 ∷ 1 ∷ 44 ∷ 1 ∷ 2 ∷ 8 ∷ 4 ∷ 4 ∷ []

pub sent_size : (s : SentRecords) → length (joined (sent_fields s)) ≡ 36
unfolding total
sent_size s =
    sized_joined (sent_fields s) sent_sizes (refl, (refl, (refl, (refl, (refl, (refl, (refl, (refl, (refl, tt)))))))))

unit_sized : (u : Unit) → Ranged u → Sized (unit_fields u) unit_sizes
unit_sized u r =
    (refl, (refl, (refl, (refl, (refl, (refl, (refl, (refl, (refl, (refl, (refl, (r.id, (r.secret, (r.server, (r.client, (refl, (refl, (r.expected, (refl, (refl, (r.flight, (refl, (refl, (length_eight u.protection.window.marks, (refl, (refl, tt))))))))))))))))))))))))))

unit_size_lem : (u : Unit) → Ranged u → length (saved_of u) ≡ unit_size
unfolding saved_of total
unit_size_lem u r = sized_joined (unit_fields u) unit_sizes (unit_sized u r)

-- the fields of a saved unit, at their places
unit_cut : (u : Unit) → Ranged u → cuts unit_sizes 0 (saved_of u) ≡ unit_fields u
unfolding saved_of total
unit_cut u r =
    cut_back (unit_fields u) unit_sizes 0 (joined (unit_fields u)) (unit_sized u r)
    (take_all 180 (joined (unit_fields u)) (omega (arith, sized_joined (unit_fields u) unit_sizes (unit_sized u r))))

state_back : (state : State) → state_numbered (state_number state) ≡ state
unfolding state_numbered
state_back Idle = refl
state_back Sent = refl
state_back Replied = refl
state_back Spec = refl
state_back Opening = refl
state_back Open = refl
state_back Closed = refl
state_back Barred = refl

state_most : (state : State) → ltb 7 (state_number state) ≡ false
state_most Idle = refl
state_most Sent = refl
state_most Replied = refl
state_most Spec = refl
state_most Opening = refl
state_most Open = refl
state_most Closed = refl
state_most Barred = refl

kinds_back : (kinds : Kinds) → kinds_numbered (kinds_number kinds) ≡ kinds
unfolding kinds_numbered
kinds_back K.Sha80 = refl
kinds_back K.Sha = refl
kinds_back K.Sha80First = refl
kinds_back K.ShaFirst = refl

kinds_most : (kinds : Kinds) → ltb 3 (kinds_number kinds) ≡ false
kinds_most K.Sha80 = refl
kinds_most K.Sha = refl
kinds_most K.Sha80First = refl
kinds_most K.ShaFirst = refl

-- eight things, each in its place
each_of : (P : ℕ → Type 0) → P 0 → P 1 → P 2 → P 3 → P 4 → P 5 → P 6 → P 7 → (k : ℕ) → k < 8 → P k
each_of P e0 e1 e2 e3 e4 e5 e6 e7 zero h = e0
each_of P e0 e1 e2 e3 e4 e5 e6 e7 (suc zero) h = e1
each_of P e0 e1 e2 e3 e4 e5 e6 e7 (suc (suc zero)) h = e2
each_of P e0 e1 e2 e3 e4 e5 e6 e7 (suc (suc (suc zero))) h = e3
each_of P e0 e1 e2 e3 e4 e5 e6 e7 (suc (suc (suc (suc zero)))) h = e4
each_of P e0 e1 e2 e3 e4 e5 e6 e7 (suc (suc (suc (suc (suc zero))))) h = e5
each_of P e0 e1 e2 e3 e4 e5 e6 e7 (suc (suc (suc (suc (suc (suc zero)))))) h = e6
each_of P e0 e1 e2 e3 e4 e5 e6 e7 (suc (suc (suc (suc (suc (suc (suc zero))))))) h = e7
each_of P e0 e1 e2 e3 e4 e5 e6 e7 (suc (suc (suc (suc (suc (suc (suc (suc k)))))))) h = absurd (omega (arith, h))

back : (u : Unit) (b : List ℕ) → Ranged u → cuts unit_sizes 0 b ≡ unit_fields u → unit_in b ≡ u
unfolding unit_in offer_in protection_in keys_in window_in cuts
back u b r e =
    let at : (k : ℕ) → get_or (cuts unit_sizes 0 b) k [] ≡ get_or (unit_fields u) k [] = λ k. ap (λ l. get_or l k []) e in
    let sums = each_of (λ k. bytes_in b (8 + 4 * k) 4 ≡ bytes4 (get_or u.sent.checksums k 0)) (at 2) (at 3) (at 4) (at 5) (at 6) (at 7) (at 8) (at 9) in
    λ i. record {
      state = (ap state_numbered (byte_back b 40 (state_number u.state) (at 10)) ∙ state_back u.state) i;
      id = at 11 i;
      offer =
          record {
            kinds = (ap kinds_numbered (byte_back b 115 (kinds_number u.offer.kinds) (at 18)) ∙ kinds_back u.offer.kinds) i;
            refresh = byte_back b 116 u.offer.refresh (at 19) i;
          };
      expected = at 17 i;
      flight = at 20 i;
      sent = sent_back u.sent b r.sent.count r.sent.sums r.sent.sum (at 1) sums i;
      protection =
          record {
            keys =
                record {
                  secret = at 12 i;
                  server = at 13 i;
                  client = at 14 i;
                  mac = (ap mac_numbered (byte_back b 101 (number_of u.protection.keys.mac) (at 15)) ∙ mac_back u.protection.keys.mac) i;
                  refresh = byte_back b 102 u.protection.keys.refresh (at 16) i;
                };
            window =
                record {
                  width = byte_back b 161 u.protection.window.width (at 21) i;
                  highest = two_back b 162 u.protection.window.highest r.highest (at 22) i;
                  marks = eight_back b 164 u.protection.window.marks r.marks (at 23) i;
                };
            protected = four_back b 172 u.protection.protected r.protected (at 24) i;
            clear = four_back b 176 u.protection.clear r.clear (at 25) i;
          };
    }

sound : (u : Unit) (b : List ℕ) → length b ≡ unit_size → cuts unit_sizes 0 b ≡ unit_fields u → is_saved b ≡ true
unfolding is_saved cuts
sound u b l e =
    let at : (k : ℕ) → get_or (cuts unit_sizes 0 b) k [] ≡ get_or (unit_fields u) k [] = λ k. ap (λ l. get_or l k []) e in
    rw (eq-eqb (length b) unit_size l)
    (rw (four_back b 0 mark (omega arith) (at 0))
    (rw (byte_back b state_place (state_number u.state) (at 10))
    (rw (state_most u.state)
    (rw (byte_back b 115 (kinds_number u.offer.kinds) (at 18))
    (rw (kinds_most u.offer.kinds)
    (rw (byte_back b 101 (number_of u.protection.keys.mac) (at 15)) (mac_one u.protection.keys.mac)))))))

-- Load of save gives the unit back.
pub saved_loads : (u : Unit) → Ranged u → loaded (saved_of u) ≡ Is u
unfolding loaded
saved_loads u r =
    rw (sound u (saved_of u) (unit_size_lem u r) (unit_cut u r)) (ap Is (back u (saved_of u) r (unit_cut u r)))
