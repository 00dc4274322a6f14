-- What the gatherer means: a map from references to totals and places (02, P2), and one message's step over it.
use Rattle.std.specs.Prelude.{true, List, [], ◌∷◌, ◌++◌, ◌≡◌, ℕ, zero, suc, ◌+◌, ◌-◌, ◌*◌, ◌≤◌, ◌<◌, length, get_or, take, drop, set, replicate, eqb, ltb, leb, Result, Ok, Err}
use Rattle.digest.specs.Pick.{pick}
use Rattle.digest.specs.Mac.{same_bytes}
use Rattle.gather.specs.Header.{heading_of}
use Rattle.gather.specs.Slot.{holds, sum_of}
use Rattle.gather.specs.Gatherer.{slot_at}
use Rattle.gather.specs.declared.slot.Slot.{Slot}
use Rattle.gather.specs.declared.header.Place.{Place}
use Rattle.gather.specs.declared.header.Heading.{Heading}
use Rattle.gather.specs.declared.header.Heading.TheVariants as H
use Rattle.gather.specs.declared.refusal.Refusal.{Refusal}
use Rattle.gather.specs.declared.refusal.Refusal.TheVariants as R
use Rattle.gather.specs.declared.gatherer.Gatherer.{Gatherer}
use Rattle.gather.specs.declared.gatherer.Answer.{Answer}
use Rattle.gather.specs.declared.gatherer.Answer.TheVariants as A

-- ---- the map

-- a place of a reference: its part has not come, or these bytes have
pub data Part : Type 0 where
  missing : Part
  there : List ℕ → Part

-- what is held of a reference: nothing, or its total and its places
pub data Entry : Type 0 where
  absent : Entry
  held : ℕ → List Part → Entry

abbrev pub Map : Type 0
Map = ℕ → Entry

abbrev pub is_held : Entry → ℕ
is_held absent = 0
is_held (held total places) = 1

-- how many references below n are held
unfoldable pub held_below : ℕ → Map → ℕ
held_below zero m = 0
held_below (suc n) m = is_held (m n) + held_below n m

-- all of them: a reference is one byte
abbrev pub held_in : Map → ℕ
held_in m = held_below 256 m

abbrev pub with : Map → ℕ → Entry → Map
with m r e = λ x. pick (eqb x r) e (m x)

abbrev pub is_there : Part → ℕ
is_there missing = 0
is_there (there b) = 1

-- how many places have come
unfoldable pub have : List Part → ℕ
have [] = 0
have (p ∷ ps) = is_there p + have ps

abbrev pub bytes_of : Part → List ℕ
bytes_of missing = []
bytes_of (there b) = b

-- the parts by place
unfoldable pub joined : List Part → List ℕ
joined [] = []
joined (p ∷ ps) = bytes_of p ++ joined ps

-- ---- a message

-- an answer, with the datagram where there is one
pub data Said : Type 0 where
  refused : Refusal → Said
  waiting : ℕ → ℕ → ℕ → Said
  received : List ℕ → Said
  gathered : List ℕ → Said

pub record Next : Type 0 where
  pub said : Said
  pub map : Map

-- a part that has not come before, put in its place. "22 parts over 1,400 bytes together with this one, which drops the
-- reference". "A reference is finished by its last part", and "gives its room back".
unfoldable pub put : Map → ℕ → ℕ → List Part → Next
put m r total places =
    pick (ltb 1400 (length (joined places))) (record { said = refused R.Long; map = with m r absent })
    (pick (leb total (have places)) (record { said = gathered (joined places); map = with m r absent })
    (record { said = waiting r (have places) total; map = with m r (held total places) }))

-- "a part seen twice with equal bytes changes nothing"; 20: "same place with other bytes"
abbrev pub placed : Map → ℕ → ℕ → List Part → ℕ → List ℕ → Part → Next
placed m r total places i bytes missing = put m r total (set places i (there bytes))
placed m r total places i bytes (there b) =
    pick (same_bytes b bytes) (record { said = waiting r (have places) total; map = m }) (record { said = refused R.Differs; map = m })

-- 20: "same reference with another total". 21: "a new reference while all four are in use".
abbrev pub joins : Map → Place → List ℕ → Entry → Next
joins m p bytes absent =
    pick (leb 4 (held_in m)) (record { said = refused R.Full; map = m })
    (put m p.reference p.total (set (replicate 11 missing) (p.place - 1) (there bytes)))
joins m p bytes (held total places) =
    pick (eqb total p.total) (placed m p.reference total places (p.place - 1) bytes (get_or places (p.place - 1) missing))
    (record { said = refused R.Differs; map = m })

-- "a message without concatenation, or of total 1, takes no reference"
abbrev pub message_by : Map → List ℕ → Result Heading Refusal → Next
message_by m s (Err refusal) = record { said = refused refusal; map = m }
message_by m s (Ok (H.Alone ports start)) = record { said = received (drop start s); map = m }
message_by m s (Ok (H.Part ports start p)) = joins m p (drop start s) (m p.reference)

abbrev pub message_of : Map → List ℕ → Next
message_of m s = message_by m s (heading_of s)

-- ---- the gatherer as a map

-- the places of a slot: its parts stand one behind the other, by place, at the front of its 1,400 bytes
unfoldable pub places_of : List ℕ → List ℕ → List Part
places_of [] b = []
places_of (zero ∷ sizes) b = missing ∷ places_of sizes b
places_of (suc n ∷ sizes) b = there (take n b) ∷ places_of sizes (drop n b)

-- slot k's 1,400 bytes of the store
abbrev pub room_of : List ℕ → ℕ → List ℕ
room_of store k = take 1400 (drop (k * 1400) store)

-- what the slots from the k-th on hold of a reference
unfoldable pub look_up : ℕ → List Slot → List ℕ → ℕ → Entry
look_up k [] store r = absent
look_up k (s ∷ slots) store r =
    pick (holds s r) (held s.total (places_of s.sizes (room_of store k))) (look_up (suc k) slots store r)

abbrev pub map_of : Gatherer → List ℕ → Map
map_of g store = λ r. look_up 0 g.slots store r

-- what an answer says, with the datagram that it shows
abbrev pub said_of : Result Answer Refusal → List ℕ → List ℕ → Said
said_of (Err refusal) message assembly = refused refusal
said_of (Ok (A.Waiting ports r n total)) message assembly = waiting r n total
said_of (Ok (A.Received ports start)) message assembly = received (drop start message)
said_of (Ok (A.Gathered ports size)) message assembly = gathered (take size assembly)

-- a slot as steps leave it: its reference is a byte, it has eleven sizes, and its parts fit its room
pub record Fits (s : Slot) : Type 0 where
  pub byte : s.reference < 256
  pub eleven : length s.sizes ≡ 11
  pub bytes : sum_of s.sizes ≤ 1400

-- a gatherer as steps leave it: and no reference is in two slots
pub record Sound (g : Gatherer) : Type 0 where
  pub fits : (k : ℕ) → k < 4 → Fits (slot_at g k)
  pub once : (i k r : ℕ) → i < 4 → k < 4 → holds (slot_at g i) r ≡ true → holds (slot_at g k) r ≡ true → i ≡ k

-- each is a byte
unfoldable pub Bytes : List ℕ → Type 0
Bytes [] = ◌≡◌ {A = ℕ} 0 0
Bytes (x ∷ s) = (x < 256) × Bytes s
