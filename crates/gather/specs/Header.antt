-- The user data header of a short message (GSM 03.40, 9.2.3.24; 02, P2: "port addressing with 16-bit ports, and
-- concatenation (8-bit reference, total, place); other elements are skipped, of two alike the last counts").
use Rattle.std.specs.Prelude.{List, ℕ, zero, suc, ◌+◌, ◌-◌, ◌*◌, length, get_or, take, drop, eqb, ltb, Option, Some, None, Result, Ok, Err}
use Rattle.digest.specs.Pick.{pick}
use Rattle.gather.specs.declared.refusal.Refusal.{Refusal}
use Rattle.gather.specs.declared.refusal.Refusal.TheVariants as R
use Rattle.gather.specs.declared.header.Ports.{Ports}
use Rattle.gather.specs.declared.header.Place.{Place}
use Rattle.gather.specs.declared.header.Heading.{Heading}
use Rattle.gather.specs.declared.header.Heading.TheVariants.{Alone, Part}
use Rattle.gather.specs.declared.header.Noted.{Noted}

-- the number that the two bytes from place i on spell
abbrev pub pair_at : List ℕ → ℕ → ℕ
pair_at s i = get_or s i 0 * 256 + get_or s (i + 1) 0

-- no element yet
abbrev pub nothing : Noted
nothing = record { ports = None; place = None }

-- the ports, and the place, noted in the stead of earlier ones: "of two alike the last counts"
abbrev pub with_ports : Noted → Ports → Noted
with_ports n p = record { ports = Some p; place = n.place }

abbrev pub with_place : Noted → Place → Noted
with_place n p = record { ports = n.ports; place = Some p }

-- One element, by its number and its body. 05: destination and originator port, two bytes each. 00: reference, total and
-- place. 19: "an element .. of wrong length"; "other elements are skipped".
unfoldable pub element_of : Noted → ℕ → List ℕ → Result Noted Refusal
element_of n number b =
    pick (eqb number 5)
    (pick (eqb (length b) 4) (Ok (with_ports n (record { destination = pair_at b 0; originator = pair_at b 2 }))) (Err R.Header))
    (pick (eqb number 0)
    (pick (eqb (length b) 3) (Ok (with_place n (record { reference = get_or b 0 0; total = get_or b 1 0; place = get_or b 2 0 })))
    (Err R.Header))
    (Ok n))

-- what is noted goes on to the next element; a refusal stays one
abbrev pub onward : Result Noted Refusal → (Noted → Result Noted Refusal) → Result Noted Refusal
onward (Err refusal) rest = Err refusal
onward (Ok n) rest = rest n

-- The elements of the header h, from the front, at most `most` of them. Each is a number, a length, and a body of that
-- length; 19 for a lone byte, or a body past the header's end.
unfoldable pub elements_from : ℕ → Noted → List ℕ → Result Noted Refusal
elements_from zero n h = pick (eqb (length h) 0) (Ok n) (Err R.Header)
elements_from (suc most) n h =
    pick (eqb (length h) 0) (Ok n)
    (pick (ltb (length h) 2) (Err R.Header)
    (pick (ltb (length h - 2) (get_or h 1 0)) (Err R.Header)
    (onward (element_of n (get_or h 0 0) (take (get_or h 1 0) (drop 2 h))) (λ m. elements_from most m (drop (2 + get_or h 1 0) h)))))

-- all of them: a header has fewer elements than bytes
unfoldable pub walked_of : List ℕ → Result Noted Refusal
walked_of h = elements_from (length h) nothing h

-- What a concatenation says. 19: "total over eleven, or place 0 or above the total". A message "of total 1 takes no
-- reference".
unfoldable pub placed_of : Ports → ℕ → Place → Result Heading Refusal
placed_of ports start p =
    pick (ltb 11 p.total) (Err R.Header)
    (pick (eqb p.place 0) (Err R.Header)
    (pick (ltb p.total p.place) (Err R.Header)
    (pick (eqb p.total 1) (Ok (Alone ports start)) (Ok (Part ports start p)))))

-- What the elements say together. 19: "no ports". "A message without concatenation .. takes no reference".
abbrev pub judged_by : Option Ports → Option Place → ℕ → Result Heading Refusal
judged_by None place start = Err R.Header
judged_by (Some ports) None start = Ok (Alone ports start)
judged_by (Some ports) (Some p) start = placed_of ports start p

abbrev pub judged_of : Noted → ℕ → Result Heading Refusal
judged_of n start = judged_by n.ports n.place start

abbrev pub heading_by : Result Noted Refusal → ℕ → Result Heading Refusal
heading_by (Err refusal) start = Err refusal
heading_by (Ok n) start = judged_of n start

-- A byte with the header's length, the header, and then the part. 19 too: no byte at all, or a header past the end.
unfoldable pub heading_of : List ℕ → Result Heading Refusal
heading_of m =
    pick (eqb (length m) 0) (Err R.Header)
    (pick (ltb (length m) (get_or m 0 0 + 1)) (Err R.Header)
    (heading_by (walked_of (take (get_or m 0 0) (drop 1 m))) (get_or m 0 0 + 1)))
