-- The laws of a record that is reached: one record more before it, and the point at the end of them.
use mathlib.Core.Path.{◌≡◌, refl, sym, ◌∙◌, ap}
use mathlib.Core.List.{List, [], ◌∷◌, ◌++◌}
use Prim.Native.Nat.{ℕ, ◌+◌, ◌<◌, ◌≤◌}
use native.Mathlib.Omega.{arith}
use native.Mathlib.Numerals.{add-one}
use lib.ListN.{length, take, get_or}
use lib.Seq.{take-suc, take-take, get_or-take, length-take-le}
use Rattle.digest.proofs.Picks.{if_lt, if_ge}
use Rattle.record.specs.Datagram.{blank}
use Rattle.record.specs.declared.reader.Record.{Record}
use Rattle.record.proofs.Covering.{Walkable, Lies}
use Rattle.connection.specs.Asked.{whom_of}
use Rattle.connection.specs.Told.{told_record}
use Rattle.connection.specs.Receive.{end_of}
use Rattle.connection.specs.Point.{nowhere, point_on, point_at, point_among}
use Rattle.connection.specs.declared.refusal.Refusal.TheVariants.{Argument}
use Rattle.connection.specs.declared.asked.Whom.{Whom}
use Rattle.connection.specs.declared.connection.Connection.{Connection}
use Rattle.connection.specs.declared.told.Told.{Told}
use Rattle.connection.specs.declared.receive.Untaken.TheVariants.{Refused}
use Rattle.connection.specs.declared.point.Point.{Point}
use Rattle.connection.proofs.Running.{end_snoc}
use Rattle.std.specs.Prelude.{Err, Ok, Result}
use Rattle.connection.specs.declared.receive.Untaken.{Untaken}

-- the records before an index, where there are more
pub fewer : (d : List ℕ) (count index : ℕ) (records : List Record) → index < count → Walkable d count records → Walkable d index records
fewer d count index records h w =
    record { few = omega (arith, w.few); eight = w.eight; each = λ i l. w.each i (omega arith) }

-- nothing yet
pub left_none : (c : Connection) (ours d : List ℕ) (records : List Record) → c ≡ end_of c ours d (take 0 records)
unfolding end_of
left_none c ours d records = refl

-- one record more
pub left_more : (c : Connection) (ours d : List ℕ) (records : List Record) (i : ℕ) (left : Connection) (j : Told) → i < length records
    → left ≡ end_of c ours d (take i records) → j ≡ told_record left ours d (get_or records i blank)
    → j.connection ≡ end_of c ours d (take (i + 1) records)
left_more c ours d records i left j h e told =
    let r = get_or records i blank in
    let more : take (i + 1) records ≡ take i records ++ (r ∷ [])
    = ap (λ n. take n records) (add-one i) ∙ take-suc records i blank h in
    ap (λ (x : Told). x.connection) (told ∙ ap (λ x. told_record x ours d r) e)
    ∙ sym (end_snoc c ours d (take i records) r)
    ∙ sym (ap (end_of c ours d) more)

-- no such record among them
pub none_among : (c : Connection) (ours d : List ℕ) (records : List Record) (count index : ℕ) (p : Point) → count ≤ length records
    → count ≤ index → p ≡ nowhere c (Err (Refused Argument)) → p ≡ point_among c ours d (take count records) index
unfolding point_among
none_among c ours d records count index p l h e =
    if_ge _ index (length (take count records)) (omega (arith, length-take-le count records l)) e

-- the record at an index of them
pub one_among : (c : Connection) (ours d : List ℕ) (records : List Record) (count index : ℕ) (left : Connection) (whom : Whom) (t : Told)
    → count ≤ length records → index < count → left ≡ end_of c ours d (take index records)
    → whom ≡ whom_of left d (get_or records index blank) → t ≡ told_record left ours d (get_or records index blank)
    → ◌≡◌ {A = Point} (record { taken = Ok count; connection = left; whom = whom; found = get_or records index blank; answer = t.answer })
    (point_among c ours d (take count records) index)
unfolding point_among point_at point_on
one_among c ours d records count index left whom t l h e w told =
    let r = get_or records index blank in
    let size : count ≡ length (take count records) = sym (length-take-le count records l) in
    let left_is : left ≡ end_of c ours d (take index (take count records))
    = e ∙ ap (end_of c ours d) (sym (take-take index count records (omega arith))) in
    let r_is : r ≡ get_or (take count records) index blank = sym (get_or-take count records index blank h) in
    if_lt _ index (length (take count records)) (omega arith)
    ((λ i. record { taken = Ok (size i); connection = left; whom = w i; found = r; answer = (told i).answer })
    ∙ (λ i. record { taken = Ok (length (take count records)); connection = left_is i; whom = whom_of (left_is i) d (r_is i); found = r_is i; answer = (told_record (left_is i) ours d (r_is i)).answer }))

-- no record lies inside any datagram
pub nowhere_inside : (c : Connection) (taken : Result ℕ Untaken) (p : Point) (d : List ℕ) → p ≡ nowhere c taken
    → p.found.start + p.found.head + p.found.size ≤ length d
nowhere_inside c taken p d e = rw e (omega arith)

-- a record of a walk lies inside
pub lies_inside : (d : List ℕ) (r : Record) → Lies d r → r.start + r.head + r.size ≤ length d
lies_inside d r l = omega (arith, l.inside, l.stand.used)
