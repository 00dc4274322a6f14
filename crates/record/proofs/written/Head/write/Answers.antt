-- `write`: room for the header, for the first part and for the second is room for the record; then the three are laid
-- one behind the other.
use mathlib.Core.Path.{sym, ◌∙◌}
use mathlib.Core.List.{List, ◌++◌}
use Prim.Native.Nat.{ℕ}
use native.Mathlib.Omega.{arith}
use Rattle.record.specs.Written.{record_of}
use Rattle.record.proofs.Fronts.{record_size, laid_three, room_within, no_room_within}
use Rattle.record.proofs.written.Head.write.Goals as goal

pub returns-in_err-end : goal.returns-in_err-end
returns-in_err-end c = let h = c.args.self in
    let first : List ℕ = c.args.first.now in
    let second : List ℕ = c.args.second.now in
    let both = no_room_within c.args.out.now (record_of h.long h.protected h.content h.number (first ++ second))
    (omega (arith, record_size h.long h.protected h.content h.number _ first second c.size.ensures.value, c.in_err-end.ensures, c.well_formed)) in
    record { size = c.from_residual.ensures ∙ both.0; bytes = both.1 }

pub returns-then-out-end : goal.returns-then-out-end
returns-then-out-end c = let h = c.args.self in
    let first : List ℕ = c.args.first.now in
    let second : List ℕ = c.args.second.now in
    let both = no_room_within c.args.out.now (record_of h.long h.protected h.content h.number (first ++ second))
    (omega (arith, record_size h.long h.protected h.content h.number _ first second c.size.ensures.value, c.in_ok-end.ensures)) in
    record { size = both.0; bytes = both.1 }

pub returns : goal.returns
returns c = let h = c.args.self in
    let first : List ℕ = c.args.first.now in
    let second : List ℕ = c.args.second.now in
    let head = c.size.ensures.value in
    let size = record_size h.long h.protected h.content h.number _ first second head in
    let both = room_within c.args.out.now (record_of h.long h.protected h.content h.number (first ++ second)) c.in_ok-end.end _
    (omega (arith, size, c.in_ok-end.ensures)) (omega (arith, size, c.in_ok-end.ensures))
    (laid_three h.long h.protected h.content h.number _ c.args.out.now first second _ _ _ head
    c.put.ensures (rw (head, sym c.size-2.ensures.value) c.put-2.ensures) c.put-3.ensures) in
    record { size = both.0; bytes = both.1 }
