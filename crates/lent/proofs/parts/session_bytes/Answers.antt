-- `parts::session_bytes`: three fields fill the part.
use mathlib.Core.Path.{◌≡◌, refl}
use mathlib.Core.List.{List, [], ◌∷◌}
use Prim.Native.Nat.{ℕ}
use native.Mathlib.Omega.{arith}
use lib.ListN.{length, replicate}
use Rattle.lent.proofs.Laying.{laid_none, laid_more, laid_whole}
use borrow.Author.Rules.{rules}
use Rattle.lent.proofs.parts.session_bytes.Goals as goal

pub returns : goal.returns
returns c = let a = c.args in
    let d : List ℕ = replicate 29 0 in
    let l-id : length a.id ≡ 8 = search (rules, c.well_formed.1.0) in
    let l-secret : length a.secret ≡ 20 = search (rules, c.well_formed.1.1.0) in
    let one = laid_more 0 1 (a.number ∷ []) (a.number ∷ []) c.put.new.d (laid_none d 0 (omega arith)) refl refl refl (omega arith) c.put.ensures.exact in
    let two = laid_more 1 8 a.id a.id c.put-2.new.d one refl refl l-id (omega arith) c.put-2.ensures.exact in
    let three = laid_more 9 20 a.secret a.secret c.put-3.new.d two refl refl l-secret (omega arith) c.put-3.ensures.exact in
    record { exact = laid_whole three refl; part_len = three.count; sized = (l-id, l-secret) }
