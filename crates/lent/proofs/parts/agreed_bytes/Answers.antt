-- `parts::agreed_bytes`: five fields fill the part.
use mathlib.Core.Path.{◌≡◌, refl, ap}
use mathlib.Core.List.{List, [], ◌∷◌}
use Prim.Native.Nat.{ℕ}
use native.Mathlib.Omega.{arith}
use lib.ListN.{length, replicate}
use Rattle.digest.specs.Mac.{number_of}
use Rattle.lent.proofs.Laying.{laid_none, laid_more, laid_whole}
use borrow.Author.Rules.{rules}
use Rattle.lent.proofs.parts.agreed_bytes.Goals as goal

pub returns : goal.returns
returns c = let d : List ℕ = replicate 46 0 in
    let keys = c.args.keys in
    let expected = c.args.expected in
    let l-server : length keys.server ≡ 16 = search (rules, c.well_formed.0) in
    let l-client : length keys.client ≡ 16 = search (rules, c.well_formed.0) in
    let l-expected : length expected ≡ 12 = search (rules, c.well_formed.1.0) in
    let one = laid_more 0 16 keys.server keys.server c.put.new.d (laid_none d 0 (omega arith)) refl refl l-server (omega arith) c.put.ensures.exact in
    let two = laid_more 16 16 keys.client keys.client c.put-2.new.d one refl refl l-client (omega arith) c.put-2.ensures.exact in
    let three = laid_more 32 1 (c.number.result ∷ []) (number_of keys.mac ∷ []) c.put-3.new.d two refl (ap (λ x. x ∷ []) c.number.ensures.exact) refl (omega arith) c.put-3.ensures.exact in
    let four = laid_more 33 1 (keys.refresh ∷ []) (keys.refresh ∷ []) c.put-4.new.d three refl refl refl (omega arith) c.put-4.ensures.exact in
    let five = laid_more 34 12 expected expected c.put-5.new.d four refl refl l-expected (omega arith) c.put-5.ensures.exact in
    record { exact = laid_whole five refl; part_len = five.count; sized = (l-server, (l-client, l-expected)) }
