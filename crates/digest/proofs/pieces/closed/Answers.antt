-- `pieces::closed`: the one behind the bytes that are left, the length at the end, and the last block or two.
use Rattle.std.proofs.Common.{◌≡◌, ◌+◌, ◌-◌, ◌*◌, ◌/◌, ◌%◌, ◌^◌, ◌∷◌, ◌++◌, length, take, set, replicate, sym, ap, ◌∙◌, arith, length-set}
use Rattle.digest.specs.Bytes.{laid_over, bytes4, bytes8}
use Rattle.digest.proofs.Hashing.{padded_by, ended_alone}
use Rattle.digest.proofs.pieces.closed.Goals as goal

pub put_word-requires : goal.put_word-requires
put_word-requires c = simp length-set (omega arith)

pub put_word-requires-2 : goal.put_word-requires-2
put_word-requires-2 c = omega (arith, c.put_word.auto.d, length-set c.args.d.now c.args.fill 128)

pub absorbed-requires : goal.absorbed-requires
absorbed-requires c = omega (arith, c.put_word-2.auto.d, c.put_word.auto.d, length-set c.args.d.now c.args.fill 128)

pub shape_of-d : goal.shape_of-d
shape_of-d c = c.put_word-2.auto.d ∙ c.put_word.auto.d ∙ length-set c.args.d.now c.args.fill 128

pub returns : goal.returns
returns c = λ m l e.
    let args = c.args in
    let n = (args.fill + 72) / 64 in
    let x = args.count * 8 % 2 ^ 64 in
    let bits : x ≡ 8 * args.count % 2 ^ 64 = omega arith in
    let size = c.put_word-2.auto.d ∙ c.put_word.auto.d ∙ length-set args.d.now args.fill 128 in
    let marked = c.put_word.ensures ∙ ap (λ k. laid_over (set args.d.now k 128) (64 * n - 8) (bytes4 (x / 4294967296))) (sym l) in
    let written
    = padded_by m args.d.now c.put_word.new.d c.put_word-2.new.d (64 * n) x (omega arith) (omega arith) e marked c.put_word-2.ensures
    ∙ ap (λ k. m ++ ((128 ∷ replicate (64 * n - (length m + 9)) 0) ++ bytes8 k)) bits in
    ended_alone m (take (64 * n) c.put_word-2.new.d) args.h c.absorbed.result args.count n (omega arith) (ap (λ k. k % 64) l ∙ omega arith) (ap (λ k. (k + 72) / 64) (sym l)) written c.absorbed.ensures
