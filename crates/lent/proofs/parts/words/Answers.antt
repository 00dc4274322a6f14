-- `parts::words`: after i turns the first i numbers are laid.
use mathlib.Core.Path.{◌≡◌, refl}
use Prim.Native.Nat.{ℕ}
use native.Mathlib.Omega.{arith}
use lib.ListN.{length, get_or}
use mir.Syntax.{w32}
use mir.Val.{Fits}
use Rattle.lent.proofs.Laying.{laid_whole}
use Rattle.lent.proofs.Sums.{words_none, words_more, words_all}
use borrow.Author.Rules.{rules}
use Rattle.lent.proofs.parts.words.Goals as goal

pub loop-i-init : goal.loop-i-init
loop-i-init c = words_none c.args.numbers

pub loop-i-preserved : goal.loop-i-preserved
loop-i-preserved c = let l = c.loop-i in
    words_more c.args.numbers l.part c.put.new.d l.i c.four.result l.invariant (omega arith) c.four.ensures.exact c.put.ensures.exact

pub returns : goal.returns
returns c = let numbers = c.args.numbers in
    let size : length numbers ≡ 8 = search (rules, c.well_formed.0) in
    let each : (i : ℕ) → Fits w32 (get_or numbers i 0) = λ i. search (rules, c.well_formed.0) in
    let laid = words_all numbers c.loop-i.part c.loop-i.i (omega (arith, size)) c.loop-i.invariant in
    record { exact = laid_whole laid refl; part_len = laid.count; ranged = (size, λ i. (each i).fits) }
