-- What a turn gathers comes behind what the turns before it gathered.
use Rattle.std.proofs.Common.{◌-◌, ◌++◌, length, take, drop, sym, ap, subst, ◌∙◌, arith, length-take}
use lib.Seq.{take-add, take-take}
use Rattle.std.specs.Io.KnownBytes.{Appends}
use Rattle.std.proofs.KnownBytes.{Appends-trans}
use Rattle.lines.proofs.output.Output.gather_parts.Goals as goal

pub loop-done-preserved : goal.loop-done-preserved
loop-done-preserved g c =
    let done = c.loop-done.done in
    let n = c.gather-done.result in
    let xs = c.args.bytes.now in
    let (within, noted, appended) = c.loop-done.invariant in
    let fits = c.gather-done.ensures.bound in
    let most = length-take (length xs - done) (drop done xs) in
    let joined = ap (λ l. take done xs ++ l) (take-take n (length xs - done) (drop done xs) (omega arith)) ∙ sym (take-add done n xs) in (
      omega arith,
      λ kept. noted (c.gather-done.ensures.noted kept),
      λ kept. subst (Appends _ _) joined (Appends-trans _ _ _ _ _ (appended (c.gather-done.ensures.noted kept)) (c.gather-done.ensures.appended kept)),
    )
