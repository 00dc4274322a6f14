-- `put_reports`: the loop keeps `Laid`; one report more is laid behind the others.
use mathlib.Core.List.{◌∷◌, []}
use native.Mathlib.Omega.{arith}
use lib.ListN.{length-append}
use Rattle.std.proofs.lemmas.Slice.Zip.{zip_turn, zip_end}
use Rattle.dayfile.proofs.Lending.{laid_begun, laid_next, laid_turn, laid_done}
use Rattle.dayfile.proofs.write.put_reports.Goals as goal

pub loop-number-init : goal.loop-number-init
loop-number-init c = laid_begun _ _ _ _ c.requires.numbers_len.0 c.requires.numbers_len.1 c.requires.sizes_in_bounds

pub split_at-requires : goal.split_at-requires
split_at-requires c =
    let a = c.args in
    let t = zip_turn a.numbers.now a.sizes.now c.loop-number.yielded c.into_iter-number-iterator.result _ c.next.new.self _ (cc) (cc) c.loop-number.yielded_by _ c.in-Some.is c.next.ensures.steps in
    omega (arith, t.3 0, (laid_next _ _ _ _ _ _ _ _ c.loop-number.invariant t.1).fits)

pub put_report-requires : goal.put_report-requires
put_report-requires c =
    let a = c.args in
    let t = zip_turn a.numbers.now a.sizes.now c.loop-number.yielded c.into_iter-number-iterator.result _ c.next.new.self _ (cc) (cc) c.loop-number.yielded_by _ c.in-Some.is c.next.ensures.steps in
    let next = laid_next _ _ _ _ _ _ _ _ c.loop-number.invariant t.1 in
    record {
      fits = omega (arith, t.3 0, c.split_at.ensures.front_len, next.fits, c.loop-number.invariant.room, c.loop-number.invariant.as_long, t.1);
      sized = omega (arith, t.3 0, c.split_at.ensures.front_len, next.small);
    }

pub loop-number-preserved : goal.loop-number-preserved
loop-number-preserved c =
    let a = c.args in
    let t = zip_turn a.numbers.now a.sizes.now c.loop-number.yielded c.into_iter-number-iterator.result _ c.next.new.self _ (cc) (cc) c.loop-number.yielded_by _ c.in-Some.is c.next.ensures.steps in
    laid_turn _ _ _ _ _ _ _ _ c.loop-number.invariant t.1 _ _ _ _ _ _ (t.2 0) (t.3 0) c.split_at.ensures.front c.split_at.ensures.back c.put_report.ensures
    (length-append c.loop-number.yielded ((c.in-Some.number, c.in-Some.size) ∷ []))

pub returns : goal.returns
returns c =
    let a = c.args in
    let n = zip_end a.numbers.now a.sizes.now c.loop-number.yielded c.into_iter-number-iterator.result _ c.next.new.self _ (cc) (cc) c.loop-number.yielded_by c.in-None.is c.next.ensures.steps in
    laid_done _ _ _ _ _ _ _ _ c.loop-number.invariant (omega (arith, n, c.loop-number.invariant.paired))
