-- `Hasher::update`: a piece that fills no block waits; else the first block is topped, whole blocks follow, and
-- what is left waits. The meaning follows from the exact outcome.
use Rattle.std.proofs.Common.{◌≡◌, ◌+◌, ◌-◌, ◌*◌, ◌/◌, ◌%◌, length, drop, refl, ap, ◌∙◌, le_of_eq, arith, length-drop, take_all, rules}
use Rattle.digest.specs.Bytes.{laid_over}
use Rattle.digest.specs.Sha1.{absorb, blocks_of}
use Rattle.digest.proofs.Hashing.{updated_short, updated_long, both_updated, left_over}
use Rattle.digest.proofs.pieces.Hasher.update.Goals as goal

pub lay-requires : goal.lay-requires
lay-requires c = let whole : length c.args.self.rest ≡ 64 = search rules in omega arith

pub returns-then-s-fill : goal.returns-then-s-fill
returns-then-s-fill c = let both = let args = c.args in
    both_updated args.self _ args.s.now
    (updated_short args.self args.s.now c.lay.new.d _ (search rules) c.if-s-fill.true c.lay.ensures c.wrapping_add_u64-count.ensures.value) in record { exact = both.0; meaning = both.1 }

pub lay-requires-2 : goal.lay-requires-2
lay-requires-2 c = let args = c.args in
    let whole : length args.self.rest ≡ 64 = search (rules, c.well_formed.0) in
    left_over args.s.now args.self.rest args.self.count whole

pub returns : goal.returns
returns c = let both = let args = c.args in
    let need = (64 - args.self.count % 64) % 64 in
    let done = need + 64 * ((length args.s.now - need) / 64) in
    let whole : length args.self.rest ≡ 64 = search (rules, c.well_formed.0) in
    let rest = take_all _ (drop need args.s.now) (le_of_eq (length-drop need args.s.now)) in
    both_updated args.self _ args.s.now
    (updated_long args.self args.s.now c.lay-2.new.d c.topped-front.result c.absorbed-all.result _ _ _ _
    whole c.if-s-fill.false refl refl refl
    c.topped-front.ensures (c.absorbed-all.ensures ∙ ap (λ x. absorb x (blocks_of x) c.topped-front.result) rest ∙ ap (λ k. absorb (drop need args.s.now) (k / 64) c.topped-front.result) (length-drop need args.s.now))
    (c.lay-2.ensures ∙ ap (laid_over args.self.rest 0) (take_all _ (drop done args.s.now) (le_of_eq (length-drop done args.s.now))))
    c.wrapping_add_u64-count.ensures.value) in record { exact = both.0; meaning = both.1 }
