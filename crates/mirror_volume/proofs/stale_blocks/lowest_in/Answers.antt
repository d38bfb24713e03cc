use Rattle.std.proofs.Common.{◌<◌, false, ap, arith, length, sym, subst, List, Bool, refl}
use Rattle.std.proofs.lemmas.Option.{slice_get_within}
use Rattle.slot_pool.specs.Slots.{free_count}
use Rattle.mirror_volume.specs.Stale.{HoldsStale}
use Rattle.mirror_volume.proofs.Counts.{bool_at, taken_lowest, taken_out, count-unmarked, none_left}
use Rattle.mirror_volume.proofs.stale_blocks.lowest_in.Goals as goal

pub loop-block-smaller : goal.loop-block-smaller
loop-block-smaller c =
    let out = taken_lowest c.loop-block.queue c.take.new.self c.in-Some.block c.take.result c.in-Some.ensures.lowest c.take.ensures.lowest c.take.ensures.taken c.take.ensures.none in
    let same = ap free_count out in
    let fewer = count-unmarked c.loop-block.queue c.in-Some.block c.in-Some.ensures.lowest.free in
    let less : free_count c.take.new.self < free_count c.loop-block.queue = omega arith in
    less

pub loop-block-preserved : goal.loop-block-preserved
loop-block-preserved c =
    let out = taken_lowest c.loop-block.queue c.take.new.self c.in-Some.block c.take.result c.in-Some.ensures.lowest c.take.ensures.lowest c.take.ensures.taken c.take.ensures.none in
    let low = slice_get_within c.loop-block.queue c.in-Some.block _ c.in-Some.ensures.lowest.free in
    let within : c.in-Some.block < length c.args.stale.now = omega arith in
    let at = bool_at c.args.stale.now c.in-Some.block _ false within c.if-stale-block.false in
    subst (λ (q : List Bool). HoldsStale c.args.stale.now q) (sym out) (taken_out c.args.stale.now c.loop-block.queue c.in-Some.block c.loop-block.invariant at)

pub returns-clause-none : goal.returns-clause-none
returns-clause-none c = λ none. none_left c.args.stale.now c.loop-block.queue c.loop-block.invariant (c.in_default.ensures.none.0 refl)
