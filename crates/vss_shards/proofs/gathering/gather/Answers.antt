use Rattle.std.proofs.Common.{arith, ◌≡◌, ◌<◌, length}
use Rattle.std.proofs.lemmas.Option.{slice_get_within}
use Rattle.std.proofs.lemmas.Result.{err_from_is_err_and}
use Rattle.vss_shards.specs.Journals.{part_of}
use Rattle.vss_shards.specs.OneMoment.{IsOffIn}
use Rattle.vss_shards.specs.Shards.{ShardValue}
use Rattle.vss_shards.proofs.Lists.{at_place, more_at}
use Rattle.vss_shards.proofs.Keeping.{off_is_told}
use Rattle.vss_shards.proofs.gathering.gather.Goals as goal

pub returns : goal.returns
returns g c = (c.in_ok-all_free.ensures.free, λ k s at. c.loop-shard.invariant k (let within = slice_get_within c.args.shards.now k s at in let test = c.loop-shard-test.false in omega arith) s at)

pub returns-in_err-compare : goal.returns-in_err-compare
returns-in_err-compare g c =
    let within : c.loop-shard.shard-index < length c.args.shards.now = (let test = c.loop-shard-test.true in omega arith) in
    let here = at_place c.args.shards.now c.loop-shard.shard-index c.shard-item.result within c.shard-item.is in
    let off : IsOffIn c.shard-item.result.number c.shard-item.result.entries (part_of c.shard-item.result.number c.args.journal.now.entries) c.in_err-compare.field-0.0 =
    rw (← c.shard.view_is, ← c.journal.view_is, ← c.deref.ensures.value, ← c.deref-in-loop-shard.ensures.value) c.in_err-compare.ensures.differ in
    let told = off_is_told c.args.shards.now c.args.journal.now.entries c.loop-shard.shard-index c.shard-item.result c.in_err-compare.field-0.0
    c.in_ok-all_free.ensures.free c.loop-shard.invariant here off in
    let p = err_from_is_err_and c.from_residual-in_err-compare.result c.from_residual-in_err-compare.ensures.1 in
    rw (p.1, p.2) told

pub loop-shard-preserved : goal.loop-shard-preserved
loop-shard-preserved g c =
    let within : c.loop-shard.shard-index < length c.args.shards.now = (let test = c.loop-shard-test.true in omega arith) in
    let here = at_place c.args.shards.now c.loop-shard.shard-index c.shard-item.result within c.shard-item.is in
    λ k l s at. more_at (λ (x : ShardValue _). x.entries ≡ part_of x.number c.args.journal.now.entries) c.args.shards.now c.loop-shard.shard-index c.shard-item.result
    here (rw (← c.shard.view_is, ← c.journal.view_is, ← c.deref.ensures.value, ← c.deref-in-loop-shard.ensures.value) c.in_ok-compare.ensures.same)
    (λ j x before is. c.loop-shard.invariant j before x is) k s l at
