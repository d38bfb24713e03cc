use Rattle.std.proofs.Common.{refl, arith, sym, ◌∙◌, ◌≡◌, ◌<◌, None, length}
use Rattle.std.proofs.lemmas.Option.{slice_get_within}
use Rattle.vss_shards.specs.Shards.{ShardValue}
use Rattle.vss_shards.proofs.Lists.{none_of, at_place, more_at}
use Rattle.vss_shards.proofs.gathering.all_free.Goals as goal

pub returns-then-is_some-clause-held : goal.returns-then-is_some-clause-held
returns-then-is_some-clause-held g c =
    let within : c.loop-shard.shard-index < length c.args.shards.now = (let test = c.loop-shard-test.true in omega arith) in
    record {
      place = c.loop-shard.shard-index;
      shard = c.shard-item.result;
      is = at_place c.args.shards.now c.loop-shard.shard-index c.shard-item.result within c.shard-item.is;
      held = rw (← c.shard.view_is) (sym c.is_some.ensures ∙ c.if-is_some.true);
      number = rw (← c.shard.view_is) refl;
      before = λ k l s at. c.loop-shard.invariant k l s at;
    }

pub loop-shard-preserved : goal.loop-shard-preserved
loop-shard-preserved g c =
    let within : c.loop-shard.shard-index < length c.args.shards.now = (let test = c.loop-shard-test.true in omega arith) in
    let free : c.shard-item.result.held ≡ None = rw (← c.shard.view_is) (none_of c.shard.inside.held (sym c.is_some.ensures ∙ c.if-is_some.false)) in
    λ k l s at. more_at (λ (x : ShardValue _). x.held ≡ None) c.args.shards.now c.loop-shard.shard-index c.shard-item.result
    (at_place c.args.shards.now c.loop-shard.shard-index c.shard-item.result within c.shard-item.is) free (λ j x before is. c.loop-shard.invariant j before x is) k s l at

pub returns-clause-free : goal.returns-clause-free
returns-clause-free g c = λ k s at. c.loop-shard.invariant k (let within = slice_get_within c.args.shards.now k s at in let test = c.loop-shard-test.false in omega arith) s at
