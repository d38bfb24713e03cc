use Rattle.std.proofs.Common.{◌∙◌, ap, arith, length}
use Rattle.vss_shards.proofs.Lists.{count_of_shards}
use Rattle.vss_shards.proofs.shards.Shards.new.Goals as goal

pub returns : goal.returns
returns g c = c.in_ok-shards.ensures ∙ ap length c.in_ok-numbered.ensures ∙ count_of_shards 0 c.args.volumes.items

pub invariant_of-result : goal.invariant_of-result
invariant_of-result g c =
    let same = c.in_ok-shards.ensures ∙ ap length c.in_ok-numbered.ensures ∙ count_of_shards 0 c.args.volumes.items in
    (omega (arith, same, c.in_ok-states.ensures.capacity, c.len-count.ensures), c.in_ok-states.ensures.items, omega (arith, same, c.requires.few))
