use Rattle.std.proofs.Common.{arith}
use Rattle.provider.proofs.Room.{renumbered_next}
use Rattle.provider.proofs.renumbering.renumber.Goals as goal

pub loop-i-preserved : goal.loop-i-preserved
loop-i-preserved c = (
  renumbered_next c.args.scenario.now c.args.group c.loop-i.i c.loop-i.images.items c.args.images.now.items c.index.result.now c.index_mut.result.now c.volume_at.result
      (omega (arith, c.loop-i-test.true, c.loop-i.auto.i-end, c.len-i-end.ensures, c.args.images.now.ok.0)) c.loop-i.invariant.0 c.index.ensures c.index_mut.ensures.value c.volume_at.ensures,
  c.loop-i.invariant.1,
)
