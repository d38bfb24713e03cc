use Rattle.vss_world.proofs.ToldMarks.{none_put}
use Rattle.vss_world.proofs.writing.put_or_fail.Goals as goal

pub returns-then-fails-clause-put : goal.returns-then-fails-clause-put
returns-then-fails-clause-put g c = rw c.if-fails.true (none_put g.D.Device c.args.provider.now c.args.volume _ c.requires.has c.requires.block.0)

pub returns-clause-put : goal.returns-clause-put
returns-clause-put g c = rw c.if-fails.false c.put.ensures.put
