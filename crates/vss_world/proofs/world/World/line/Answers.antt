use Rattle.vss_world.proofs.world.World.line.Goals as goal

pub returns-in-Revert : goal.returns-in-Revert
returns-in-Revert g c = rw c.in-Revert.is (record { memory = tt; takes = λ e. cc; stepped = c.revert.ensures.stepped })
