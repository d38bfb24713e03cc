use Rattle.std.proofs.Common.{◌∙◌}
use Rattle.vss_world.proofs.Looking.{query_moves}
use Rattle.vss_world.proofs.world.World.query.Goals as goal

pub returns : goal.returns
returns g c =
    rw c.told.ensures (rw (← c.self.view_is) (query_moves g.D.Device (rw (← c.self.view_is) at c.requires.of) c.clear.ensures
    (λ acts stands. c.list.ensures ∙ c.kept_sets-sets.ensures.sets acts stands.at.sessions stands.at.groups)))
