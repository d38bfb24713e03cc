use Rattle.vss_world.proofs.Digesting.{device_fault, told_of, quiet_is, stands_there}
use Rattle.vss_world.proofs.world.World.digest.Goals as goal
use Rattle.vss_world.proofs.world.World.digest.Goals.{in-Ok, in-Err}

pub returns-clause-digest : goal.returns-clause-digest
returns-clause-digest g c =
    elim c.match-digest.branch [
      | in-Ok w ↦ rw w.result-is (told_of g.D.Device.told c.self.view_is c.requires.of c.args.set w.in-Ok.digest c.requires.in_range
          (w.in-Ok.ensures.digest, w.in-Ok.ensures.wide.0, w.in-Ok.ensures.wide.1))
      | in-Err w ↦ rw w.result-is tt
    ]

pub returns-clause-quiet : goal.returns-clause-quiet
returns-clause-quiet g c = rw (← c.self.view_is) (quiet_is g.D.Device (rw (← c.self.view_is) at c.requires.of) c.digest.ensures.set c.digest.ensures.quiet)

pub cause-requires : goal.cause-requires
cause-requires g c =
    device_fault g.D.Device _ _ c.args.set c.in-Err.fault _ _
    (stands_there g.D.Device.told _ _ c.args.set c.args.volume (rw (← c.self.view_is) at c.requires.standing) (rw (← c.self.view_is) at c.requires.is_kept)) c.in-Err.ensures.cause
