use Rattle.std.proofs.Common.{◌∙◌}
use Rattle.cow_volume.proofs.OneVolume.{one_now, one_quiet}
use Rattle.cow_volume.proofs.cow_volume.CowVolume.read_into.Goals as goal
use Rattle.cow_volume.proofs.cow_volume.CowVolume.read_into.Goals.{in-Ok, in-Err}

pub returns-clause-now : goal.returns-clause-now
returns-clause-now g c =
    elim c.match-read_into.branch [
      | in-Ok w ↦ rw (w.result-is, ← c.self.view_is)
          (one_now g.D.Device.told c.self.inside.group c.args.block c.read_into.new.out (c.volumes-valid.ensures.devices ∙ c.self.invariant) w.in-Ok.ensures.seen)
      | in-Err w ↦ rw w.result-is tt
    ]

pub returns-clause-stands : goal.returns-clause-stands
returns-clause-stands g c =
    let is = one_quiet g.D.Device c.self.inside.group c.read_into.new.self c.read_into.ensures.quiet in
    rw (← c.self.view_is) is
