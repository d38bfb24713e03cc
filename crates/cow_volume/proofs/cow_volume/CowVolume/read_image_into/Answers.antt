use Rattle.std.proofs.Common.{◌∙◌}
use Rattle.cow_volume.proofs.OneVolume.{one_shown_if, one_quiet}
use Rattle.cow_volume.proofs.cow_volume.CowVolume.read_image_into.Goals as goal

pub returns-clause-shown : goal.returns-clause-shown
returns-clause-shown g c =
    let is = one_shown_if g.D.Device.told c.self.inside.group c.args.set c.args.block c.read_into.new.out c.read_into.result
    (c.volumes-valid.ensures.devices ∙ c.self.invariant) c.read_into.ensures.seen in
    rw (← c.self.view_is) is

pub returns-clause-stands : goal.returns-clause-stands
returns-clause-stands g c =
    let is = one_quiet g.D.Device c.self.inside.group c.read_into.new.self c.read_into.ensures.quiet in
    rw (← c.self.view_is) is
