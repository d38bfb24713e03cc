use Rattle.std.proofs.Common.{◌∙◌}
use Rattle.cow_volume.proofs.OneVolume.{one_lent}
use Rattle.cow_volume.proofs.cow_volume.CowVolume.lend_image.Goals as goal

pub returns-clause-shown : goal.returns-clause-shown
returns-clause-shown g c =
    let is = one_lent g.D.Device.told c.self.inside.group c.args.set c.args.block c.lend.result (λ bytes. bytes.now)
    (c.volumes-valid.ensures.devices ∙ c.self.invariant) c.lend.ensures.seen in
    rw (← c.self.view_is) is
