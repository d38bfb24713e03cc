use Rattle.std.proofs.Common.{◌∙◌}
use Rattle.cow_volume.proofs.OneVolume.{one_now_lent}
use Rattle.cow_volume.proofs.cow_volume.CowVolume.lend_block.Goals as goal

pub returns-clause-now : goal.returns-clause-now
returns-clause-now g c =
    let is = one_now_lent g.D.Device.told c.self.inside.group c.args.block c.in-Ok.lent (λ bytes. bytes.now) (c.volumes-valid.ensures.devices ∙ c.self.invariant) c.in-Ok.ensures.seen in
    rw (← c.self.view_is) is
