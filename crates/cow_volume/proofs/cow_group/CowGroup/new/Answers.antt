use Rattle.cow_volume.proofs.TakingUp.{new_stands}
use Rattle.cow_volume.proofs.cow_group.CowGroup.new.Goals as goal

pub returns-clause-stands : goal.returns-clause-stands
returns-clause-stands g c =
    let stands = new_stands g.D.Device.told g.D.Device.size c.args.devices.items c.args.area c.requires.fits c.requires.free c.requires.zeros in
    rw c.in_ok-copies.ensures stands
