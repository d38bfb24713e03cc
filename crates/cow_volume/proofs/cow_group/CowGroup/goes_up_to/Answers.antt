use Rattle.std.proofs.Common.{List}
use Rattle.write_history.specs.History.{History}
use Rattle.cow_volume.specs.StandsFor.{StandsFor}
use Rattle.cow_volume.specs.Calls.{IsEvicted}
use Rattle.cow_volume.specs.Parts.{group_of}
use Rattle.cow_volume.proofs.GroupWrites.{room_lift}
use Rattle.cow_volume.proofs.cow_group.CowGroup.goes_up_to.Goals as goal

pub returns : goal.returns
returns g c =
    let now = group_of c.self.inside.devices.items c.self.inside.copies in
    let low = rw (← c.self.view_is) at c.requires.in_range in
    let evicted : (hs : List History) → StandsFor g.D.Device.told now hs → IsEvicted now c.args.v c.args.block hs c.goes_up_to.result =
    λ hs stood. room_lift g.D.Device.told now hs c.args.v c.args.block c.goes_up_to.result stood c.slots-facts.ensures.valid low c.goes_up_to.ensures in
    rw (← c.self.view_is) evicted
