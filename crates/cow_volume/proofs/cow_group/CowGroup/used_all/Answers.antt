use Rattle.std.proofs.Common.{◌≡◌, ◌∙◌, List}
use Rattle.write_history.specs.History.{History}
use Rattle.write_history.specs.Slots.{group_used}
use Rattle.cow_volume.specs.StandsFor.{placed, StandsFor}
use Rattle.cow_volume.specs.Parts.{group_of}
use Rattle.cow_volume.proofs.Counting.{group_used_of}
use Rattle.cow_volume.proofs.cow_group.CowGroup.used_all.Goals as goal

pub returns-clause-used : goal.returns-clause-used
returns-clause-used g c =
    let now = group_of c.self.inside.devices.items c.self.inside.copies in
    let used : (hs : List History) → StandsFor g.D.Device.told now hs → c.used.result ≡ group_used (placed now.area.volumes) hs = λ hs stood. c.used.ensures
    ∙ group_used_of g.D.Device.told now hs stood c.slots-facts.ensures.valid in
    rw (← c.self.view_is) used

pub returns-clause-records : goal.returns-clause-records
returns-clause-records g c = rw (← c.self.view_is) c.used.ensures
