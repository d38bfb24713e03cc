use Rattle.std.proofs.Common.{◌≡◌, ◌∙◌, List}
use Rattle.write_history.specs.History.{History}
use Rattle.write_history.specs.Slots.{used}
use Rattle.cow_volume.specs.StandsFor.{StandsFor}
use Rattle.cow_volume.specs.Calls.{blocks_at, history_at}
use Rattle.cow_volume.proofs.RecordCounts.{group_used_on}
use Rattle.cow_volume.specs.Parts.{group_of}
use Rattle.cow_volume.proofs.cow_group.CowGroup.used.Goals as goal

pub returns : goal.returns
returns g c =
    let within = rw (← c.self.view_is) at c.requires in
    let is : (hs : List History) → StandsFor g.D.Device.told (group_of c.self.inside.devices.items c.self.inside.copies) hs
    → c.used_on.result ≡ used (blocks_at (group_of c.self.inside.devices.items c.self.inside.copies) c.args.v) (history_at hs c.args.v).writes (history_at hs c.args.v).images =
    λ hs stood. c.used_on.ensures ∙ group_used_on g.D.Device.told (group_of c.self.inside.devices.items c.self.inside.copies) hs c.args.v stood c.slots-facts.ensures.valid within in
    rw (← c.self.view_is) is
