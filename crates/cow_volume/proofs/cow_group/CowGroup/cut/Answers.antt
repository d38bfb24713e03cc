use Rattle.std.proofs.Common.{◌∙◌, List, ap, sym, refl}
use Rattle.write_history.specs.History.{History, cut as cut_at}
use Rattle.cow_volume.specs.StandsFor.{StandsFor}
use Rattle.cow_volume.specs.Calls.{changed_at}
use Rattle.cow_volume.proofs.Kept.{group_cut}
use Rattle.cow_volume.specs.Parts.{group_of}
use Rattle.cow_volume.proofs.cow_group.CowGroup.cut.Goals as goal

pub invariant_of-self : goal.invariant_of-self
invariant_of-self g c = c.self.invariant ∙ ap (λ x. x.area.volumes) (sym c.add_image.ensures)

pub returns-clause-devices : goal.returns-clause-devices
returns-clause-devices g c = ap (λ x. x.devices) c.self.view_is

pub returns-clause-area : goal.returns-clause-area
returns-clause-area g c = ap (λ x. x.area) c.add_image.ensures ∙ ap (λ x. x.area) c.self.view_is

pub returns-clause-stands : goal.returns-clause-stands
returns-clause-stands g c =
    let within = rw (← c.self.view_is) at c.requires.volume in
    let room = rw (← c.self.view_is) at c.requires.room in
    let newest = rw (← c.self.view_is) at c.requires.newest in
    let stands : (hs : List History) → StandsFor g.D.Device.told (group_of c.self.inside.devices.items c.self.inside.copies) hs
    → StandsFor g.D.Device.told (group_of c.self.inside.devices.items c.add_image.new.self) (changed_at c.args.v (cut_at c.args.set) hs) =
    λ hs stood. group_cut g.D.Device.told (group_of c.self.inside.devices.items c.self.inside.copies)
    (group_of c.self.inside.devices.items c.add_image.new.self) hs c.args.v c.args.set stood within newest c.requires.above_zero room
    refl (ap (λ x. x.images) c.add_image.ensures) (ap (λ x. x.area) c.add_image.ensures) in
    rw (← c.self.view_is) stands
