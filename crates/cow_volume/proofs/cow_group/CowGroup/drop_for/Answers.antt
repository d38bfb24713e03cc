use Rattle.std.proofs.Common.{◌∙◌, ap, sym}
use Rattle.cow_volume.proofs.GroupWrites.{room_is}
use Rattle.cow_volume.proofs.cow_group.CowGroup.drop_for.Goals as goal

pub invariant_of-self : goal.invariant_of-self
invariant_of-self g c = c.self.invariant ∙ ap (λ x. x.area.volumes) (sym c.drop_up_to.ensures)

pub returns : goal.returns
returns g c =
    let low = rw (← c.self.view_is) at c.requires.in_range in
    let room = room_is g.D.Device.told c.self.inside.devices.items c.self.inside.copies c.drop_up_to.new.self c.args.v c.args.block c.goes_up_to-up_to.result c.slots-facts.ensures.valid
    c.volumes-facts.ensures.of_images low c.goes_up_to-up_to.ensures c.drop_up_to.ensures in
    rw (← c.self.view_is) room
