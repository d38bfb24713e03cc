use Rattle.std.proofs.Common.{◌≤◌, ◌*◌, ◌∙◌, length, ap, sym, arith}
use Rattle.cow_volume.proofs.Listed.{few_going}
use Rattle.cow_volume.proofs.GroupWrites.{room_is}
use Rattle.cow_volume.proofs.cow_group.CowGroup.make_room.Goals as goal

pub invariant_of-self : goal.invariant_of-self
invariant_of-self g c = c.self.invariant ∙ ap (λ x. x.area.volumes) (sym c.drop_up_to.ensures)

pub returns-clause-room : goal.returns-clause-room
returns-clause-room g c =
    let low = rw (← c.self.view_is) at c.requires.in_range in
    let room = room_is g.D.Device.told c.self.inside.devices.items c.self.inside.copies c.drop_up_to.new.self c.args.v c.args.block c.goes_up_to-up_to.result c.slots-facts.ensures.valid
    c.volumes-facts.ensures.of_images low c.goes_up_to-up_to.ensures c.drop_up_to.ensures in
    rw (← c.self.view_is) room

pub returns-clause-few : goal.returns-clause-few
returns-clause-few g c =
    let most = few_going c.goes_up_to-up_to.result c.self.inside.copies.images (λ u sets at. (c.volumes-facts.ensures.of_images.sets u sets at).few) in
    let many = c.volumes-facts.ensures.images in
    let is = ap length c.list_going.ensures.told in
    let few : length c.list_going.new.gone.items ≤ 512 * length c.self.inside.copies.area.volumes = omega (arith, most, many, is) in
    rw (← c.self.view_is) few
