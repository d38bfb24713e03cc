use Rattle.std.proofs.Common.{◌≡◌, ◌∙◌, sym, true}
use Rattle.cow_volume.specs.CopiesAfter.{images_on}
use Rattle.cow_volume.specs.Room.{lacks_slot, lacks_copy, is_full}
use Rattle.cow_volume.proofs.Merging.{and_left, and_right}
use Rattle.cow_volume.proofs.Ties.{lacks_some}
use Rattle.cow_volume.proofs.MakingRoom.{room_there, room_made_by}
use Rattle.cow_volume.proofs.copies.Copies.goes_up_to.Goals as goal

pub returns-then-not-lacks_slot : goal.returns-then-not-lacks_slot
returns-then-not-lacks_slot g c = room_there c.args.self.now c.args.v c.args.block c.slots-facts.ensures.valid c.volumes-facts.ensures.of_images (sym c.lacks_slot.ensures ∙ c.if-not-lacks_slot.true)

pub first_to_free-requires-clause-some : goal.first_to_free-requires-clause-some
first_to_free-requires-clause-some g c =
    let now = c.args.self.now in
    let lacks : lacks_slot now.area.records c.args.v (images_on now c.args.v) c.args.block ≡ true = sym c.lacks_slot.ensures ∙ c.if-not-lacks_slot.false in
    lacks_some now.area.records c.args.v (images_on now c.args.v) c.args.block (and_left (lacks_copy now.area.records c.args.v (images_on now c.args.v) c.args.block) (is_full now.area.records) lacks)

pub first_to_free-requires-clause-full : goal.first_to_free-requires-clause-full
first_to_free-requires-clause-full g c =
    let now = c.args.self.now in
    let lacks : lacks_slot now.area.records c.args.v (images_on now c.args.v) c.args.block ≡ true = sym c.lacks_slot.ensures ∙ c.if-not-lacks_slot.false in
    and_right (lacks_copy now.area.records c.args.v (images_on now c.args.v) c.args.block) (is_full now.area.records) lacks

pub returns : goal.returns
returns g c = room_made_by c.args.self.now c.args.v c.args.block c.first_to_free.result c.slots-facts.ensures.valid c.volumes-facts.ensures.images c.volumes-facts.ensures.of_images c.requires
    (sym c.lacks_slot.ensures ∙ c.if-not-lacks_slot.false) c.first_to_free.ensures
