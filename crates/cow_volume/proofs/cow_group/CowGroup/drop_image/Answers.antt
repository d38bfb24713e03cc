use Rattle.std.proofs.Common.{◌≡◌, ◌∙◌, sym, true}
use Rattle.cow_volume.specs.Calls.{is_among}
use Rattle.cow_volume.specs.CopiesAfter.{images_on}
use Rattle.cow_volume.proofs.GroupReverts.{contains_of, image_gone}
use Rattle.cow_volume.proofs.cow_group.CowGroup.drop_image.Goals as goal

pub merge_image-requires-clause-image : goal.merge_image-requires-clause-image
merge_image-requires-clause-image g c = contains_of c.args.set (images_on c.self.inside.copies c.args.v) (sym c.has_image.ensures.among ∙ c.if-not-has_image.false)

pub returns : goal.returns
returns g c =
    let among : is_among c.args.set (images_on c.self.inside.copies c.args.v) ≡ true = sym c.has_image.ensures.among ∙ c.if-not-has_image.false in
    let gone = image_gone g.D.Device c.self.inside.devices.items c.self.inside.copies c.merge_image.new.copies c.args.v c.args.set among
    c.merge_image.ensures.merged (c.merge_image.ensures.stands c.self.inside.devices.items) in
    rw (← c.self.view_is) gone
