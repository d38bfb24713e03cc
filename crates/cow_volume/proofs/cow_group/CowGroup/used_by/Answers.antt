use Rattle.std.proofs.Common.{◌≡◌, ◌∙◌, ℕ, List, Some, None, ap, sym, true, false}
use Rattle.write_history.specs.History.{History}
use Rattle.write_history.specs.Slots.{used_by}
use Rattle.cow_volume.specs.StandsFor.{StandsFor}
use Rattle.cow_volume.specs.Calls.{is_among, sets_at, blocks_at, history_at}
use Rattle.cow_volume.proofs.RecordCounts.{group_used_by, group_not_used_by}
use Rattle.cow_volume.specs.CopiesAfter.{images_on}
use Rattle.cow_volume.specs.Parts.{group_of}
use Rattle.cow_volume.proofs.Evicting.{contains_among}
use Rattle.cow_volume.proofs.cow_group.CowGroup.used_by.Goals as goal

pub returns-then-not-has_image : goal.returns-then-not-has_image
returns-then-not-has_image g c =
    let within = rw (← c.self.view_is) at c.requires in
    let none : is_among c.args.set (sets_at (group_of c.self.inside.devices.items c.self.inside.copies) c.args.v) ≡ false = sym c.has_image.ensures.among ∙ c.if-not-has_image.true in
    let is : (hs : List History) → StandsFor g.D.Device.told (group_of c.self.inside.devices.items c.self.inside.copies) hs
    → None ≡ used_by (blocks_at (group_of c.self.inside.devices.items c.self.inside.copies) c.args.v) (history_at hs c.args.v).writes (history_at hs c.args.v).images c.args.set =
    λ hs stood. group_not_used_by g.D.Device.told (group_of c.self.inside.devices.items c.self.inside.copies) hs c.args.v c.args.set stood within none in
    rw (← c.self.view_is) is

pub used_of-requires-clause-image : goal.used_of-requires-clause-image
used_of-requires-clause-image g c = contains_among c.args.set (images_on c.self.inside.copies c.args.v) (sym c.has_image.ensures.among ∙ c.if-not-has_image.false)

pub returns : goal.returns
returns g c =
    let within = rw (← c.self.view_is) at c.requires in
    let image : is_among c.args.set (sets_at (group_of c.self.inside.devices.items c.self.inside.copies) c.args.v) ≡ true = sym c.has_image.ensures.among ∙ c.if-not-has_image.false in
    let is : (hs : List History) → StandsFor g.D.Device.told (group_of c.self.inside.devices.items c.self.inside.copies) hs
    → Some c.used_of.result ≡ used_by (blocks_at (group_of c.self.inside.devices.items c.self.inside.copies) c.args.v) (history_at hs c.args.v).writes (history_at hs c.args.v).images c.args.set =
    λ hs stood. ap (λ (n : ℕ). Some n) c.used_of.ensures
    ∙ group_used_by g.D.Device.told (group_of c.self.inside.devices.items c.self.inside.copies) hs c.args.v c.args.set stood c.slots-facts.ensures.valid within image in
    rw (← c.self.view_is) is
