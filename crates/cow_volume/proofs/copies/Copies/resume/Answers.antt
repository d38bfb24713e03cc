use Rattle.std.proofs.Common.{refl}
use Rattle.cow_volume.specs.Parts.{images_of}
use Rattle.cow_volume.proofs.MakingRoom.{same_parts}
use Rattle.cow_volume.proofs.TakingUp.{tied_all, images_all}
use Rattle.cow_volume.proofs.copies.Copies.resume.Goals as goal

pub invariant_of-result : goal.invariant_of-result
invariant_of-result g c = tied_all c.args.area.volumes c.args.area.records c.args.images.now c.note_copies.new.maps c.in-Ok-pool_of.pool c.in_ok-note_copies.ensures.noted c.in-Ok-pool_of.ensures

pub returns-clause-value : goal.returns-clause-value
returns-clause-value g c = same_parts c.args.area c.args.area (images_of c.note_copies.new.maps) c.args.images.now refl
    (images_all c.args.area.volumes c.args.area.records c.args.images.now _ c.note_copies.new.maps c.in_ok-note_copies.ensures.noted c.requires.lists)
