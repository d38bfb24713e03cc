use Rattle.cow_volume.specs.Resuming.{AllHaveImages}
use Rattle.cow_volume.proofs.TakingUp.{all_have}
use Rattle.cow_volume.proofs.cow_group.CowGroup.volumes.Goals as goal

pub returns-clause-have_images : goal.returns-clause-have_images
returns-clause-have_images g c =
    let now = c.self.inside.copies in
    let all : AllHaveImages now.area.records now.images = all_have now.area.volumes now.area.records now.images c.slots-facts.ensures.valid c.volumes.ensures.of_images c.volumes.ensures.images in
    rw (← c.self.view_is) all

pub returns-clause-records : goal.returns-clause-records
returns-clause-records g c = rw (← c.self.view_is) c.slots-facts.ensures.valid

pub returns-clause-whole : goal.returns-clause-whole
returns-clause-whole g c = rw (← c.self.view_is) c.slots-facts.ensures.whole

pub returns-clause-slots : goal.returns-clause-slots
returns-clause-slots g c = rw (← c.self.view_is) c.slots-facts.ensures.fits
