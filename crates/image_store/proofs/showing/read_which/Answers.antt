use Rattle.image_store.proofs.Plains.{quiet_kept}
use Rattle.image_store.proofs.Shown.{now_read, image_read}
use Rattle.image_store.proofs.showing.read_which.Goals as goal

pub returns-in-Ok-clause-read : goal.returns-in-Ok-clause-read
returns-in-Ok-clause-read g c = rw c.in-Now.is (now_read g.D.Device.told c.args.group.now c.args.v c.args.b c.read_volume.new.self c.requires.volume c.requires.in_range c.in-Ok.ensures.now)

pub returns-in-Ok-read_image-clause-read : goal.returns-in-Ok-read_image-clause-read
returns-in-Ok-read_image-clause-read g c = rw c.in-Of.is (image_read g.D.Device.told c.args.group.now c.args.v c.in-Of.set c.args.b c.read_image.new.self c.requires.volume c.requires.in_range
    c.in-Ok-read_image.ensures.image c.in-Ok-read_image.ensures.shown)

pub returns-in-Err-clause-kept : goal.returns-in-Err-clause-kept
returns-in-Err-clause-kept g c = quiet_kept g.D.Device c.args.group.now c.read_volume.new.group c.read_volume.ensures.quiet

pub returns-in-Ok-clause-kept : goal.returns-in-Ok-clause-kept
returns-in-Ok-clause-kept g c = quiet_kept g.D.Device c.args.group.now c.read_volume.new.group c.read_volume.ensures.quiet

pub returns-in-Err-Area-clause-kept : goal.returns-in-Err-Area-clause-kept
returns-in-Err-Area-clause-kept g c = quiet_kept g.D.Device c.args.group.now c.read_volume.new.group c.read_volume.ensures.quiet

pub returns-in-Ok-read_image-clause-kept : goal.returns-in-Ok-read_image-clause-kept
returns-in-Ok-read_image-clause-kept g c = quiet_kept g.D.Device c.args.group.now c.read_image.new.group c.read_image.ensures.quiet

pub returns-in-Err-NoSuchImage-clause-kept : goal.returns-in-Err-NoSuchImage-clause-kept
returns-in-Err-NoSuchImage-clause-kept g c = quiet_kept g.D.Device c.args.group.now c.read_image.new.group c.read_image.ensures.quiet

pub returns-in-Err-Area-read_image-clause-kept : goal.returns-in-Err-Area-read_image-clause-kept
returns-in-Err-Area-read_image-clause-kept g c = quiet_kept g.D.Device c.args.group.now c.read_image.new.group c.read_image.ensures.quiet

pub returns-in-Err-read_image-clause-kept : goal.returns-in-Err-read_image-clause-kept
returns-in-Err-read_image-clause-kept g c = quiet_kept g.D.Device c.args.group.now c.read_image.new.group c.read_image.ensures.quiet
