use Rattle.std.proofs.Common.{◌≡◌, ◌∙◌, ap, length}
use Rattle.block_data.specs.BlockBytes.{sha256}
use Rattle.cow_volume.proofs.DeviceCalls.{whole_written}
use Rattle.mirror_volume.proofs.HavingSaid.{image_step, image_fault_step, no_image_step}
use Rattle.mirror_volume.proofs.replying.say_image.Goals as goal

pub returns-in-Ok-clause-step : goal.returns-in-Ok-clause-step
returns-in-Ok-clause-step g c =
    let same : c.bytes.result.now ≡ c.read_image_into.new.out = c.bytes.ensures.bytes
    ∙ whole_written c.args.scratch.now c.read_image_into.new.out (c.read_image_into.auto.out ∙ ap length c.bytes_mut.ensures.bytes) in
    λ h stood. image_step g.V.ImageVolume.stands g.V.ImageVolume.tells g.V.ImageVolume.size g.V.ImageVolume.slots g.V.ImageVolume.ready_for g.V.ImageVolume.count g.V.ImageVolume.sets
    g.V.ImageVolume.per_cut c.args.volume.now c.read_image_into.new.self h c.args.set c.args.block c.read_image_into.new.out c.digest.result
    (g.met.V.ImageVolume.sets_are c.args.volume.now h stood) c.in-Ok.ensures.read.0
    (λ p tell at. c.in-Ok.ensures.read.2 h p stood tell at) (c.digest.ensures.digest ∙ ap sha256 same) c.in-Ok.ensures.same c.in-Ok.ensures.ready

pub returns-in-Err-NoSuchImage-clause-step : goal.returns-in-Err-NoSuchImage-clause-step
returns-in-Err-NoSuchImage-clause-step g c = λ h stood.
    no_image_step g.V.ImageVolume.stands g.V.ImageVolume.tells g.V.ImageVolume.size g.V.ImageVolume.slots g.V.ImageVolume.ready_for g.V.ImageVolume.count g.V.ImageVolume.sets g.V.ImageVolume.per_cut
    c.args.volume.now c.read_image_into.new.self h c.args.set c.args.block (g.met.V.ImageVolume.sets_are c.args.volume.now h stood)
    (rw c.in-Err-NoSuchImage.field-0-is at c.in-Err-NoSuchImage.ensures.read) c.in-Err-NoSuchImage.ensures.same c.in-Err-NoSuchImage.ensures.ready

pub returns-in-Err-Volume-clause-step : goal.returns-in-Err-Volume-clause-step
returns-in-Err-Volume-clause-step g c =
    let read = rw c.in-Err-Volume.field-0-is at c.in-Err-Volume.ensures.read in
    λ h stood. image_fault_step g.V.ImageVolume.stands g.V.ImageVolume.tells g.V.ImageVolume.size g.V.ImageVolume.slots g.V.ImageVolume.ready_for g.V.ImageVolume.count g.V.ImageVolume.sets
    g.V.ImageVolume.per_cut c.args.volume.now c.read_image_into.new.self h c.args.set c.args.block
    (g.met.V.ImageVolume.sets_are c.args.volume.now h stood) read.0 read.2 c.in-Err-Volume.ensures.same c.in-Err-Volume.ensures.ready

pub returns-in-Err-Area-clause-step : goal.returns-in-Err-Area-clause-step
returns-in-Err-Area-clause-step g c =
    let read = rw c.in-Err-Area.field-0-is at c.in-Err-Area.ensures.read in
    λ h stood. image_fault_step g.V.ImageVolume.stands g.V.ImageVolume.tells g.V.ImageVolume.size g.V.ImageVolume.slots g.V.ImageVolume.ready_for g.V.ImageVolume.count g.V.ImageVolume.sets
    g.V.ImageVolume.per_cut c.args.volume.now c.read_image_into.new.self h c.args.set c.args.block
    (g.met.V.ImageVolume.sets_are c.args.volume.now h stood) read.0 read.2 c.in-Err-Area.ensures.same c.in-Err-Area.ensures.ready
