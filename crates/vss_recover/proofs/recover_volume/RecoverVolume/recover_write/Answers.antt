use Rattle.std.proofs.Common.{◌≡◌, ◌<◌, Some, arith, rules, refl}
use Rattle.block_data.specs.BlockBytes.{payload_bytes}
use Rattle.vss_recover.proofs.InParts.{value_of, recovered_if_ok}
use Rattle.cow_volume.specs.OneVolume.{blocks_of}
use Rattle.vss_recover.specs.Steps.{owner_of}
use Rattle.vss_recover.proofs.Taken.{room_is}
use Rattle.vss_recover.proofs.recover_volume.RecoverVolume.recover_write.Goals as goal

pub returns-then-ne-2-clause-full : goal.returns-then-ne-2-clause-full
returns-then-ne-2-clause-full g c =
    rw (← c.self.view_is)
    (λ h stood window low. room_is g.D.Device.told
    (value_of c.self.inside.volume c.self.inside.overlay c.self.inside.window c.self.inside.claims.items c.self.inside.finals.items) h c.args.set c.args.block stood c.self.invariant.fits
    c.slots-facts.ensures.valid window low)

pub returns-clause-full : goal.returns-clause-full
returns-clause-full g c =
    rw (← c.self.view_is)
    (λ h stood window low. room_is g.D.Device.told
    (value_of c.self.inside.volume c.self.inside.overlay c.self.inside.window c.self.inside.claims.items c.self.inside.finals.items) h c.args.set c.args.block stood c.self.invariant.fits
    c.slots-facts.ensures.valid window low)

pub returns-clause-step : goal.returns-clause-step
returns-clause-step g c =
    let window : c.self.inside.window ≡ Some c.args.set = search rules in
    let owner : owner_of c.self.inside.claims.items c.args.block ≡ Some c.args.writer = search rules in
    let low : c.args.block < blocks_of c.self.inside.volume = (let l = c.if-block-blocks.false in let n = c.blocks-2.ensures in omega arith) in
    rw (← c.self.view_is)
    (recovered_if_ok g.D.Device
    (value_of c.self.inside.volume c.self.inside.overlay c.self.inside.window c.self.inside.claims.items c.self.inside.finals.items) c.put_payload.new.overlay
    (record { set = c.args.set; writer = c.args.writer; write = record { block = c.args.block; bytes = payload_bytes c.args.payload.now } })
    (payload_bytes c.args.payload.now) c.put_payload.result refl c.self.invariant.fits c.slots-facts.ensures.valid c.slots-facts.ensures.fits c.slots-facts.ensures.whole window low owner
    c.put_payload.ensures)
