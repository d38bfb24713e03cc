use Rattle.std.proofs.Common.{refl, ◌∙◌}
use Rattle.cow_volume.proofs.Kept.{quiet_area}
use Rattle.cow_volume.proofs.DeviceCalls.{still_lasts}
use Rattle.cow_volume.proofs.RestoringSteps.{rose_further}
use Rattle.cow_volume.proofs.Synced.{synced_all, synced_part, synced_further, stored_all, table_written, written_whole}
use Rattle.cow_volume.proofs.ending.sync_all.Goals as goal

pub returns-in-Err-clause-sync : goal.returns-in-Err-clause-sync
returns-in-Err-clause-sync g c = λ devices. (
  synced_part g.D.Device devices c.args.copies.now c.sync.new.self c.in-Err.ensures.table c.in-Err.ensures.images c.in-Err.ensures.cause.later
      c.in-Err.ensures.in_part,
  refl,
  record { rose = c.in-Err.ensures.cause.rose refl; devices = refl },
)

pub returns-in-Err-flush-clause-sync : goal.returns-in-Err-flush-clause-sync
returns-in-Err-flush-clause-sync g c = λ devices. (
  synced_further g.D.Device devices c.args.copies.now c.sync.new.self c.flush.new.self
      (synced_all g.D.Device devices c.args.copies.now c.sync.new.self c.in-Ok.ensures.table c.in-Ok.ensures.images
      c.in-Ok.ensures.cause.later c.in-Ok.ensures.written)
      (quiet_area g.D.Device devices c.sync.new.self c.flush.new.self c.in-Err-flush.ensures.table c.in-Err-flush.ensures.images
      c.in-Err-flush.ensures.told c.in-Err-flush.ensures.cause.later
      (still_lasts g.D.Device c.sync.new.self.area.device c.flush.new.self.area.device c.in-Err-flush.ensures.told c.in-Err-flush.ensures.lasting)),
  refl,
  record {
    rose = rose_further (g.D.Device.count c.args.copies.now.area.device) (g.D.Device.count c.sync.new.self.area.device) (g.D.Device.count c.flush.new.self.area.device) c.in-Ok.ensures.cause.later
        (c.in-Err-flush.ensures.cause.rose refl);
    devices = refl;
  },
)

pub returns-in-Ok-flush-clause-sync : goal.returns-in-Ok-flush-clause-sync
returns-in-Ok-flush-clause-sync g c = λ devices. (
  synced_further g.D.Device devices c.args.copies.now c.sync.new.self c.flush.new.self
      (synced_all g.D.Device devices c.args.copies.now c.sync.new.self c.in-Ok.ensures.table c.in-Ok.ensures.images
      c.in-Ok.ensures.cause.later c.in-Ok.ensures.written)
      (quiet_area g.D.Device devices c.sync.new.self c.flush.new.self c.in-Ok-flush.ensures.table c.in-Ok-flush.ensures.images
      c.in-Ok-flush.ensures.told c.in-Ok-flush.ensures.cause.later (λ h. c.in-Ok-flush.ensures.lasts)),
  stored_all g.D.Device.told devices c.args.copies.now c.sync.new.self c.flush.new.self c.slots-facts.ensures.valid c.in-Ok-flush.ensures.told c.in-Ok.ensures.stands,
  record { devices = refl; area = c.in-Ok-flush.ensures.cause.same ∙ c.in-Ok.ensures.cause.same },
)

pub returns-in-Ok-flush-clause-table : goal.returns-in-Ok-flush-clause-table
returns-in-Ok-flush-clause-table g c = λ devices. table_written g.D.Device.told _ devices c.args.copies.now c.sync.new.self c.flush.new.self c.in-Ok.ensures.written c.in-Ok-flush.ensures.told
    (c.in-Ok-flush.ensures.table.volumes ∙ c.in-Ok.ensures.table.volumes) (c.in-Ok-flush.ensures.table.records ∙ c.in-Ok.ensures.table.records)
    c.slots-facts.ensures.whole c.slots-facts.ensures.fits c.volumes-facts.ensures.valid c.slots-facts.ensures.valid

pub returns-in-Err-clause-table : goal.returns-in-Err-clause-table
returns-in-Err-clause-table g c = λ devices. c.in-Err.ensures.in_part

pub returns-in-Err-flush-clause-table : goal.returns-in-Err-flush-clause-table
returns-in-Err-flush-clause-table g c = λ devices.
    written_whole (g.D.Device.told c.args.copies.now.area.device) (g.D.Device.told c.sync.new.self.area.device) (g.D.Device.told c.flush.new.self.area.device) _ c.in-Ok.ensures.written
    c.in-Err-flush.ensures.told
