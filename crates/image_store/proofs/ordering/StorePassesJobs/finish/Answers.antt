use Rattle.image_store.specs.Ordering.{aims_of}
use Rattle.image_store.proofs.Orders.{brought_still, opens_still}
use Rattle.image_store.proofs.ordering.StorePassesJobs.finish.Goals as goal

pub returns-in-Ok-clause-opens : goal.returns-in-Ok-clause-opens
returns-in-Ok-clause-opens g c = λ first h opens p is. opens_still g.D.Device.told c.args.self.now c.flush_all.new.store h p c.flush_all.ensures.images
    c.flush_all.ensures.under_way (opens p is)

pub returns-in-Err-clause-opens : goal.returns-in-Err-clause-opens
returns-in-Err-clause-opens g c = λ first h opens p is. opens_still g.D.Device.told c.args.self.now c.flush_all.new.store h p c.flush_all.ensures.images
    c.flush_all.ensures.under_way (opens p is)

pub returns-in-Ok-clause-brought : goal.returns-in-Ok-clause-brought
returns-in-Ok-clause-brought g c = λ asked first was p is. brought_still g.D.Device.told (aims_of g.I.Device.told asked.jobs.items) c.args.self.now
    c.flush_all.new.store p c.flush_all.ensures.still (was p is)

pub returns-in-Err-clause-brought : goal.returns-in-Err-clause-brought
returns-in-Err-clause-brought g c = λ asked first was p is. brought_still g.D.Device.told (aims_of g.I.Device.told asked.jobs.items) c.args.self.now
    c.flush_all.new.store p c.flush_all.ensures.still (was p is)
