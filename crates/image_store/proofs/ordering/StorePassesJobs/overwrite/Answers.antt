use Rattle.image_store.specs.Ordering.{aims_of}
use Rattle.image_store.proofs.Orders.{ok_then, overwrite_brings, overwrite_opens}
use Rattle.image_store.proofs.ordering.StorePassesJobs.overwrite.Goals as goal

pub returns-clause-opens : goal.returns-clause-opens
returns-clause-opens g c = λ first h covers p is. overwrite_opens g.D.Device.told (aims_of g.I.Device.told c.args.jobs.now.jobs.items) c.args.self.now
    c.overwrite_jobs.new.store h p c.overwrite_jobs.result c.overwrite_jobs.ensures.written (covers p is)

pub returns-clause-brought : goal.returns-clause-brought
returns-clause-brought g c = ok_then c.overwrite_jobs.result (overwrite_brings g.D.Device.told g.I.Device.told c.args.jobs.now.jobs.items c.args.self.now
    c.overwrite_jobs.new.store c.overwrite_jobs.result c.overwrite_jobs.ensures.written) (λ brings first stands copied p is. brings p stands.0 copied
    (stands.1 p is))
