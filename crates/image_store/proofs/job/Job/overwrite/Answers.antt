use Rattle.image_store.specs.Ordering.{aim_of}
use Rattle.image_store.proofs.Orders.{job_written, ok_then}
use Rattle.image_store.proofs.job.Job.overwrite.Goals as goal

pub returns-clause-written : goal.returns-clause-written
returns-clause-written g c = job_written g.D.Device.told c.args.store.now c.overwrite-done.new.self (g.I.Device.told c.begin.new.input)
    (aim_of g.I.Device.told c.args.self.now) c.overwrite-done.new.gone.items c.overwrite-done.result c.end.result
    c.in_ok-fits.ensures.images c.in_ok-fits.ensures.volume
    (ok_then c.end.result c.end.ensures.whole c.fault_of.ensures) c.begin.ensures c.in_ok-fits.ensures.marks
    (rw c.deref.ensures.value at c.overwrite-done.ensures.overwriting)
    (rw c.deref.ensures.value at c.overwrite-done.ensures.area)
    (rw c.deref.ensures.value at c.overwrite-done.ensures.under_way)
