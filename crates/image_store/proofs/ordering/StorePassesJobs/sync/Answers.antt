use Rattle.image_store.specs.Ordering.{aims_of, without}
use Rattle.image_store.proofs.Orders.{brought_still, may_more, opens_still, so_far_still, synced_covers, synced_holds}
use Rattle.image_store.proofs.Stores.{synced}
use Rattle.image_store.proofs.ordering.StorePassesJobs.sync.Goals as goal

pub returns-in-Ok-clause-opens : goal.returns-in-Ok-clause-opens
returns-in-Ok-clause-opens g c = λ first h opens p is.
    let kept = synced g.D.Device c.args.self.now.group c.sync.new.self.group c.sync.result c.sync.ensures.sync in
    opens_still g.D.Device.told c.args.self.now c.sync.new.self h p kept.images c.sync.ensures.under_way (opens p is)

pub returns-in-Ok-clause-stands : goal.returns-in-Ok-clause-stands
returns-in-Ok-clause-stands g c = λ first stands.
    let kept = synced g.D.Device c.args.self.now.group c.sync.new.self.group c.sync.result c.sync.ensures.sync in (
      so_far_still c.args.self.now.group c.sync.new.self.group c.args._jobs.now.jobs.items kept.records kept.images stands.0,
      λ p is. may_more g.D.Device.told (aims_of g.I.Device.told c.args._jobs.now.jobs.items) c.args.self.now c.sync.new.self p c.sync.ensures.still
          (stands.1 p is),
    )

pub returns-in-Ok-clause-brought : goal.returns-in-Ok-clause-brought
returns-in-Ok-clause-brought g c = λ asked first was p is. brought_still g.D.Device.told (aims_of g.I.Device.told asked.jobs.items) c.args.self.now
    c.sync.new.self p c.sync.ensures.still (was p is)

pub returns-in-Ok-clause-before : goal.returns-in-Ok-clause-before
returns-in-Ok-clause-before g c = λ first before p is. let has = before p is
    in record { gone = has.gone; stands = c.sync.ensures.still (without has.gone p) has.stands }

pub returns-in-Err-clause-opens : goal.returns-in-Err-clause-opens
returns-in-Err-clause-opens g c = λ first h opens p is.
    let kept = synced g.D.Device c.args.self.now.group c.sync.new.self.group c.sync.result c.sync.ensures.sync in
    opens_still g.D.Device.told c.args.self.now c.sync.new.self h p kept.images c.sync.ensures.under_way (opens p is)

pub returns-in-Err-clause-stands : goal.returns-in-Err-clause-stands
returns-in-Err-clause-stands g c = λ first stands.
    let kept = synced g.D.Device c.args.self.now.group c.sync.new.self.group c.sync.result c.sync.ensures.sync in (
      so_far_still c.args.self.now.group c.sync.new.self.group c.args._jobs.now.jobs.items kept.records kept.images stands.0,
      λ p is. may_more g.D.Device.told (aims_of g.I.Device.told c.args._jobs.now.jobs.items) c.args.self.now c.sync.new.self p c.sync.ensures.still
          (stands.1 p is),
    )

pub returns-in-Err-clause-brought : goal.returns-in-Err-clause-brought
returns-in-Err-clause-brought g c = λ asked first was p is. brought_still g.D.Device.told (aims_of g.I.Device.told asked.jobs.items) c.args.self.now
    c.sync.new.self p c.sync.ensures.still (was p is)

pub returns-in-Err-clause-before : goal.returns-in-Err-clause-before
returns-in-Err-clause-before g c = λ first before p is. let has = before p is
    in record { gone = has.gone; stands = c.sync.ensures.still (without has.gone p) has.stands }

pub returns-in-Ok-clause-holds : goal.returns-in-Ok-clause-holds
returns-in-Ok-clause-holds g c = λ first stands p is.
    synced_holds g.D.Device.told
    (aims_of g.I.Device.told c.args._jobs.now.jobs.items) c.args.self.now c.sync.new.self p c.sync.ensures.still c.in-Ok.ensures.committed (stands.1 p is)

pub returns-in-Ok-clause-covers : goal.returns-in-Ok-clause-covers
returns-in-Ok-clause-covers g c = λ first stands copied p is.
    let kept = synced g.D.Device c.args.self.now.group c.sync.new.self.group c.sync.result c.sync.ensures.sync in
    synced_covers g.D.Device.told g.I.Device.told c.args._jobs.now.jobs.items c.args.self.now c.sync.new.self p c.sync.ensures.still c.in-Ok.ensures.committed
    kept.records kept.images copied.0 stands.0 copied.1
    (stands.1 p is)
