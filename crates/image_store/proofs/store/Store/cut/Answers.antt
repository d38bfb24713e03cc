use Rattle.std.proofs.Common.{◌+◌, length, refl, ap, arith}
use Rattle.diff_area.specs.AreaValue.{AreaValue}
use Rattle.image_store.proofs.Stores.{store_of, named_still, cut_step}
use Rattle.image_store.proofs.UnderWay.{same_disk}
use Rattle.image_store.proofs.store.Store.cut.Goals as goal

pub invariant_of-self : goal.invariant_of-self
invariant_of-self g c = named_still c.self.inside.group c.cut_all.new.group c.self.inside.names.items c.cut_all.ensures.volumes c.self.invariant

pub returns-clause-cut : goal.returns-clause-cut
returns-clause-cut g c =
    let is = cut_step g.D.Device.told (store_of c.self.inside.group c.self.inside.names.items c.self.inside.last)
    (store_of c.cut_all.new.group c.self.inside.names.items (c.greatest_set-greatest.result + 1)) (c.greatest_set-greatest.result + 1) c.args.volumes.now
    (let last = c.greatest_set-greatest.ensures.least in omega arith) refl c.cut_all.ensures.cut in
    rw (← c.self.view_is) is

pub returns-clause-under_way : goal.returns-clause-under_way
returns-clause-under_way g c =
    let is = same_disk g.D.Device.told c.self.inside.group c.cut_all.new.group (ap (λ (a : AreaValue _). length a.records) c.cut_all.ensures.area)
    (ap (λ (a : AreaValue _). a.device) c.cut_all.ensures.area) c.cut_all.ensures.devices in
    rw (← c.self.view_is) is
