use Rattle.std.proofs.Common.{inr, ◌≡◌, ℕ, List, Option, None, sym, subst}
use Rattle.cow_volume.specs.StandsFor.{told_in}
use Rattle.image_store.specs.Opening.{IsHeadFor}
use Rattle.image_store.proofs.Keeping.{opened_stands}
use Rattle.image_store.proofs.UnderWay.{opened_committed}
use Rattle.image_store.proofs.store.Store.open.Goals as goal

pub returns-in-Ok-take_up-clause-kept : goal.returns-in-Ok-take_up-clause-kept
returns-in-Ok-take_up-clause-kept g c = λ p kept.
    opened_stands g.D.Device.told c.args.devices.items c.args.area c.in-Ok.area c.args.head.now c.in-Ok-take_up.store p c.in-Ok.ensures.loaded.alone.told_is c.in-Ok.ensures.copies
    c.in-Ok-take_up.ensures.parts.volumes c.in-Ok-take_up.ensures.group c.in-Ok-take_up.ensures.last c.in-Ok-take_up.ensures.stands kept

pub returns-in-Ok-take_up-clause-untold : goal.returns-in-Ok-take_up-clause-untold
returns-in-Ok-take_up-clause-untold g c = λ none.
    c.in-Ok-take_up.ensures.untold (λ v d at. subst (λ (t : Option (List (List ℕ))). told_in t (g.D.Device.told d) ≡ None) (sym c.in-Ok.ensures.loaded.alone.told_is) (none v d at))

pub returns-in-Err-take_up-clause-refused : goal.returns-in-Err-take_up-clause-refused
returns-in-Err-take_up-clause-refused g c =
    inr (
      subst (λ (ds : List g.row.D.Denot). IsHeadFor ds c.args.head.now) c.deref.ensures.value c.in_default.ensures.head,
      inr
          (record { area = c.in-Ok.area; loaded = c.in-Ok.ensures.loaded; parts = c.in-Err-take_up.ensures.refused }),
    )

pub returns-in-Ok-take_up-clause-committed : goal.returns-in-Ok-take_up-clause-committed
returns-in-Ok-take_up-clause-committed g c = λ p kept.
    opened_committed g.D.Device c.args.devices.items c.args.area c.in-Ok.area _ c.in-Ok-take_up.store _ p c.in-Ok-take_up.ensures.group c.in-Ok.ensures.loaded c.in-Ok-take_up.ensures.records
    c.in-Ok-take_up.ensures.whole
    (opened_stands g.D.Device.told c.args.devices.items c.args.area c.in-Ok.area c.args.head.now c.in-Ok-take_up.store p c.in-Ok.ensures.loaded.alone.told_is c.in-Ok.ensures.copies
    c.in-Ok-take_up.ensures.parts.volumes c.in-Ok-take_up.ensures.group c.in-Ok-take_up.ensures.last c.in-Ok-take_up.ensures.stands kept)
