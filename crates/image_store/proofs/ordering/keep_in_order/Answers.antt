use Rattle.std.proofs.Common.{ap, inl, inr}
use Rattle.image_store.specs.Ordering.{aims_of}
use Rattle.image_store.proofs.Orders.{before_opens, found_but, none_gone, none_stands, ok_then}
use Rattle.image_store.proofs.ordering.keep_in_order.Goals as goal

pub returns-clause-found : goal.returns-clause-found
returns-clause-found g c = λ before heads under p q is_p is_q bytes at.
    elim (c.commit_in_order.ensures.states before c.args.store.now
    (λ h there one is. before_opens g.D.Device.told before c.args.store.now h one (heads h there) under is)
    (none_stands g.D.Device.told g.I.Device.told c.args.store.now c.args.none.now.jobs.items c.requires) bytes at) [
      | inl one ↦ inl (found_but g.D.Device.told c.commit_in_order.new.passes p bytes (one p is_p))
      | inr two ↦ inr (found_but g.D.Device.told c.commit_in_order.new.passes q bytes (two q is_q))
    ]

pub returns-clause-lasts : goal.returns-clause-lasts
returns-clause-lasts g c = ok_then c.commit_in_order.result c.commit_in_order.ensures.lasts (λ lasts q is_q bytes at.
    found_but g.D.Device.told c.commit_in_order.new.passes q bytes
    (lasts c.args.store.now (none_stands g.D.Device.told g.I.Device.told c.args.store.now c.args.none.now.jobs.items c.requires) bytes at q is_q))

pub returns-clause-stands : goal.returns-clause-stands
returns-clause-stands g c = λ q is_q. none_gone g.D.Device.told (aims_of g.I.Device.told c.args.none.now.jobs.items) c.commit_in_order.new.passes q
    (ap (aims_of g.I.Device.told) c.requires)
    ((c.commit_in_order.ensures.stands c.args.store.now
    (none_stands g.D.Device.told g.I.Device.told c.args.store.now c.args.none.now.jobs.items c.requires)).1 q is_q)
