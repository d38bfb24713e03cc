use Rattle.std.proofs.Common.{[], inl, inr}
use Rattle.image_store.specs.Ordering.{aims_of}
use Rattle.image_store.proofs.Orders.{found_but, may_begin, ok_then, starts}
use Rattle.image_store.proofs.ordering.update_in_order.Goals as goal

pub returns-clause-found : goal.returns-clause-found
returns-clause-found g c = λ heads begun p is bytes at. found_but g.D.Device.told c.overwrite_in_order.new.passes p bytes
    (c.overwrite_in_order.ensures.images c.args.store.now (record {
      states = λ h there q is_q. starts g.D.Device.told c.args.store.now h q (heads h there) is_q;
      stands = (
        begun.so_far,
        λ q is_q. may_begin g.D.Device.told (aims_of g.I.Device.told c.args.jobs.now.jobs.items) c.args.store.now q is_q
            (begun.ready q is_q),
      );
    }) bytes at p is)

pub returns-clause-transit : goal.returns-clause-transit
returns-clause-transit g c = λ file at. c.overwrite_in_order.ensures.transit c.args.store.now (λ p is. record { gone = []; stands = is }) file at

pub returns-clause-brought : goal.returns-clause-brought
returns-clause-brought g c = ok_then c.overwrite_in_order.result c.overwrite_in_order.ensures.brought (λ brought begun. brought c.args.store.now (
  begun.so_far,
  λ q is_q. may_begin g.D.Device.told (aims_of g.I.Device.told c.args.jobs.now.jobs.items) c.args.store.now q is_q (begun.ready q is_q),
))

pub returns-clause-torn : goal.returns-clause-torn
returns-clause-torn g c = elim c.overwrite_in_order.ensures.torn [
  | inl torn ↦ inl torn
  | inr none ↦ inr (none c.args.store.now (λ p is. record { gone = []; stands = is }))
]
