use Rattle.std.proofs.Common.{arith}
use Rattle.image_store.proofs.Orders.{apart_of}
use Rattle.image_store.proofs.jobs.are_apart.Goals as goal

pub returns : goal.returns
returns g c = λ yes.
    let test = c.loop-place-test.false in
    let long = c.len-place-end.ensures in
    apart_of g.I.Device.told c.args.jobs.now.items c.loop-place.place (omega arith) c.loop-place.invariant
