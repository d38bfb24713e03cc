use Rattle.std.proofs.Common.{arith}
use Rattle.cow_volume.proofs.DeviceCalls.{device_read}
use Rattle.provider.proofs.Dropped.{without_more, without_all}
use Rattle.provider.proofs.dropping.drop_set_in.Goals as goal

pub loop-group-preserved : goal.loop-group-preserved
loop-group-preserved g c =
    let xs = c.loop-group.groups.items in
    let same = c.loop-group.invariant.number in
    let test = c.loop-group-test.true in
    let many = c.len-group-end.ensures in
    without_more g.D.Device c.args.groups.now.items xs c.loop-group.group c.args.set c.loop-group.stood c.drop_within.result c.index_mut.result.now c.drop_within.new.group
    (device_read xs c.loop-group.group c.index_mut.result.now (omega (arith, same, test, many, c.args.groups.now.ok.0)) c.index_mut.ensures.value)
    c.loop-group.invariant c.drop_within.ensures

pub returns : goal.returns
returns g c =
    let over = c.loop-group-test.false in
    let within = c.loop-group.auto.group-end in
    let many = c.len-group-end.ensures in
    without_all g.D.Device c.args.groups.now.items c.loop-group.groups.items c.loop-group.group c.args.set c.loop-group.stood (omega (arith, over, within, many, c.args.groups.now.ok.0))
    c.loop-group.invariant
