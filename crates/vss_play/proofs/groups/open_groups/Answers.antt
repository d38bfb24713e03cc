use Rattle.vss_play.proofs.Opening.{sorted_sizes, sorted_zeros}
use Rattle.vss_play.proofs.groups.open_groups.Goals as goal

pub open_sorted-requires-clause-sizes : goal.open_sorted-requires-clause-sizes
open_sorted-requires-clause-sizes g c = sorted_sizes g.D.Device.size c.args.scenario.now c.args.devices.items _ c.requires.sizes c.in_ok-sorted.ensures.each

pub open_sorted-requires-clause-zeros : goal.open_sorted-requires-clause-zeros
open_sorted-requires-clause-zeros g c = sorted_zeros g.D.Device c.args.scenario.now c.args.devices.items _ c.requires.zeros c.in_ok-sorted.ensures.each
