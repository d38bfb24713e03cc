use Rattle.vss_play.proofs.NewDevices.{area_size}
use Rattle.vss_play.proofs.devices.area_blocks.Goals as goal

pub returns : goal.returns
returns c = area_size c.args.scenario.now c.args.group c.group_slots-slots.result c.pages_for.result c.group_slots-slots.ensures c.pages_for.ensures
