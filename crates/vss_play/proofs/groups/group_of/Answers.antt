use Rattle.vss_play.proofs.NewDevices.{area_group}
use Rattle.vss_play.proofs.groups.group_of.Goals as goal

pub returns-clause-groups : goal.returns-clause-groups
returns-clause-groups c = area_group c.args.scenario.now c.args.place c.volumes-volumes.result c.volumes-volumes.ensures.count c.if-place-volumes.false c.requires
