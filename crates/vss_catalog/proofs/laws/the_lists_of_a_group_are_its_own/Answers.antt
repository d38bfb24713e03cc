use Rattle.vss_catalog.proofs.Groups.{own_lists}
use Rattle.vss_catalog.proofs.laws.the_lists_of_a_group_are_its_own.Goals as goal

pub returns : goal.returns
returns g c = own_lists c.args.group.now c.args.names.now c.volumes-facts.ensures.images
