use Rattle.vss_catalog.specs.Entries.{entries_of}
use Rattle.vss_catalog.proofs.Back.{catalog-back}
use Rattle.vss_catalog.proofs.Groups.{catalog_allowed}
use Rattle.vss_catalog.proofs.laws.the_catalog_of_a_group_is_read_back.Goals as goal

pub returns : goal.returns
returns g c = catalog-back (entries_of c.args.group.now c.args.names.now)
    (catalog_allowed c.args.group.now c.args.names.now c.requires c.volumes-facts.ensures.allowed c.volumes-facts.ensures.images c.volumes-facts.ensures.rise)
