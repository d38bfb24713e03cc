use Rattle.std.proofs.Common.{◌∙◌, sym, subst}
use Rattle.diff_area.specs.Format.{AreVolumes}
use Rattle.vss_play.proofs.Opening.{volumes_in, sizes_of_group}
use Rattle.vss_play.proofs.groups.open_group.Goals as goal

pub open_over-requires-clause-volumes : goal.open_over-requires-clause-volumes
open_over-requires-clause-volumes g c = subst AreVolumes (sym (c.deref.ensures.value ∙ c.in_ok-blocks.ensures))
    (volumes_in c.args.scenario.now c.args.group c.volumes-facts.ensures.plan c.requires.group)

pub open_over-requires-clause-sizes : goal.open_over-requires-clause-sizes
open_over-requires-clause-sizes g c = c.requires.sizes
    ∙ sizes_of_group c.args.scenario.now c.args.group c.group_slots.result c.deref.result.now c.group_slots.ensures
    (c.deref.ensures.value ∙ c.in_ok-blocks.ensures)
