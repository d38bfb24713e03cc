use Rattle.std.proofs.Common.{◌∙◌, sym, vec_capacity}
use Rattle.std.proofs.lemmas.List.{nil_from_length}
use Rattle.provider.proofs.Flat.{groups_room, groups_all}
use Rattle.provider.proofs.ending.list_devices.Goals as goal

pub add_group-requires : goal.add_group-requires
add_group-requires g c =
    groups_room c.args.groups.items c.loop-group.group-iterator.rest.items c.next.new.self.rest.items c.in-Some.group c.loop-group.list.items (vec_capacity c.loop-group.list)
    c.in-Some.ensures.steps.0 c.loop-group.invariant

pub returns : goal.returns
returns g c =
    groups_all c.args.groups.items c.loop-group.group-iterator.rest.items c.loop-group.list.items (vec_capacity c.loop-group.list)
    (nil_from_length _ (sym c.loop-group.group-iterator.rest.ok.0 ∙ c.in-None.ensures.steps.0)) c.loop-group.invariant
