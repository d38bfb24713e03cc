use Rattle.std.proofs.Common.{◌∙◌, ap, arith, length, map}
use Rattle.std.proofs.lemmas.List.{length-map}
use Rattle.write_history.specs.declared.evicted.Evicted.{Evicted}
use Rattle.provider.specs.Calls.{renumbered}
use Rattle.provider.proofs.Found.{below, found_by, group_low, inside}
use Rattle.provider.proofs.Called.{called}
use Rattle.provider.proofs.Room.{few_within, room_of}
use Rattle.provider.proofs.provider.Provider.make_room.Goals as goal
use Rattle.provider.proofs.Kept.{provider_kept}

pub index_mut-group-requires : goal.index_mut-group-requires
index_mut-group-requires g c = let low = group_low c.self.view_is c.requires.has c.place-place.ensures in omega (arith, low, c.self.inside.groups.ok.0)

pub make_room-up_to-requires : goal.make_room-up_to-requires
make_room-up_to-requires g c =
    let f = found_by c.self.view_is c.requires.has c.place-place.ensures c.index_mut-group.ensures.value in
    let all = ap length (f.has.volumes f.group f.here f.at) in
    let few = few_within f.group c.args.scenario.now.volumes in
    record {
      volume = inside f;
      in_range = below f c.args.block c.requires.block.1;
      space = omega (arith, all, few, c.requires.space);
    }

pub invariant_of-self : goal.invariant_of-self
invariant_of-self g c =
    let now = called (found_by c.self.view_is c.requires.has c.place-place.ensures c.index_mut-group.ensures.value) c.make_room-up_to.new.self in
    provider_kept g.D.Device _ _ c.self.inside.volumes c.self.inside.list ((room_of g.D.Device now c.args.block c.make_room-up_to.result c.renumber.new.images.items c.make_room-up_to.ensures.room
    (c.renumber.ensures.told ∙ ap (map (renumbered c.args.scenario.now _)) c.make_room-up_to.ensures.told)).call.kept) c.self.invariant

pub returns-clause-room : goal.returns-clause-room
returns-clause-room g c =
    let now = called (found_by c.self.view_is c.requires.has c.place-place.ensures c.index_mut-group.ensures.value) c.make_room-up_to.new.self in
    rw (← c.self.view_is) (room_of g.D.Device now c.args.block c.make_room-up_to.result c.renumber.new.images.items c.make_room-up_to.ensures.room
    (c.renumber.ensures.told ∙ ap (map (renumbered c.args.scenario.now _)) c.make_room-up_to.ensures.told))

pub returns-clause-few : goal.returns-clause-few
returns-clause-few g c =
    let f = found_by c.self.view_is c.requires.has c.place-place.ensures c.index_mut-group.ensures.value in
    let all = ap length (f.has.volumes f.group f.here f.at) in
    let few = few_within f.group c.args.scenario.now.volumes in
    let low = c.make_room-up_to.ensures.few in
    let told = ap length c.renumber.ensures.told in
    let same = length-map {B = Evicted} c.make_room-up_to.new.gone.items (renumbered c.args.scenario.now c.place-place.result.group) in
    omega (arith, all, few, low, told, same)
