use Rattle.std.proofs.Common.{◌∙◌, ap, arith, filter}
use Rattle.vss_world.proofs.evicted_images.EvictedImages.make_room.Goals as goal

pub invariant_of-self : goal.invariant_of-self
invariant_of-self g c =
    let room = c.self.invariant.0 in
    let space = c.make_room-up_to.ensures.space in
    let same = c.keep_complete.ensures.space in
    let few = c.requires.few in
    let gone = c.make_room-up_to.ensures.few in
    let kept = c.keep_complete.ensures.few in
    (omega (arith, room, space, same), omega (arith, few, gone, kept))

pub returns : goal.returns
returns g c =
    let room = c.make_room-up_to.ensures.room in
    record {
      call = room.call;
      devices = room.devices;
      evicted = room.evicted;
      stands = room.stands;
      kept = λ st keeps hs groups. c.keep_complete.ensures.kept st keeps ∙ ap (filter _) (room.gone hs groups);
      room = room.room;
      rest = c.make_room-up_to.ensures.set;
    }
