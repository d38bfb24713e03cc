use Rattle.std.proofs.Common.{refl}
use Rattle.std.proofs.lemmas.Option.{slice_get_within}
use Rattle.cow_volume.specs.StandsFor.{record_of}
use Rattle.vss_recover.proofs.Overlays.{put_over}
use Rattle.vss_recover.proofs.overlay.Overlay.put.Goals as goal

pub write_slot-requires-clause-slot : goal.write_slot-requires-clause-slot
write_slot-requires-clause-slot g c = slice_get_within c.args.self.now.records c.in-Some.slot (record_of 0 c.args.set c.args.block) c.in-Some.ensures.found

pub put_new-requires-clause-lacks : goal.put_new-requires-clause-lacks
put_new-requires-clause-lacks g c = c.in-None.ensures.none refl c.requires.used.set

pub returns-in-Some : goal.returns-in-Some
returns-in-Some g c = put_over g.D.Device c.args.self.now c.write_slot.new.self c.args.set c.args.block c.in-Some.slot c.args.bytes.now
    c.write_slot.result c.in-Some.ensures.found c.write_slot.ensures
