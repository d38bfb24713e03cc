use Rattle.std.proofs.Common.{sym, subst}
use Rattle.write_history.specs.History.{dropped}
use Rattle.cow_volume.specs.StandsFor.{StandsFor}
use Rattle.cow_volume.specs.Parts.{CopiesValue, group_of}
use Rattle.cow_volume.specs.Calls.{changed_at}
use Rattle.cow_volume.proofs.GroupReverts.{merged_stands}
use Rattle.cow_volume.proofs.reverts.merge_image.Goals as goal

pub returns-clause-stands : goal.returns-clause-stands
returns-clause-stands g c = λ devices hs stands.
    subst (λ (x : CopiesValue _). StandsFor g.D.Device.told (group_of devices x) (changed_at c.args.v (dropped c.args.set) hs)) (sym c.merge.ensures)
    (merged_stands g.D.Device.told devices c.args.copies.now hs c.args.v c.args.set c.slots-facts.ensures.valid c.requires.image stands)
