use Rattle.std.proofs.Common.{true, arith, refl}
use Rattle.cow_volume.specs.Calls.{counted_as}
use Rattle.vss_model.specs.declared.event.Event.TheVariants.{Provider}
use Rattle.vss_play.proofs.Serving.{serving_on}
use Rattle.vss_play.proofs.service.Service.fail.Goals as goal

pub invariant_of-self-in-Ok-Moved : goal.invariant_of-self-in-Ok-Moved
invariant_of-self-in-Ok-Moved g c =
    let made = rw c.in-Ok-Moved.field-0-is at c.in-Ok-Moved.ensures.stepped in
    serving_on (counted_as g.D.Device true) c.self.inside.scenario c.self.inside.world c.step_marked.new.self c.self.inside.moves _ _ Provider c.in-Ok-Moved.outcome
    (omega arith) refl c.self.invariant made.stepped
