use Rattle.std.proofs.Common.{arith, refl}
use Rattle.vss_play.proofs.Serving.{serving_on}
use Rattle.vss_play.proofs.service.Service.step.Goals as goal

pub invariant_of-self-in-Ok-Moved : goal.invariant_of-self-in-Ok-Moved
invariant_of-self-in-Ok-Moved g c =
    let moves = rw c.in-Ok-Moved.field-0-is at c.in-Ok-Moved.ensures.stepped in
    serving_on g.D.Device c.self.inside.scenario c.self.inside.world c.step.new.self c.self.inside.moves _ _ c.args.event c.in-Ok-Moved.outcome (omega arith) refl c.self.invariant moves
