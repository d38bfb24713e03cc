use Rattle.coordinator.specs.Coordinator.{named}
use Rattle.coordinator.proofs.Calls.{held}
use Rattle.coordinator.proofs.Registering.{stands-named}
use Rattle.coordinator.proofs.coordinator.Coordinator.disable.Goals as goal

pub invariant_of-self : goal.invariant_of-self
invariant_of-self c =
    let sound = c.self.invariant.0 in (
      record { few = sound.few; boxes = sound.boxes; live = sound.live; course = named c.args.writer sound.course; stands = stands-named c.self.inside.kept c.insert.new.self sound.course c.args.writer c.insert.ensures sound.stands },
      c.self.invariant.1,
      c.self.invariant.2,
    )

pub returns-clause-stands : goal.returns-clause-stands
returns-clause-stands c = λ d h. stands-named c.self.inside.kept c.insert.new.self d c.args.writer c.insert.ensures (held _ c.args.self.now d c.self.view_is h)
