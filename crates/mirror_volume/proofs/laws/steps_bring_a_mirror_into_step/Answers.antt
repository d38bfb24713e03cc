use Rattle.mirror_volume.proofs.Counts.{calls_in_step}
use Rattle.mirror_volume.proofs.laws.steps_bring_a_mirror_into_step.Goals as goal

pub returns : goal.returns
returns g c = λ k old new calls are all. calls_in_step g.D.Device k old new calls are all
