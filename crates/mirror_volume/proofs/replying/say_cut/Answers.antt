use Rattle.std.proofs.Common.{subst, sym, rules}
use Rattle.mirror_volume.proofs.replying.say_cut.Goals as goal

pub returns-in-Ok-clause-step : goal.returns-in-Ok-clause-step
returns-in-Ok-clause-step g c = search rules

pub returns-in-Err-clause-step : goal.returns-in-Err-clause-step
returns-in-Err-clause-step g c = search rules

pub returns-in-Err-clause-stands : goal.returns-in-Err-clause-stands
returns-in-Err-clause-stands g c = λ h stood. subst (λ v. g.V.ImageVolume.stands v h) (sym c.in-Err.ensures.cut.1) stood
