use Rattle.std.proofs.Common.{◌∙◌}
use Rattle.coordinator.proofs.Fitting.{frozen-none, frozen-some}
use Rattle.coordinator.proofs.before.frozen_now.Goals as goal

pub returns-in-None : goal.returns-in-None
returns-in-None c = λ a h. c.new.ensures ∙ frozen-none c.args.running.now a c.in-None.is h

pub returns-in-Some : goal.returns-in-Some
returns-in-Some c = λ a h. frozen-some c.args.running.now c.in-Some.running c.frozen.result a c.in-Some.is c.frozen.ensures h
