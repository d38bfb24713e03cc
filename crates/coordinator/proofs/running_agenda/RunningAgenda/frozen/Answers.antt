use Rattle.std.proofs.Common.{sym, ◌∙◌}
use Rattle.coordinator.proofs.Fitting.{frozen-no, frozen-yes}
use Rattle.coordinator.proofs.running_agenda.RunningAgenda.frozen.Goals as goal

pub returns-then-is_snapshot : goal.returns-then-is_snapshot
returns-then-is_snapshot c = λ a f. c.minus.ensures ∙ frozen-yes c.args.self.now a (sym c.is_snapshot.ensures ∙ c.if-is_snapshot.true) f

pub returns-else-is_snapshot : goal.returns-else-is_snapshot
returns-else-is_snapshot c = λ a f. c.new.ensures ∙ frozen-no c.args.self.now a (sym c.is_snapshot.ensures ∙ c.if-is_snapshot.false) f
