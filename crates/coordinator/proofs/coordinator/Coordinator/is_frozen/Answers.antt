use Rattle.std.proofs.Common.{ap, rules, ◌<◌, ◌∙◌}
use Rattle.set_agenda.specs.Agenda.{is_among, is_frozen}
use Rattle.set_agenda.proofs.WriterSets.{among-writers}
use Rattle.coordinator.proofs.Calls.{held}
use Rattle.coordinator.proofs.coordinator.Coordinator.is_frozen.Goals as goal

pub returns : goal.returns
returns c = λ d h.
    let g = held _ c.args.self.now d c.self.view_is h in
    let small : c.args.writer < 64 = search rules in
    c.contains.ensures ∙ ap (is_among c.args.writer) (c.frozen_now.ensures d.agenda g.follows.agenda) ∙ among-writers (is_frozen d.agenda) c.args.writer small
