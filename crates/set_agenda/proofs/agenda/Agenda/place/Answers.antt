use Rattle.std.proofs.Common.{ap, sym, ◌∙◌}
use Rattle.set_agenda.specs.Agenda.{open_place}
use Rattle.set_agenda.proofs.Closings.{open-here}
use Rattle.set_agenda.proofs.agenda.Agenda.place.Goals as goal

pub returns-in-Some : goal.returns-in-Some
returns-in-Some c = sym
    (ap open_place (sym c.self.view_is)
    ∙ open-here c.self.inside.rows c.self.inside.volumes.items c.self.inside.cursor c.in-Some.place c.self.inside.kind
    (sym c.in-Some.is ∙ c.of_number.ensures) c.self.invariant.live)
