use Rattle.set_agenda.proofs.Closings.{begins}
use Rattle.set_agenda.proofs.agenda.Agenda.new.Goals as goal

pub returns : goal.returns
returns c = begins c.args.kind c.args.members.now c.args.volumes.now _ _ c.of-rows.result c.opened-cursor.result c.requires.no_writer_twice c.of-rows.ensures
    c.deref.ensures.value c.in_ok-volumes.ensures.items c.opened-cursor.ensures.left
