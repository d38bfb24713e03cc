use Rattle.std.proofs.Common.{rules}
use Rattle.image_store.proofs.Unwritten.{same_but}
use Rattle.image_store.proofs.store.Store.mark_written.Goals as goal

pub returns-clause-same : goal.returns-clause-same
returns-clause-same g c = rw (← c.self.view_is) (λ p stands.
    same_but g.D.Device.told c.self.inside.group p.volumes c.args.v c.args.set c.args.other c.mark_copied.new.marks stands.group (search rules)
    (search rules) (search rules))
