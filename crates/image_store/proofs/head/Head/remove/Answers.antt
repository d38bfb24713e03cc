use Rattle.image_store.proofs.Heads.{removed}
use Rattle.image_store.proofs.head.Head.remove.Goals as goal

pub invariant_of-self : goal.invariant_of-self
invariant_of-self c =
    let view = c.self.view_is in
    rw c.remove.ensures (removed c.self.inside.catalog c.args.volume (rw (← view) at c.requires.volume) (rw (← view) at c.requires.others) c.self.invariant)
