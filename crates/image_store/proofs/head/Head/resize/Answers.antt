use Rattle.image_store.proofs.Heads.{resized}
use Rattle.image_store.proofs.head.Head.resize.Goals as goal

pub invariant_of-self : goal.invariant_of-self
invariant_of-self c =
    let within = rw (← c.self.view_is) at c.requires.volume in
    resized c.self.inside.catalog _ c.args.volume c.args.blocks within c.resize.ensures c.requires.some c.requires.few c.self.invariant
