use Rattle.image_store.proofs.Heads.{added_or}
use Rattle.image_store.proofs.head.Head.add.Goals as goal

pub invariant_of-self : goal.invariant_of-self
invariant_of-self c =
    let room = rw (← c.self.view_is) at c.requires.volumes in
    added_or c.add.result c.self.inside.catalog _ c.args.name.now c.args.blocks c.add.ensures.added c.add.ensures.same room c.requires.named c.requires.some
    c.requires.few c.self.invariant
