use Rattle.std.proofs.Common.{refl, subst}
use Rattle.diff_map.specs.Copies.{AreImages}
use Rattle.image_store.proofs.Stores.{store_of, named_still, overwriting}
use Rattle.image_store.proofs.UnderWay.{overwrite_under_way}
use Rattle.image_store.proofs.store.Store.overwrite.Goals as goal

pub invariant_of-self : goal.invariant_of-self
invariant_of-self g c = named_still c.self.inside.group c.overwrite_blocks.new.group c.self.inside.names.items (c.overwrite_blocks.ensures.volumes) c.self.invariant

pub returns-clause-overwriting : goal.returns-clause-overwriting
returns-clause-overwriting g c = rw (← c.self.view_is) (λ wanted p told stands ready.
    overwriting g.D.Device.told (store_of c.self.inside.group c.self.inside.names.items c.self.inside.last)
    (store_of c.overwrite_blocks.new.group c.self.inside.names.items c.self.inside.last) c.args.v c.args.differs.now wanted c.args.from c.overwrite_blocks.new.gone.items c.overwrite_blocks.result
    refl p stands ready
    (c.overwrite_blocks.ensures.writing wanted p.volumes told stands.group ready))

pub returns-clause-under_way : goal.returns-clause-under_way
returns-clause-under_way g c =
    let old = store_of c.self.inside.group c.self.inside.names.items c.self.inside.last in
    let new = store_of c.overwrite_blocks.new.group c.self.inside.names.items c.self.inside.last in
    let within = rw (← c.self.view_is) at c.requires.volume in
    rw (← c.self.view_is) (λ committed wanted p told stands ready copies copied under. overwrite_under_way g.D.Device.told committed old new c.args.v c.args.differs.now wanted c.args.from
    c.overwrite_blocks.new.gone.items c.overwrite_blocks.result p within (subst AreImages c.images-facts.ensures.images c.images-facts.ensures.rise) c.overwrite_blocks.ensures.area
    (overwriting g.D.Device.told old new c.args.v c.args.differs.now wanted c.args.from c.overwrite_blocks.new.gone.items c.overwrite_blocks.result
    refl p stands ready (c.overwrite_blocks.ensures.writing wanted p.volumes told stands.group ready)) stands ready copies copied under)
