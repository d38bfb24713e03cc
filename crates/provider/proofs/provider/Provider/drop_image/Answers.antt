use Rattle.std.proofs.Common.{arith}
use Rattle.provider.proofs.Found.{found_by, group_low, inside}
use Rattle.provider.proofs.Called.{called, drop_kept, dropped_of}
use Rattle.provider.proofs.provider.Provider.drop_image.Goals as goal
use Rattle.provider.proofs.Kept.{provider_kept}

pub index_mut-requires : goal.index_mut-requires
index_mut-requires g c = let low = group_low c.self.view_is c.requires.has c.place-place.ensures in omega (arith, low, c.self.inside.groups.ok.0)

pub drop_on-requires : goal.drop_on-requires
drop_on-requires g c = inside (found_by c.self.view_is c.requires.has c.place-place.ensures c.index_mut.ensures.value)

pub invariant_of-self : goal.invariant_of-self
invariant_of-self g c =
    let now = called (found_by c.self.view_is c.requires.has c.place-place.ensures c.index_mut.ensures.value) c.drop_on.new.group in
    provider_kept g.D.Device _ _ c.self.inside.volumes c.self.inside.list (drop_kept g.D.Device now c.args.set c.drop_on.result c.drop_on.ensures) c.self.invariant

pub returns-clause-dropped : goal.returns-clause-dropped
returns-clause-dropped g c =
    rw (← c.self.view_is) (dropped_of g.D.Device (called (found_by c.self.view_is c.requires.has c.place-place.ensures c.index_mut.ensures.value) c.drop_on.new.group) c.args.set
    c.drop_on.result c.drop_on.ensures)
