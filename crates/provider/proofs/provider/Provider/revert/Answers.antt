use Rattle.std.proofs.Common.{arith, is_some}
use Rattle.provider.specs.Words.{counted_as}
use Rattle.provider.proofs.Found.{found_by, group_low, inside}
use Rattle.provider.proofs.Called.{called, revert_kept, revert_of, stops_of}
use Rattle.provider.proofs.provider.Provider.revert.Goals as goal
use Rattle.provider.proofs.Kept.{provider_kept}

pub index_mut-requires : goal.index_mut-requires
index_mut-requires g c = let low = group_low c.self.view_is c.requires.has c.place-place.ensures in omega (arith, low, c.self.inside.groups.ok.0)

pub revert_some-requires : goal.revert_some-requires
revert_some-requires g c = inside (found_by c.self.view_is c.requires.has c.place-place.ensures c.index_mut.ensures.value)

pub invariant_of-self : goal.invariant_of-self
invariant_of-self g c =
    let now = called (found_by c.self.view_is c.requires.has c.place-place.ensures c.index_mut.ensures.value) c.revert_some.new.self in
    provider_kept (counted_as g.D.Device (is_some c.args.most)) _ _ c.self.inside.volumes c.self.inside.list
    (revert_kept (counted_as g.D.Device (is_some c.args.most)) now c.args.set c.revert_some.result c.revert_some.ensures.revert) c.self.invariant

pub returns-clause-revert : goal.returns-clause-revert
returns-clause-revert g c =
    let now = called (found_by c.self.view_is c.requires.has c.place-place.ensures c.index_mut.ensures.value) c.revert_some.new.self in
    rw (← c.self.view_is) (revert_of (counted_as g.D.Device (is_some c.args.most)) now c.args.set c.revert_some.result c.revert_some.ensures.revert)

pub returns-clause-stops : goal.returns-clause-stops
returns-clause-stops g c = λ never k is.
    let now = called (found_by c.self.view_is c.requires.has c.place-place.ensures c.index_mut.ensures.value) c.revert_some.new.self in
    rw (← c.self.view_is) (stops_of g.D.Device.told now c.args.set k c.revert_some.result (c.revert_some.ensures.stops never k is))
