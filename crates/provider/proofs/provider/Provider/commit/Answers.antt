use Rattle.std.proofs.Common.{arith, subst, sym}
use Rattle.provider.specs.Preparing.{CanCutOn, ProviderValue}
use Rattle.provider.proofs.Found.{found_by, group_low, inside}
use Rattle.provider.proofs.Called.{called, cut_of, newest_of, room_of}
use Rattle.provider.proofs.provider.Provider.commit.Goals as goal
use Rattle.provider.proofs.Kept.{provider_kept}

pub index_mut-requires : goal.index_mut-requires
index_mut-requires g c = let low = group_low c.self.view_is c.requires.has c.place-place.ensures in omega (arith, low, c.self.inside.groups.ok.0)

pub cut-requires : goal.cut-requires
cut-requires g c =
    let f = found_by c.self.view_is c.requires.has c.place-place.ensures c.index_mut.ensures.value in
    let can = subst (λ (p : ProviderValue _). CanCutOn g.D.Device.told c.args.scenario.now p c.args.volume) (sym c.self.view_is) c.requires.can in
    record {
      volume = inside f;
      above_zero = can.above_zero;
      room = room_of g.D.Device.told _ f can;
      newest = newest_of g.D.Device.told _ f can;
    }

pub invariant_of-self : goal.invariant_of-self
invariant_of-self g c =
    let now = called (found_by c.self.view_is c.requires.has c.place-place.ensures c.index_mut.ensures.value) c.cut.new.self in
    provider_kept g.D.Device _ _ c.self.inside.volumes c.self.inside.list
    ((cut_of g.D.Device now c.self.inside.set c.cut.ensures.devices c.cut.ensures.area c.cut.ensures.stands).kept) c.self.invariant

pub returns-clause-cut : goal.returns-clause-cut
returns-clause-cut g c =
    let now = called (found_by c.self.view_is c.requires.has c.place-place.ensures c.index_mut.ensures.value) c.cut.new.self in
    rw (← c.self.view_is) (cut_of g.D.Device now c.self.inside.set c.cut.ensures.devices c.cut.ensures.area c.cut.ensures.stands)
