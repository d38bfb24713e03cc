use Rattle.std.proofs.Common.{arith, subst, sym}
use Rattle.provider.proofs.Words.{HasRoom, ProviderValue}
use Rattle.provider.proofs.Found.{below, found_by, group_low, inside}
use Rattle.provider.proofs.Called.{called, put_of}
use Rattle.provider.proofs.Room.{room_here}
use Rattle.provider.proofs.provider.Provider.put.Goals as goal
use Rattle.provider.proofs.Kept.{provider_kept}

pub index_mut-requires : goal.index_mut-requires
index_mut-requires g c = let low = group_low c.self.view_is c.requires.has c.place-place.ensures in omega (arith, low, c.self.inside.groups.ok.0)

pub put-requires : goal.put-requires
put-requires g c =
    let f = found_by c.self.view_is c.requires.has c.place-place.ensures c.index_mut.ensures.value in
    record {
      volume = inside f;
      in_range = below f c.args.block c.requires.block.1;
      room = room_here c.args.block f (subst (λ (p : ProviderValue _). HasRoom c.args.scenario.now p.groups c.args.volume c.args.block) (sym c.self.view_is) c.requires.room);
    }

pub invariant_of-self : goal.invariant_of-self
invariant_of-self g c =
    let now = called (found_by c.self.view_is c.requires.has c.place-place.ensures c.index_mut.ensures.value) c.put.new.self in
    provider_kept g.D.Device _ _ c.self.inside.volumes c.self.inside.list ((put_of g.D.Device now _ c.put.result c.put.ensures.put).call.kept) c.self.invariant

pub returns-clause-put : goal.returns-clause-put
returns-clause-put g c =
    rw (← c.self.view_is) (put_of g.D.Device (called (found_by c.self.view_is c.requires.has c.place-place.ensures c.index_mut.ensures.value) c.put.new.self) _ c.put.result c.put.ensures.put)
