use Rattle.vss_world.proofs.Words.{state}
use Rattle.provider.proofs.Found.{sized_of}
use Rattle.vss_world.proofs.world.World.devices.Goals as goal

pub returns-clause-sized : goal.returns-clause-sized
returns-clause-sized g c = rw (← c.self.view_is) (λ acts stands.
    let of = rw (← c.self.view_is) at c.requires in
    sized_of g.D.Device.told g.D.Device.size c.args.scenario.now _ (state c.args.scenario.now acts).volumes of.groups stands.at.groups c.devices.ensures.fit)
