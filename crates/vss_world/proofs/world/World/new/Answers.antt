use Rattle.vss_world.proofs.FirstState.{made_of, made_stands}
use Rattle.vss_world.proofs.world.World.new.Goals as goal

pub returns-in-Ok-new-clause-stands : goal.returns-in-Ok-new-clause-stands
returns-in-Ok-new-clause-stands g c =
    made_stands g.D.Device.told c.args.scenario.now c.args.groups.items c.in-Ok-new.provider c.in-Ok.rest.sessions c.in-Ok.rest.listed c.in-Ok.rest.evicted
    c.volumes-volumes.ensures.plan c.requires c.in-Ok-new.ensures.made c.in-Ok-new.ensures.whole c.in-Ok.ensures.begun (c.in-Ok-new.ensures.fresh c.args.scenario.now)

pub returns-in-Ok-new-clause-of : goal.returns-in-Ok-new-clause-of
returns-in-Ok-new-clause-of g c =
    made_of g.D.Device.told c.args.scenario.now c.args.groups.items c.in-Ok-new.provider c.in-Ok.rest.sessions c.in-Ok.rest.listed c.in-Ok.rest.evicted
    c.volumes-volumes.ensures.plan c.requires c.in-Ok-new.ensures.made c.in-Ok-new.ensures.whole c.in-Ok.ensures.begun
