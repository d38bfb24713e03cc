use Rattle.vss_world.proofs.Digesting.{synced_is, sync_is}
use Rattle.vss_world.proofs.world.World.sync.Goals as goal

pub returns : goal.returns
returns g c =
    let of = rw (← c.self.view_is) at c.requires.of in
    let is = sync_is g.D.Device c.sync.new.self of c.requires.in_range c.sync.ensures.synced c.sync.result c.sync.ensures.lasting c.sync.ensures.cause in
    rw (← c.self.view_is) (record {
      synced = synced_is g.D.Device of c.requires.in_range c.sync.ensures.synced c.sync.ensures.set;
      held = is.held;
      lasts = is.lasts;
      same = is.same;
      fault = is.fault;
      cause = is.cause;
    })
