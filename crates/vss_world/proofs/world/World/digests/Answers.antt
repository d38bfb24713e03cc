use Rattle.vss_world.proofs.Digesting.{digested_told}
use Rattle.vss_world.proofs.world.World.digests.Goals as goal

pub returns : goal.returns
returns g c = rw c.new.ensures.rows (digested_told g.D.Device.told c.self.view_is c.requires c.in_ok-rows.rows.items c.in_ok-rows.ensures)
