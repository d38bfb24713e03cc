use Rattle.image_store.proofs.PowerLoss.{opens_found}
use Rattle.image_store.proofs.laws.what_is_under_way_is_found.Goals as goal

pub returns : goal.returns
returns g c = λ s p now found area committed under are. opens_found g.D.Device.told s.group now s.names s.last p found area committed under are
