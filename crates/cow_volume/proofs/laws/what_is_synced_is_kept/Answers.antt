use Rattle.cow_volume.proofs.Stored.{synced_kept}
use Rattle.cow_volume.proofs.laws.what_is_synced_is_kept.Goals as goal

pub returns : goal.returns
returns g c = λ old new area hs sync stands all tells volumes same loaded.
    synced_kept g.D.Device old new area hs sync stands all tells volumes same loaded
