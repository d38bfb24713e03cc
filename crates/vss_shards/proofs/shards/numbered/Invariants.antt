use Rattle.std.proofs.Common.{◌≡◌, ◌+◌, ◌++◌, length}
use Rattle.std.specs.Prelude.{All}
use Rattle.write_history.specs.History.{fresh}
use Rattle.cow_volume.specs.OneVolume.{StandsForOne}
use Rattle.vss_shards.specs.Shards.{shards_from}
use Rattle.vss_shards.proofs.shards.numbered.Given as goal

-- the shards so far, and those of the volumes that are left, are all; and these are fresh
abbrev pub invariant-loop-volume : goal.invariant-loop-volume
invariant-loop-volume g l =
    (l.shards.items ++ shards_from l.number l.volume-iterator.rest.items ≡ shards_from 0 l.fn.volumes.items)
    × (l.number + length l.volume-iterator.rest.items ≡ length l.fn.volumes.items)
    × All (λ volume. StandsForOne g.D.Device.told volume fresh) l.volume-iterator.rest.items
