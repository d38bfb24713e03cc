use Rattle.std.specs.Prelude.{◌≢◌, ◌<◌, length, All}
use Rattle.std.specs.List.{AllPairs}
use Rattle.image_folder.proofs.opened.Opened.add_places.Given as goal

abbrev pub invariant-loop-volume : goal.invariant-loop-volume
invariant-loop-volume l = All (λ v. v < length l.self.store.group.area.volumes) l.volumes.items × AllPairs (λ u v. u ≢ v) l.volumes.items
