use Rattle.std.specs.Prelude.{◌≢◌, ◌<◌, length, All}
use Rattle.std.specs.List.{AllPairs}
use Rattle.backup.proofs.folder_work.add_places.Given as goal

abbrev pub invariant-loop-name : goal.invariant-loop-name
invariant-loop-name l = All (λ v. v < length l.opened.store.group.area.volumes) l.places.items × AllPairs (λ u v. u ≢ v) l.places.items
