use Rattle.std.proofs.Common.{◌≡◌, ◌<◌, Some, length, slice_get, All}
use Rattle.image_folder.specs.Parts.{AreParts}
use Rattle.image_folder.proofs.naming.parts_in.Given as goal

abbrev pub invariant-loop-number : goal.invariant-loop-number
invariant-loop-number l = All (λ v. v < length l.store.group.area.volumes) l.parts.items × (slice_get l.parts.items 0 ≡ Some l.volume)
    × (length l.parts.items ≡ l.number) × AreParts l.store.names l.volume l.parts.items
