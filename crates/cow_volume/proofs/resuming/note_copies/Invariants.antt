use Rattle.std.proofs.Common.{ℕ, ◌≡◌, ◌<◌, length, Some, slice_get}
use Rattle.diff_area.specs.declared.table_record.Record.{Record}
use Rattle.cow_volume.specs.Resuming.{HasImage, AreTakenUp}
use Rattle.cow_volume.proofs.resuming.note_copies.Given as goal

-- the slots so far are noted, and their records have their images
abbrev pub invariant-loop-slot : goal.invariant-loop-slot
invariant-loop-slot g l = record {
  up : AreTakenUp l.area.volumes l.area.records l.images l.slot (length l.area.volumes) l.maps;
  has : (k : ℕ) (r : Record) → k < l.slot → slice_get l.area.records k ≡ Some r → HasImage l.images r;
}
