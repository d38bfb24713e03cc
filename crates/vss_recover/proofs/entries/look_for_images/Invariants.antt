use Rattle.std.proofs.Common.{ℕ, ◌≡◌, ◌<◌, ◌∷◌, [], Some}
use Rattle.std.specs.Prelude.{slice_get}
use Rattle.diff_area.specs.declared.table_record.Record.{Record}
use Rattle.cow_volume.specs.Resuming.{HasImage}
use Rattle.vss_recover.proofs.entries.look_for_images.Given as goal

-- the records of the slots so far have their images
abbrev pub invariant-loop-slot : goal.invariant-loop-slot
invariant-loop-slot g l = (k : ℕ) (r : Record) → k < l.slot → slice_get l.area.records k ≡ Some r → HasImage (l.images ∷ []) r
