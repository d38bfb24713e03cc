use Rattle.std.specs.Prelude.{◌≤◌}
use Rattle.image_folder.specs.Parts.{AreFree, IsUsedBefore}
use Rattle.image_folder.proofs.freeing.used_up_to.Given as goal

abbrev pub invariant-loop-slot : goal.invariant-loop-slot
invariant-loop-slot l = (l.used ≤ l.slot) × AreFree l.rows l.used l.slot × IsUsedBefore l.rows l.used
