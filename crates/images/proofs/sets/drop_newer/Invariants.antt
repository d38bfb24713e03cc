use Rattle.std.specs.Prelude.{◌≡◌}
use Rattle.images.proofs.sets.drop_newer.Given as goal

abbrev pub invariant-loop-image : goal.invariant-loop-image
invariant-loop-image l = l.store.group.area.volumes ≡ l.fn.store.group.area.volumes
