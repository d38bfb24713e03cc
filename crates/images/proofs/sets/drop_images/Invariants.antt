use Rattle.std.specs.Prelude.{◌≡◌}
use Rattle.images.proofs.sets.drop_images.Given as goal

abbrev pub invariant-loop-volume : goal.invariant-loop-volume
invariant-loop-volume l = l.opened.store.group.area.volumes ≡ l.fn.opened.store.group.area.volumes
