use Rattle.std.specs.Prelude.{◌≡◌}
use Rattle.images.proofs.list.add_volume.Given as goal

abbrev pub invariant-loop-place : goal.invariant-loop-place
invariant-loop-place l = l.opened.store.group.area.volumes ≡ l.fn.opened.store.group.area.volumes
