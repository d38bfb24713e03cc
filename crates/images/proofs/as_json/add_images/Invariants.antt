use Rattle.std.specs.Prelude.{◌≡◌}
use Rattle.images.proofs.as_json.add_images.Given as goal

abbrev pub invariant-loop-place : goal.invariant-loop-place
invariant-loop-place l = l.opened.store.group.area.volumes ≡ l.fn.opened.store.group.area.volumes
