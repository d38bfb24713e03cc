use Rattle.std.specs.Prelude.{◌≡◌}
use Rattle.images.proofs.list.length_of_all.Given as goal

abbrev pub invariant-loop-part : goal.invariant-loop-part
invariant-loop-part l = l.opened.store.group.area.volumes ≡ l.fn.opened.store.group.area.volumes
