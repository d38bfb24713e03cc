use Rattle.std.proofs.Common.{◌≡◌, ◌++◌, drop, map, take, vec_capacity}
use Rattle.provider.specs.Calls.{renumbered}
use Rattle.provider.proofs.renumbering.renumber.Given as goal

-- the first images have the scenario's numbers, the others those of the group still
abbrev pub invariant-loop-i : goal.invariant-loop-i
invariant-loop-i l =
    (l.images.items ≡ map (renumbered l.scenario l.group) (take l.i l.initial.images.items) ++ drop l.i l.initial.images.items)
    × (vec_capacity l.images ≡ vec_capacity l.initial.images)
