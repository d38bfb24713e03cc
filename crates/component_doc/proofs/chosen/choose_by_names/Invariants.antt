use Rattle.std.proofs.Common.{◌≡◌, ◌++◌, drop, map}
use Rattle.writer_meta.specs.Metadata.{part_of}
use Rattle.component_doc.specs.Selection.{IsAbove, Named, choices_from}
use Rattle.component_doc.proofs.chosen.choose_by_names.Given as goal

-- the choices so far, and then those of the components that are left
abbrev pub invariant-loop-i : goal.invariant-loop-i
invariant-loop-i l =
    IsAbove l.pairs l.writer (map part_of l.components) l.above
    × (l.choices.items ++ choices_from (Named l.pairs) (map part_of l.components) l.writer l.i (map part_of (drop l.i l.components))
    ≡ l.initial.choices.items ++ choices_from (Named l.pairs) (map part_of l.components) l.writer 0 (map part_of l.components))
