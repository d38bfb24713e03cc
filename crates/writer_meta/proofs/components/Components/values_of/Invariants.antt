use Rattle.std.proofs.Common.{◌≡◌, drop, map}
use Rattle.writer_meta.specs.Metadata.{part_of, parts_data}
use Rattle.writer_meta.proofs.Laws.{with_items}
use Rattle.writer_meta.proofs.components.Components.values_of.Given as goal

-- the values so far, and then those of the components that are left
abbrev pub invariant-loop-component : goal.invariant-loop-component
invariant-loop-component l =
    with_items l.values.items (parts_data (map part_of (drop l.component-index l.components))) ≡ parts_data (map part_of l.components)
