use Rattle.std.proofs.Common.{◌≡◌, ◌++◌, drop, map}
use Rattle.writer_meta.specs.Metadata.{part_of}
use Rattle.writer_meta.proofs.components.Components.copies_of.Given as goal

-- the copies so far, and then the components that are left
abbrev pub invariant-loop-component : goal.invariant-loop-component
invariant-loop-component l =
    map part_of l.copies.items ++ map part_of (drop l.component-index l.components) ≡ map part_of l.components
