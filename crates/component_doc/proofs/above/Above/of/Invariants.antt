use Rattle.std.proofs.Common.{◌≡◌, ◌||◌, drop, map}
use Rattle.writer_meta.specs.Metadata.{part_of}
use Rattle.component_doc.specs.Selection.{has_named_ancestor, has_selectable_ancestor}
use Rattle.component_doc.proofs.above.Above.of.Given as goal

-- what was seen so far, or what is left to see
abbrev pub invariant-loop-i : goal.invariant-loop-i
invariant-loop-i l =
    let c = part_of l.component in
    let parts = map part_of l.components in
    let left = map part_of (drop l.i l.components) in
    (has_named_ancestor l.pairs l.writer c 0 parts ≡ (l.named || has_named_ancestor l.pairs l.writer c l.i left))
    × (has_selectable_ancestor c parts ≡ (l.selectable || has_selectable_ancestor c left))
