use Rattle.std.proofs.Common.{◌≡◌, true, length}
use Rattle.component_doc.specs.Over.{is_named}
use Rattle.backup.proofs.driving.members.selection_of.Given as goal

-- components are named one by one, over all writers
abbrev pub invariant-loop-place : goal.invariant-loop-place
invariant-loop-place l = (l.selection.writers ≡ length l.metas) × (is_named l.selection.selected ≡ true)
