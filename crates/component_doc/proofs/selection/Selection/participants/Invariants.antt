use Rattle.std.proofs.Common.{◌≡◌, filter}
use Rattle.std.specs.List.{range_with_len}
use Rattle.component_doc.specs.Selection.{is_taker}
use Rattle.component_doc.proofs.selection.Selection.participants.Given as goal

-- those that take part, of the writers that were passed
abbrev pub invariant-loop-writer : goal.invariant-loop-writer
invariant-loop-writer l = l.writers.items ≡ filter (is_taker l.self.selected) (range_with_len 0 l.writer)
