use Rattle.std.proofs.Common.{◌<◌, ℕ, slice_get}
use Rattle.component_doc.specs.Over.{metas_of, IsKnownAllowed, meta_at}
use Rattle.component_doc.proofs.metas.Metas.are_allowed.Given as goal

-- the metadata of the writers so far are allowed
abbrev pub invariant-loop-writer : goal.invariant-loop-writer
invariant-loop-writer l = (w : ℕ) → w < l.writer → IsKnownAllowed (meta_at (slice_get (metas_of l.self) w))
