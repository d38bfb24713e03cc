use Rattle.std.proofs.Common.{ℕ, ◌≡◌, ◌<◌, Some, slice_get}
use Rattle.trials.proofs.small_area.stands_elsewhere.Given as goal

-- no slot before this one has the record, but for the named one
abbrev pub invariant-loop-other : goal.invariant-loop-other
invariant-loop-other l = (k : ℕ) → k < l.other → slice_get l.area.records k ≡ Some l.row → k ≡ l.slot
