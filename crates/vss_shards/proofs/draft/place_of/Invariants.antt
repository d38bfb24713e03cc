use Rattle.std.proofs.Common.{ℕ, ◌≢◌, ◌<◌, Some}
use Rattle.std.specs.Prelude.{slice_get}
use Rattle.vss_shards.proofs.draft.place_of.Given as goal

-- no part so far is that part
abbrev pub invariant-loop-place : goal.invariant-loop-place
invariant-loop-place l = (k : ℕ) → k < l.place → slice_get l.parts k ≢ Some l.part
