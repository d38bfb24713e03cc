use Rattle.std.proofs.Common.{ℕ, ◌<◌, ◌≤◌}
use Rattle.std.specs.Prelude.{All}
use Rattle.cow_volume.specs.Calls.{sets_at}
use Rattle.image_store.specs.Cutting.{IsGiven}
use Rattle.image_store.proofs.cutting.greatest_set.Given as goal

abbrev pub invariant-loop-v : goal.invariant-loop-v
invariant-loop-v g l = record { last : l.last ≤ l.greatest; all : (v : ℕ) → v < l.v → All (λ s. s ≤ l.greatest) (sets_at l.group v); given : IsGiven l.group l.last l.greatest }
