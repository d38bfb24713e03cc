use Rattle.std.proofs.Common.{ℕ, ◌<◌, ◌≢◌}
use Rattle.std.specs.Prelude.{slice_get}
use Rattle.image_store.specs.Opening.{names_of}
use Rattle.image_store.proofs.opening.is_double.Given as goal

abbrev pub invariant-loop-earlier : goal.invariant-loop-earlier
invariant-loop-earlier l = (u : ℕ) → u < l.earlier → slice_get (names_of l.catalog) u ≢ slice_get (names_of l.catalog) l.v
