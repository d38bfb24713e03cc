-- The headline: what holds of every run of a scenario, in the order in which it is told. It follows from that the trail is legal and
-- complete, and from nothing else: no code is trusted for it, and `every_run_has_the_headline` is its proof. (One moment for all
-- volumes of a set is what the SDK's freeze, flush and hold are for; that nothing stays behind of a set that failed is its
-- AbortSnapshots.)
use Rattle.std.specs.Prelude.{ℕ, ◌≡◌, ◌≤◌, true, List, ◌∷◌, ◌++◌, length, Some}
use Rattle.write_history.specs.History.{point_in}
use Rattle.write_history.specs.declared.move_item.Move.{Move}
use Rattle.scenario.specs.Plan.{Plan}
use Rattle.vss_model.specs.State.{SetRow, in_progress, row_of, history_of, is_held, is_frozen}
use Rattle.vss_model.specs.Acts.{Act, state}
use Rattle.vss_model.specs.Facts.{has_failed}
use Rattle.vss_model.specs.Turns.{most_moves}
use Rattle.vss_model.specs.Headline.{MakesEachLineOnce, ReadsAsAtTheCut, LeavesNothing, IsHeldForSet, IsFrozenForSet, KeepsSet}
use Rattle.vss_model.specs.Trail.{acts}
use Rattle.promises.specs.Ends.{EndsEachSet, CompletesWhereCalm}
use Rattle.promises.specs.Failing.{FailsForCause}

pub record Headline (s : Plan) (trail : List Move) : Type 0 where
  -- each lane has made each of its lines once, in order
  pub each_line_once : MakesEachLineOnce s trail
  -- Whenever an image stands, its set had one cut for all its volumes; there each of them was held, and every writer that took part
  -- stood frozen; and the image reads, block for block, as its volume did there.
  pub reads_as_then : (so_far rest : List Act) (n v p : ℕ) → acts s trail ≡ so_far ++ rest → point_in n (history_of (state s so_far) v).images ≡ Some p
      → ReadsAsAtTheCut s so_far n v p
  -- once a set has failed no image of it stands, and no copy is kept for it
  pub nothing_left : (so_far rest : List Act) (n : ℕ) (r : SetRow) → acts s trail ≡ so_far ++ rest → row_of (state s so_far) n ≡ Some r
      → has_failed r.result ≡ true → LeavesNothing s so_far n
  -- In the act that fails a set everything is let go. A held volume keeps its writes; and a set that completes has its images.
  pub let_go : (so_far rest : List Act) (act : Act) (r : SetRow) → acts s trail ≡ so_far ++ act ∷ rest → in_progress (state s so_far) ≡ Some r
      → KeepsSet s (state s so_far) act r
  -- volumes are held and writers stand frozen for the set in progress alone
  pub held : (so_far rest : List Act) (v : ℕ) → acts s trail ≡ so_far ++ rest → is_held (state s so_far) v ≡ true → IsHeldForSet (state s so_far) v
  pub frozen : (so_far rest : List Act) (w : ℕ) → acts s trail ≡ so_far ++ rest → is_frozen (state s so_far) w ≡ true → IsFrozenForSet (state s so_far) w
  -- each set that was started is complete at the end, or has failed
  pub each_set_ends : EndsEachSet s trail
  -- an act that gives a cause fails the set in progress, and no other does
  pub fails_for_cause : (so_far rest : List Act) (act : Act) → acts s trail ≡ so_far ++ act ∷ rest → FailsForCause s so_far act
  -- a set in progress that nothing disturbs completes
  pub completes : CompletesWhereCalm s trail
  -- a run has at most so many moves
  pub short : length trail ≤ most_moves
