-- All three blocks of a volume are written after its first image, and a second image is cut. A revert to the first
-- stops after one restored block, and a second try goes through.
use Rattle.std.specs.Prelude.{[], ◌∷◌}
use Rattle.write_history.specs.History.{History, fresh, cut, reverted, reverted_in_part}
use Rattle.generated.specs.Histories.{after, put}

abbrev pub before : History
before = after fresh (cut 1 ∷ put 0 5 ∷ put 1 5 ∷ put 2 5 ∷ cut 2 ∷ [])

abbrev pub stopped : History
stopped = reverted_in_part 3 1 0 1 before

abbrev pub finished : History
finished = reverted 1 0 stopped
