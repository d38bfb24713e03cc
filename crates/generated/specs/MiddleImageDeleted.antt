-- Three images of a volume of two blocks, and the middle one is deleted: its copies go to the older image.
use Rattle.std.specs.Prelude.{[], ◌∷◌}
use Rattle.write_history.specs.History.{History, fresh, cut, dropped}
use Rattle.generated.specs.Histories.{after, put}

abbrev pub before : History
before = after fresh (cut 1 ∷ put 0 1 ∷ cut 2 ∷ put 0 2 ∷ put 1 9 ∷ cut 3 ∷ put 1 3 ∷ [])

abbrev pub deleted : History
deleted = dropped 2 before
