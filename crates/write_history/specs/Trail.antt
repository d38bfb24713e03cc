-- What a contract sees of a `Trail`, and what is said of one that takes no further move. (This project's own.)
use Rattle.std.specs.Prelude.{ℕ, List, codes}
use Rattle.write_history.specs.declared.move_item.Move.{Move}
use Rattle.write_history.specs.declared.trail.TrailFault.{TrailFault}
use Rattle.write_history.specs.declared.trail.TrailFault.TheVariants.{Full, OutOfMemory}

-- ## What a contract sees of a `Trail`: its moves, and its spare, the number of moves that it has room for beside them.
-- (This project's own.)

pub record TrailValue : Type 0 where
  pub moves : List Move
  pub spare : ℕ

-- ## What is said of a trail that takes no further move. (This project's own.)

abbrev pub message_of : TrailFault → List ℕ
message_of Full = codes "the trail is full"
message_of OutOfMemory = codes "out of memory"
