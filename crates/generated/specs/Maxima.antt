-- The greatest number of volumes in a set, by a run over 65 volumes, and the greatest number of images of a volume, by
-- a state in which so many stand.
use Rattle.std.specs.Prelude.{ℕ, ◌+◌, ◌*◌, false, List, [], ◌∷◌, ◌++◌, map, codes, take}
use Rattle.std.specs.List.{range_with_len}
use Rattle.vss_names.specs.declared.context.Context.TheVariants.{NasRollback}
use Rattle.write_history.specs.declared.actor.Actor.TheVariants.{Lane}
use Rattle.write_history.specs.declared.move_item.Move.{Move}
use Rattle.write_history.specs.History.{Image}
use Rattle.scenario.specs.declared.op.Op.TheVariants.{Begin, Start, Add}
use Rattle.scenario.specs.Plan.{Plan}
use Rattle.vss_model.specs.State.{State, SetRow, start}
use Rattle.vss_model.specs.Sessions.{new_set}
use Rattle.vss_model.specs.Trail.{run}
use Rattle.vss_report.specs.ToldLines.{told_move}
use Rattle.generated.specs.Making.{span, volume, group, numbered, implied_end, lane, by_lane, clean}

-- 65 volumes with names of two letters, and a lane that adds each of them to one set
abbrev pub scenario : Plan
scenario = record {
  source = codes "aaabacadaeafagahaiajakalamanaoapaqarasatauavawaxayazbabbbcbdbebfbgbhbibjbkblbmbnbobpbqbrbsbtbubvbwbxbybzcacbcccdcecfcgchcicjckclcml";
  volumes = map (λ v. volume (span (2 * v) (2 * v + 2)) 1 0 v) (range_with_len 0 65);
  groups = map (λ v. group (span (2 * v) (2 * v + 2)) 0) (range_with_len 0 65);
  writers = [];
  lanes = lane (span 130 131) (numbered 68 (Begin 25 false ∷ Start ∷ map Add (range_with_len 0 65)) ++ implied_end) ∷ [];
}

abbrev pub trail : List Move
trail = by_lane 0 68

-- the line of the lane's move after so many others
abbrev pub line_after : ℕ → List ℕ
line_after n = told_move scenario (run scenario (take n trail)) (clean (Lane 0))

-- ## images

-- images of as many sets, the oldest of set 1
abbrev pub images : ℕ → List Image
images n = map (λ s. record { set = s; point = 0 }) (range_with_len 1 n)

-- the next set, and a state in which so many images stand on the first volume
abbrev pub next_set : ℕ → SetRow
next_set n = new_set (n + 1) NasRollback

abbrev pub with_images : ℕ → State
with_images n = record (start scenario) { volumes = record { writes = []; images = images n } ∷ [] }
