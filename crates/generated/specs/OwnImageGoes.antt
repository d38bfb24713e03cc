-- A write between the release of a volume and the completion of its set finds no slot: the image of the set itself
-- goes, so the set fails, and the write goes on.
use Rattle.std.specs.Prelude.{ℕ, false, List, [], ◌∷◌, ◌++◌, codes}
use Rattle.write_history.specs.declared.move_item.Move.{Move}
use Rattle.scenario.specs.declared.op.Op.TheVariants.{Begin, Start, Add, Snapshot, Await, WriteFill, End}
use Rattle.scenario.specs.Plan.{Plan}
use Rattle.generated.specs.Making.{span, volume, group, numbered, lane, by_lane, steps, with_effects, alone, volume_with, report_of, digest_of}

abbrev pub scenario : Plan
scenario = record {
  source = codes "Crw";
  volumes = volume (span 0 1) 2 0 0 ∷ [];
  groups = group (span 0 1) 0 ∷ [];
  writers = [];
  lanes =
      lane (span 1 2) (numbered 4 (Begin 25 false ∷ Start ∷ Add 0 ∷ Snapshot ∷ Await ∷ End ∷ []))
      ∷ lane (span 2 3) (numbered 11 (WriteFill 0 0 1 ∷ []))
      ∷ [];
}

abbrev pub trail : List Move
trail = by_lane 0 4 ++ steps 6 ++ by_lane 1 1 ++ by_lane 0 2

abbrev pub report : List ℕ
report = report_of (
    alone (
    codes "1 lane r 4 ok"
    ∷ codes "2 lane r 5 set 1"
    ∷ codes "3 lane r 6 ok"
    ∷ codes "4 lane r 7 VSS_S_ASYNC_PENDING"
    ∷ codes "5 provider precommit"
    ∷ codes "6 provider flush C"
    ∷ codes "7 provider hold C"
    ∷ codes "8 provider cut"
    ∷ codes "9 provider commit C"
    ∷ codes "10 provider release C"
    ∷ [])
    ++ with_effects (codes "11 lane w 11 ok") (codes "= set 1 failed VSS_E_INSUFFICIENT_STORAGE" ∷ [])
    ∷ alone (
    codes "12 lane r 8 VSS_E_INSUFFICIENT_STORAGE"
    ∷ codes "13 lane r 9 ok"
    ∷ []))
    (codes "end moves 13 clock 0")
    (volume_with (codes "volume C used 0 of 0 " ++ digest_of (1 ∷ 0 ∷ []))
    [] [])
    []
