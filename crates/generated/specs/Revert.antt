-- Two sets with a write after each, and a revert to the older: the newer image is gone, and writes go on from there.
use Rattle.std.specs.Prelude.{ℕ, false, List, [], ◌∷◌, ◌++◌, codes}
use Rattle.write_history.specs.declared.move_item.Move.{Move}
use Rattle.scenario.specs.declared.op.Op.TheVariants.{Begin, Start, Add, Snapshot, Await, WriteFill, ImageBlock, Read, Query, Revert, End}
use Rattle.scenario.specs.Plan.{Plan}
use Rattle.generated.specs.Making.{span, volume, group, numbered, lane, by_lane, steps, with_effects, alone, volume_with, report_of, digest_of, data_of}

abbrev pub scenario : Plan
scenario = record {
  source = codes "Ca";
  volumes = volume (span 0 1) 3 6 0 ∷ [];
  groups = group (span 0 1) 6 ∷ [];
  writers = [];
  lanes = lane (span 1 2) (numbered 4 (Begin 25 false ∷ Start ∷ Add 0 ∷ Snapshot ∷ Await ∷ End ∷ WriteFill 0 0 1 ∷ Begin 25 false ∷ Start ∷ Add 0 ∷ Snapshot ∷ Await ∷ End ∷ WriteFill 0 1 2 ∷ Query 0 ∷ Revert 1 0 ∷ Query 0 ∷ ImageBlock 2 0 1 ∷ WriteFill 0 2 3 ∷ Read 0 0 ∷ [])) ∷ [];
}

abbrev pub trail : List Move
trail = by_lane 0 4 ++ steps 7 ++ by_lane 0 7 ++ steps 7 ++ by_lane 0 9

abbrev pub report : List ℕ
report = report_of (
    alone (
    codes "1 lane a 4 ok"
    ∷ codes "2 lane a 5 set 1"
    ∷ codes "3 lane a 6 ok"
    ∷ codes "4 lane a 7 VSS_S_ASYNC_PENDING"
    ∷ codes "5 provider precommit"
    ∷ codes "6 provider flush C"
    ∷ codes "7 provider hold C"
    ∷ codes "8 provider cut"
    ∷ codes "9 provider commit C"
    ∷ codes "10 provider release C"
    ∷ [])
    ++ with_effects (codes "11 provider postcommit") (codes "= set 1 complete" ∷ [])
    ∷ alone (
    codes "12 lane a 8 VSS_S_ASYNC_FINISHED"
    ∷ codes "13 lane a 9 ok"
    ∷ codes "14 lane a 10 ok"
    ∷ codes "15 lane a 11 ok"
    ∷ codes "16 lane a 12 set 2"
    ∷ codes "17 lane a 13 ok"
    ∷ codes "18 lane a 14 VSS_S_ASYNC_PENDING"
    ∷ codes "19 provider precommit"
    ∷ codes "20 provider flush C"
    ∷ codes "21 provider hold C"
    ∷ codes "22 provider cut"
    ∷ codes "23 provider commit C"
    ∷ codes "24 provider release C"
    ∷ [])
    ++ with_effects (codes "25 provider postcommit") (codes "= set 2 complete" ∷ [])
    ∷ alone (
    codes "26 lane a 15 VSS_S_ASYNC_FINISHED"
    ∷ codes "27 lane a 16 ok"
    ∷ codes "28 lane a 17 ok"
    ∷ codes "29 lane a 18 images 1 2"
    ∷ codes "30 lane a 19 ok"
    ∷ codes "31 lane a 20 images 1"
    ∷ codes "32 lane a 21 VSS_E_OBJECT_NOT_FOUND"
    ∷ codes "33 lane a 22 ok"
    ∷ (codes "34 lane a 23 data " ++ data_of 0)
    ∷ []))
    (codes "end moves 34 clock 0")
    (volume_with (codes "volume C used 1 of 6 " ++ digest_of (0 ∷ 0 ∷ 3 ∷ []))
    ((codes "image 1 C " ++ digest_of (0 ∷ 0 ∷ 0 ∷ [])) ∷ []) [])
    []
