-- Two volumes in one set, and a lane that writes to both all the while: both images show one moment.
use Rattle.std.specs.Prelude.{ℕ, false, List, [], ◌∷◌, ◌++◌, codes}
use Rattle.write_history.specs.declared.move_item.Move.{Move}
use Rattle.scenario.specs.declared.op.Op.TheVariants.{Begin, Start, Add, Snapshot, Await, WriteFill, End}
use Rattle.scenario.specs.Plan.{Plan}
use Rattle.generated.specs.Making.{span, volume, group, numbered, lane, by_lane, steps, with_effects, alone, volume_with, report_of, digest_of}

abbrev pub scenario : Plan
scenario = record {
  source = codes "CDrw";
  volumes =
      volume (span 0 1) 2 4 0
      ∷ volume (span 1 2) 2 4 1
      ∷ [];
  groups =
      group (span 0 1) 4
      ∷ group (span 1 2) 4
      ∷ [];
  writers = [];
  lanes =
      lane (span 2 3) (numbered 5 (Begin 25 false ∷ Start ∷ Add 0 ∷ Add 1 ∷ Snapshot ∷ Await ∷ End ∷ []))
      ∷ lane (span 3 4) (numbered 13 (WriteFill 0 0 1 ∷ WriteFill 1 0 2 ∷ WriteFill 0 1 3 ∷ WriteFill 1 1 4 ∷ []))
      ∷ [];
}

abbrev pub trail : List Move
trail = by_lane 0 5 ++ steps 1 ++ by_lane 1 1 ++ steps 1 ++ by_lane 1 1 ++ steps 7 ++ by_lane 1 1 ++ steps 1 ++ by_lane 1 1 ++ steps 1 ++ by_lane 0 2

abbrev pub report : List ℕ
report = report_of (
    alone (
    codes "1 lane r 5 ok"
    ∷ codes "2 lane r 6 set 1"
    ∷ codes "3 lane r 7 ok"
    ∷ codes "4 lane r 8 ok"
    ∷ codes "5 lane r 9 VSS_S_ASYNC_PENDING"
    ∷ codes "6 provider precommit"
    ∷ codes "7 lane w 13 ok"
    ∷ codes "8 provider flush C"
    ∷ codes "9 lane w 14 ok"
    ∷ codes "10 provider flush D"
    ∷ codes "11 provider hold C"
    ∷ codes "12 provider hold D"
    ∷ codes "13 provider cut"
    ∷ codes "14 provider commit C"
    ∷ codes "15 provider commit D"
    ∷ codes "16 provider release C"
    ∷ codes "17 lane w 15 ok"
    ∷ codes "18 provider release D"
    ∷ codes "19 lane w 16 ok"
    ∷ [])
    ++ with_effects (codes "20 provider postcommit") (codes "= set 1 complete" ∷ [])
    ∷ alone (
    codes "21 lane r 10 VSS_S_ASYNC_FINISHED"
    ∷ codes "22 lane r 11 ok"
    ∷ []))
    (codes "end moves 22 clock 0")
    (volume_with (codes "volume C used 1 of 4 " ++ digest_of (1 ∷ 3 ∷ []))
    ((codes "image 1 C " ++ digest_of (1 ∷ 0 ∷ [])) ∷ [])
    (volume_with (codes "volume D used 1 of 4 " ++ digest_of (2 ∷ 4 ∷ []))
    ((codes "image 1 D " ++ digest_of (2 ∷ 0 ∷ [])) ∷ []) []))
    []
