-- Two volumes that share an area of two slots, each in a set of its own: the third first write takes the image of the
-- older set, although it stands on the other volume.
use Rattle.std.specs.Prelude.{ℕ, false, List, [], ◌∷◌, ◌++◌, codes}
use Rattle.write_history.specs.declared.move_item.Move.{Move}
use Rattle.scenario.specs.declared.op.Op.TheVariants.{Begin, Start, Add, Snapshot, Await, WriteFill, End}
use Rattle.scenario.specs.Plan.{Plan}
use Rattle.generated.specs.Making.{span, volume, group, numbered, lane, by_lane, steps, with_effects, alone, volume_with, report_of, digest_of}

abbrev pub scenario : Plan
scenario = record {
  source = codes "CGDa";
  volumes =
      volume (span 0 1) 2 2 0
      ∷ volume (span 2 3) 2 2 0
      ∷ [];
  groups = group (span 1 2) 2 ∷ [];
  writers = [];
  lanes = lane (span 3 4) (numbered 6 (Begin 25 false ∷ Start ∷ Add 0 ∷ Snapshot ∷ Await ∷ End ∷ Begin 25 false ∷ Start ∷ Add 1 ∷ Snapshot ∷ Await ∷ End ∷ WriteFill 0 0 1 ∷ WriteFill 1 0 2 ∷ WriteFill 1 1 3 ∷ [])) ∷ [];
}

abbrev pub trail : List Move
trail = by_lane 0 4 ++ steps 7 ++ by_lane 0 6 ++ steps 7 ++ by_lane 0 5

abbrev pub report : List ℕ
report = report_of (
    alone (
    codes "1 lane a 6 ok"
    ∷ codes "2 lane a 7 set 1"
    ∷ codes "3 lane a 8 ok"
    ∷ codes "4 lane a 9 VSS_S_ASYNC_PENDING"
    ∷ codes "5 provider precommit"
    ∷ codes "6 provider flush C"
    ∷ codes "7 provider hold C"
    ∷ codes "8 provider cut"
    ∷ codes "9 provider commit C"
    ∷ codes "10 provider release C"
    ∷ [])
    ++ with_effects (codes "11 provider postcommit") (codes "= set 1 complete" ∷ [])
    ∷ alone (
    codes "12 lane a 10 VSS_S_ASYNC_FINISHED"
    ∷ codes "13 lane a 11 ok"
    ∷ codes "14 lane a 12 ok"
    ∷ codes "15 lane a 13 set 2"
    ∷ codes "16 lane a 14 ok"
    ∷ codes "17 lane a 15 VSS_S_ASYNC_PENDING"
    ∷ codes "18 provider precommit"
    ∷ codes "19 provider flush D"
    ∷ codes "20 provider hold D"
    ∷ codes "21 provider cut"
    ∷ codes "22 provider commit D"
    ∷ codes "23 provider release D"
    ∷ [])
    ++ with_effects (codes "24 provider postcommit") (codes "= set 2 complete" ∷ [])
    ∷ alone (
    codes "25 lane a 16 VSS_S_ASYNC_FINISHED"
    ∷ codes "26 lane a 17 ok"
    ∷ codes "27 lane a 18 ok"
    ∷ codes "28 lane a 19 ok"
    ∷ [])
    ++ with_effects (codes "29 lane a 20 ok") (codes "= evicted 1 C" ∷ []) ∷ [])
    (codes "end moves 29 clock 0")
    (volume_with (codes "volume C used 0 of 2 " ++ digest_of (1 ∷ 0 ∷ []))
    []
    (volume_with (codes "volume D used 2 of 2 " ++ digest_of (2 ∷ 3 ∷ []))
    ((codes "image 2 D " ++ digest_of (0 ∷ 0 ∷ [])) ∷ []) []))
    []
