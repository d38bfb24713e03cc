-- A set of context 0 without writers: its image is kept until the session ends, and no longer.
use Rattle.std.specs.Prelude.{ℕ, false, List, [], ◌∷◌, ◌++◌, codes}
use Rattle.write_history.specs.declared.move_item.Move.{Move}
use Rattle.scenario.specs.declared.op.Op.TheVariants.{Begin, Gather, Start, Add, Prepare, Snapshot, Await, Query, End}
use Rattle.scenario.specs.Plan.{Plan}
use Rattle.generated.specs.Making.{span, volume, group, numbered, lane, by_lane, steps, with_effects, alone, volume_with, report_of, digest_of}

abbrev pub scenario : Plan
scenario = record {
  source = codes "Ca";
  volumes = volume (span 0 1) 1 1 0 ∷ [];
  groups = group (span 0 1) 1 ∷ [];
  writers = [];
  lanes = lane (span 1 2) (numbered 4 (Begin 0 false ∷ Gather ∷ Await ∷ Start ∷ Add 0 ∷ Prepare ∷ Await ∷ Snapshot ∷ Await ∷ Query 0 ∷ End ∷ Query 0 ∷ [])) ∷ [];
}

abbrev pub trail : List Move
trail = by_lane 0 8 ++ steps 7 ++ by_lane 0 4

abbrev pub report : List ℕ
report = report_of (
    alone (
    codes "1 lane a 4 ok"
    ∷ codes "2 lane a 5 VSS_S_ASYNC_PENDING"
    ∷ codes "3 lane a 6 VSS_S_ASYNC_FINISHED"
    ∷ codes "4 lane a 7 set 1"
    ∷ codes "5 lane a 8 ok"
    ∷ codes "6 lane a 9 VSS_S_ASYNC_PENDING"
    ∷ codes "7 lane a 10 VSS_S_ASYNC_FINISHED"
    ∷ codes "8 lane a 11 VSS_S_ASYNC_PENDING"
    ∷ codes "9 provider precommit"
    ∷ codes "10 provider flush C"
    ∷ codes "11 provider hold C"
    ∷ codes "12 provider cut"
    ∷ codes "13 provider commit C"
    ∷ codes "14 provider release C"
    ∷ [])
    ++ with_effects (codes "15 provider postcommit") (codes "= set 1 complete" ∷ [])
    ∷ alone (
    codes "16 lane a 12 VSS_S_ASYNC_FINISHED"
    ∷ codes "17 lane a 13 images 1"
    ∷ codes "18 lane a 14 ok"
    ∷ codes "19 lane a 15 images"
    ∷ []))
    (codes "end moves 19 clock 0")
    (volume_with (codes "volume C used 0 of 1 " ++ digest_of (0 ∷ []))
    [] [])
    []
