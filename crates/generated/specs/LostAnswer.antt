-- A writer never answers its Freeze: time goes by until the freeze limit is spent, and the set fails.
use Rattle.std.specs.Prelude.{ℕ, false, List, [], ◌∷◌, ◌++◌, codes, None}
use Rattle.vss_names.specs.declared.order.Order.TheVariants.{Freeze}
use Rattle.write_history.specs.declared.move_item.Move.{Move}
use Rattle.scenario.specs.declared.op.Op.TheVariants.{Begin, Gather, Component, Start, Add, Prepare, Snapshot, Await, Status, End}
use Rattle.scenario.specs.Plan.{Plan}
use Rattle.generated.specs.Making.{span, volume, group, scripted, writer, numbered, lane, by_lane, by_writers, idle, with_effects, alone, volume_with}
use Rattle.generated.specs.Making.{report_of, digest_of, system, database, web}

abbrev pub scenario : Plan
scenario = record {
  source = codes "Csysdbwebrmain";
  volumes = volume (span 0 1) 1 4 0 ∷ [];
  groups = group (span 0 1) 4 ∷ [];
  writers =
      writer (span 1 4) system (scripted Freeze 1 None ∷ [])
      ∷ writer (span 4 6) database []
      ∷ writer (span 6 9) web []
      ∷ [];
  lanes = lane (span 9 10) (numbered 8 (Begin 9 false ∷ Gather ∷ Await ∷ Component 0 (span 10 14) ∷ Component 1 (span 10 14) ∷ Component 2 (span 10 14) ∷ Start ∷ Add 0 ∷ Prepare ∷ Await ∷ Snapshot ∷ Await ∷ Status ∷ End ∷ [])) ∷ [];
}

abbrev pub trail : List Move
trail = by_lane 0 2 ++ by_writers (0 ∷ 1 ∷ 2 ∷ []) ++ by_lane 0 7 ++ by_writers (0 ∷ 1 ∷ 2 ∷ []) ++ by_lane 0 2 ++ by_writers (0 ∷ 1 ∷ 2 ∷ 2 ∷ 1 ∷ []) ++ idle ∷ by_lane 0 3

abbrev pub report : List ℕ
report = report_of (
    alone (
    codes "1 lane r 8 ok"
    ∷ codes "2 lane r 9 VSS_S_ASYNC_PENDING"
    ∷ codes "3 writer sys identify ok"
    ∷ codes "4 writer db identify ok"
    ∷ codes "5 writer web identify ok"
    ∷ codes "6 lane r 10 VSS_S_ASYNC_FINISHED"
    ∷ codes "7 lane r 11 ok"
    ∷ codes "8 lane r 12 ok"
    ∷ codes "9 lane r 13 ok"
    ∷ codes "10 lane r 14 set 1"
    ∷ codes "11 lane r 15 ok"
    ∷ codes "12 lane r 16 VSS_S_ASYNC_PENDING"
    ∷ codes "13 writer sys prepare_backup ok"
    ∷ codes "14 writer db prepare_backup ok"
    ∷ codes "15 writer web prepare_backup ok"
    ∷ codes "16 lane r 17 VSS_S_ASYNC_FINISHED"
    ∷ codes "17 lane r 18 VSS_S_ASYNC_PENDING"
    ∷ codes "18 writer sys prepare_snapshot ok"
    ∷ codes "19 writer db prepare_snapshot ok"
    ∷ codes "20 writer web prepare_snapshot ok"
    ∷ codes "21 writer web freeze ok"
    ∷ codes "22 writer db freeze ok"
    ∷ [])
    ++ with_effects (codes "23 idle 60001") (codes "= writer sys lost freeze" ∷ codes "= set 1 failed VSS_E_WRITERERROR_TIMEOUT" ∷ [])
    ∷ alone (
    codes "24 lane r 19 VSS_E_WRITERERROR_TIMEOUT"
    ∷ codes "25 lane r 20 status sys=VSS_WS_FAILED_AT_FREEZE/0x800423F2 db=VSS_WS_STABLE web=VSS_WS_STABLE"
    ∷ codes "26 lane r 21 ok"
    ∷ []))
    (codes "end moves 26 clock 60001")
    (volume_with (codes "volume C used 0 of 4 " ++ digest_of (0 ∷ []))
    [] [])
    (
    codes "writer sys VSS_WS_FAILED_AT_FREEZE/0x800423F2 aborts 0"
    ∷ codes "writer db VSS_WS_STABLE aborts 1"
    ∷ codes "writer web VSS_WS_STABLE aborts 1"
    ∷ [])
