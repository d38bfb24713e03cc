-- A writer vetoes its Freeze while another stands frozen: the set fails, and the frozen writer's lane goes on.
use Rattle.std.specs.Prelude.{ℕ, false, List, [], ◌∷◌, ◌++◌, codes, Some}
use Rattle.vss_names.specs.declared.order.Order.TheVariants.{Freeze}
use Rattle.vss_names.specs.declared.writer_error.WriterError.TheVariants.{NonRetryable}
use Rattle.write_history.specs.declared.move_item.Move.{Move}
use Rattle.writer_calls.specs.declared.answer.Answer.TheVariants.{Veto}
use Rattle.scenario.specs.declared.op.Op.TheVariants.{Begin, Gather, Component, Start, Add, Prepare, Snapshot, Await, Status, WriteFill, End}
use Rattle.scenario.specs.Plan.{Plan}
use Rattle.generated.specs.Making.{span, volume, group, scripted, writer, numbered, lane, lane_as, by_lane, by_writers, with_effects, alone, volume_with}
use Rattle.generated.specs.Making.{report_of, digest_of, system, database, web}

abbrev pub scenario : Plan
scenario = record {
  source = codes "Csysdbwebrxmain";
  volumes = volume (span 0 1) 1 4 0 ∷ [];
  groups = group (span 0 1) 4 ∷ [];
  writers =
      writer (span 1 4) system []
      ∷ writer (span 4 6) database (scripted Freeze 1 (Some (Veto NonRetryable)) ∷ [])
      ∷ writer (span 6 9) web []
      ∷ [];
  lanes =
      lane (span 9 10) (numbered 8 (Begin 9 false ∷ Gather ∷ Await ∷ Component 0 (span 11 15) ∷ Component 1 (span 11 15) ∷ Component 2 (span 11 15) ∷ Start ∷ Add 0 ∷ Prepare ∷ Await ∷ Snapshot ∷ Await ∷ Status ∷ End ∷ []))
      ∷ lane_as (span 10 11) 2 (numbered 23 (WriteFill 0 0 5 ∷ []))
      ∷ [];
}

abbrev pub trail : List Move
trail = by_lane 0 2 ++ by_writers (0 ∷ 1 ∷ 2 ∷ []) ++ by_lane 0 7 ++ by_writers (0 ∷ 1 ∷ 2 ∷ []) ++ by_lane 0 2 ++ by_writers (0 ∷ 1 ∷ 2 ∷ 2 ∷ 1 ∷ []) ++ by_lane 1 1 ++ by_lane 0 3

abbrev pub report : List ℕ
report = report_of (
    alone (
    codes "1 lane r 8 ok"
    ∷ codes "2 lane r 9 VSS_S_ASYNC_PENDING"
    ∷ codes "3 writer sys identify ok"
    ∷ codes "4 writer db identify ok"
    ∷ codes "5 writer web identify ok"
    ∷ codes "6 lane r 10 VSS_S_ASYNC_FINISHED"
    ∷ codes "7 lane r 11 ok"
    ∷ codes "8 lane r 12 ok"
    ∷ codes "9 lane r 13 ok"
    ∷ codes "10 lane r 14 set 1"
    ∷ codes "11 lane r 15 ok"
    ∷ codes "12 lane r 16 VSS_S_ASYNC_PENDING"
    ∷ codes "13 writer sys prepare_backup ok"
    ∷ codes "14 writer db prepare_backup ok"
    ∷ codes "15 writer web prepare_backup ok"
    ∷ codes "16 lane r 17 VSS_S_ASYNC_FINISHED"
    ∷ codes "17 lane r 18 VSS_S_ASYNC_PENDING"
    ∷ codes "18 writer sys prepare_snapshot ok"
    ∷ codes "19 writer db prepare_snapshot ok"
    ∷ codes "20 writer web prepare_snapshot ok"
    ∷ codes "21 writer web freeze ok"
    ∷ [])
    ++ with_effects (codes "22 writer db freeze VSS_E_WRITERERROR_NONRETRYABLE") (codes "= set 1 failed VSS_E_WRITERERROR_NONRETRYABLE" ∷ [])
    ∷ alone (
    codes "23 lane x 23 ok"
    ∷ codes "24 lane r 19 VSS_E_WRITERERROR_NONRETRYABLE"
    ∷ codes "25 lane r 20 status sys=VSS_WS_STABLE db=VSS_WS_FAILED_AT_FREEZE/0x800423F4 web=VSS_WS_STABLE"
    ∷ codes "26 lane r 21 ok"
    ∷ []))
    (codes "end moves 26 clock 0")
    (volume_with (codes "volume C used 0 of 4 " ++ digest_of (5 ∷ []))
    [] [])
    (
    codes "writer sys VSS_WS_STABLE aborts 1"
    ∷ codes "writer db VSS_WS_FAILED_AT_FREEZE/0x800423F4 aborts 0"
    ∷ codes "writer web VSS_WS_STABLE aborts 1"
    ∷ [])
