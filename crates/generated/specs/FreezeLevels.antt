-- Three writers of three levels: they are frozen from the front end down to the system, and thawed back up.
use Rattle.std.specs.Prelude.{ℕ, false, List, [], ◌∷◌, ◌++◌, codes}
use Rattle.write_history.specs.declared.move_item.Move.{Move}
use Rattle.scenario.specs.declared.op.Op.TheVariants.{Begin, Gather, Component, Start, Add, Prepare, Snapshot, Await, Complete, End}
use Rattle.scenario.specs.Plan.{Plan}
use Rattle.generated.specs.Making.{span, volume, group, writer, numbered, lane, by_lane, steps, by_writers, with_effects, alone, volume_with, report_of}
use Rattle.generated.specs.Making.{digest_of, system, database, web}

abbrev pub scenario : Plan
scenario = record {
  source = codes "Csysdbwebrmain";
  volumes = volume (span 0 1) 1 4 0 ∷ [];
  groups = group (span 0 1) 4 ∷ [];
  writers =
      writer (span 1 4) system []
      ∷ writer (span 4 6) database []
      ∷ writer (span 6 9) web []
      ∷ [];
  lanes = lane (span 9 10) (numbered 7 (Begin 9 false ∷ Gather ∷ Await ∷ Component 0 (span 10 14) ∷ Component 1 (span 10 14) ∷ Component 2 (span 10 14) ∷ Start ∷ Add 0 ∷ Prepare ∷ Await ∷ Snapshot ∷ Await ∷ Complete ∷ Await ∷ End ∷ [])) ∷ [];
}

abbrev pub trail : List Move
trail = by_lane 0 2 ++ by_writers (0 ∷ 1 ∷ 2 ∷ []) ++ by_lane 0 7 ++ by_writers (0 ∷ 1 ∷ 2 ∷ []) ++ by_lane 0 2 ++ by_writers (0 ∷ 1 ∷ 2 ∷ 2 ∷ 1 ∷ 0 ∷ []) ++ steps 7
    ++ by_writers (0 ∷ 1 ∷ 2 ∷ 0 ∷ 1 ∷ 2 ∷ []) ++ by_lane 0 2 ++ by_writers (0 ∷ 1 ∷ 2 ∷ []) ++ by_lane 0 2

abbrev pub report : List ℕ
report = report_of (
    alone (
    codes "1 lane r 7 ok"
    ∷ codes "2 lane r 8 VSS_S_ASYNC_PENDING"
    ∷ codes "3 writer sys identify ok"
    ∷ codes "4 writer db identify ok"
    ∷ codes "5 writer web identify ok"
    ∷ codes "6 lane r 9 VSS_S_ASYNC_FINISHED"
    ∷ codes "7 lane r 10 ok"
    ∷ codes "8 lane r 11 ok"
    ∷ codes "9 lane r 12 ok"
    ∷ codes "10 lane r 13 set 1"
    ∷ codes "11 lane r 14 ok"
    ∷ codes "12 lane r 15 VSS_S_ASYNC_PENDING"
    ∷ codes "13 writer sys prepare_backup ok"
    ∷ codes "14 writer db prepare_backup ok"
    ∷ codes "15 writer web prepare_backup ok"
    ∷ codes "16 lane r 16 VSS_S_ASYNC_FINISHED"
    ∷ codes "17 lane r 17 VSS_S_ASYNC_PENDING"
    ∷ codes "18 writer sys prepare_snapshot ok"
    ∷ codes "19 writer db prepare_snapshot ok"
    ∷ codes "20 writer web prepare_snapshot ok"
    ∷ codes "21 writer web freeze ok"
    ∷ codes "22 writer db freeze ok"
    ∷ codes "23 writer sys freeze ok"
    ∷ codes "24 provider precommit"
    ∷ codes "25 provider flush C"
    ∷ codes "26 provider hold C"
    ∷ codes "27 provider cut"
    ∷ codes "28 provider commit C"
    ∷ codes "29 provider release C"
    ∷ codes "30 provider postcommit"
    ∷ codes "31 writer sys thaw ok"
    ∷ codes "32 writer db thaw ok"
    ∷ codes "33 writer web thaw ok"
    ∷ codes "34 writer sys post_snapshot ok"
    ∷ codes "35 writer db post_snapshot ok"
    ∷ [])
    ++ with_effects (codes "36 writer web post_snapshot ok") (codes "= set 1 complete" ∷ [])
    ∷ alone (
    codes "37 lane r 18 VSS_S_ASYNC_FINISHED"
    ∷ codes "38 lane r 19 VSS_S_ASYNC_PENDING"
    ∷ codes "39 writer sys backup_complete ok"
    ∷ codes "40 writer db backup_complete ok"
    ∷ codes "41 writer web backup_complete ok"
    ∷ codes "42 lane r 20 VSS_S_ASYNC_FINISHED"
    ∷ codes "43 lane r 21 ok"
    ∷ []))
    (codes "end moves 43 clock 0")
    (volume_with (codes "volume C used 0 of 4 " ++ digest_of (0 ∷ []))
    ((codes "image 1 C " ++ digest_of (0 ∷ [])) ∷ []) [])
    (
    codes "writer sys VSS_WS_STABLE aborts 0"
    ∷ codes "writer db VSS_WS_STABLE aborts 0"
    ∷ codes "writer web VSS_WS_STABLE aborts 0"
    ∷ [])
