-- A session without component selection that disables one of two writers: the other alone is asked, from Identify on.
use Rattle.std.specs.Prelude.{ℕ, true, List, [], ◌∷◌, ◌++◌, codes}
use Rattle.write_history.specs.declared.move_item.Move.{Move}
use Rattle.scenario.specs.declared.op.Op.TheVariants.{Begin, Disable, Gather, Start, Add, Prepare, Snapshot, Await, Status, End}
use Rattle.scenario.specs.Plan.{Plan}
use Rattle.generated.specs.Making.{span, volume, group, writer, numbered, lane, by_lane, steps, by_writers, with_effects, alone, volume_with, report_of}
use Rattle.generated.specs.Making.{digest_of, system, database}

abbrev pub scenario : Plan
scenario = record {
  source = codes "Csysdbr";
  volumes = volume (span 0 1) 1 4 0 ∷ [];
  groups = group (span 0 1) 4 ∷ [];
  writers =
      writer (span 1 4) system []
      ∷ writer (span 4 6) database []
      ∷ [];
  lanes = lane (span 6 7) (numbered 6 (Begin 9 true ∷ Disable 0 ∷ Gather ∷ Await ∷ Start ∷ Add 0 ∷ Prepare ∷ Await ∷ Snapshot ∷ Await ∷ Status ∷ End ∷ [])) ∷ [];
}

abbrev pub trail : List Move
trail = by_lane 0 3 ++ by_writers (1 ∷ []) ++ by_lane 0 4 ++ by_writers (1 ∷ []) ++ by_lane 0 2 ++ by_writers (1 ∷ 1 ∷ []) ++ steps 7 ++ by_writers (1 ∷ 1 ∷ []) ++ by_lane 0 3

abbrev pub report : List ℕ
report = report_of (
    alone (
    codes "1 lane r 6 ok"
    ∷ codes "2 lane r 7 ok"
    ∷ codes "3 lane r 8 VSS_S_ASYNC_PENDING"
    ∷ codes "4 writer db identify ok"
    ∷ codes "5 lane r 9 VSS_S_ASYNC_FINISHED"
    ∷ codes "6 lane r 10 set 1"
    ∷ codes "7 lane r 11 ok"
    ∷ codes "8 lane r 12 VSS_S_ASYNC_PENDING"
    ∷ codes "9 writer db prepare_backup ok"
    ∷ codes "10 lane r 13 VSS_S_ASYNC_FINISHED"
    ∷ codes "11 lane r 14 VSS_S_ASYNC_PENDING"
    ∷ codes "12 writer db prepare_snapshot ok"
    ∷ codes "13 writer db freeze ok"
    ∷ codes "14 provider precommit"
    ∷ codes "15 provider flush C"
    ∷ codes "16 provider hold C"
    ∷ codes "17 provider cut"
    ∷ codes "18 provider commit C"
    ∷ codes "19 provider release C"
    ∷ codes "20 provider postcommit"
    ∷ codes "21 writer db thaw ok"
    ∷ [])
    ++ with_effects (codes "22 writer db post_snapshot ok") (codes "= set 1 complete" ∷ [])
    ∷ alone (
    codes "23 lane r 15 VSS_S_ASYNC_FINISHED"
    ∷ codes "24 lane r 16 status sys=VSS_WS_UNKNOWN db=VSS_WS_WAITING_FOR_BACKUP_COMPLETE"
    ∷ codes "25 lane r 17 ok"
    ∷ []))
    (codes "end moves 25 clock 0")
    (volume_with (codes "volume C used 0 of 4 " ++ digest_of (0 ∷ []))
    ((codes "image 1 C " ++ digest_of (0 ∷ [])) ∷ []) [])
    (
    codes "writer sys VSS_WS_UNKNOWN aborts 0"
    ∷ codes "writer db VSS_WS_STABLE aborts 0"
    ∷ [])
