-- One slot for two blocks, and a device that fails the second write: the eviction made for it stands, the write does not.
use Rattle.std.specs.Prelude.{ℕ, false, List, [], ◌∷◌, ◌++◌, codes}
use Rattle.write_history.specs.declared.move_item.Move.{Move}
use Rattle.scenario.specs.declared.op.Op.TheVariants.{Begin, Start, Add, Snapshot, Await, WriteFill, End}
use Rattle.scenario.specs.Plan.{Plan}
use Rattle.generated.specs.Making.{span, volume, group, numbered, lane, by_lane, faulty_by_lane, steps, with_effects, alone, volume_with, report_of, digest_of}

abbrev pub scenario : Plan
scenario = record {
  source = codes "Ca";
  volumes = volume (span 0 1) 2 1 0 ∷ [];
  groups = group (span 0 1) 1 ∷ [];
  writers = [];
  lanes = lane (span 1 2) (numbered 4 (Begin 25 false ∷ Start ∷ Add 0 ∷ Snapshot ∷ Await ∷ End ∷ WriteFill 0 0 1 ∷ WriteFill 0 1 2 ∷ WriteFill 0 1 3 ∷ [])) ∷ [];
}

abbrev pub trail : List Move
trail = by_lane 0 4 ++ steps 7 ++ by_lane 0 3 ++ faulty_by_lane 0 ∷ by_lane 0 1

abbrev pub report : List ℕ
report = report_of (
    alone (
    codes "1 lane a 4 ok"
    ∷ codes "2 lane a 5 set 1"
    ∷ codes "3 lane a 6 ok"
    ∷ codes "4 lane a 7 VSS_S_ASYNC_PENDING"
    ∷ codes "5 provider precommit"
    ∷ codes "6 provider flush C"
    ∷ codes "7 provider hold C"
    ∷ codes "8 provider cut"
    ∷ codes "9 provider commit C"
    ∷ codes "10 provider release C"
    ∷ [])
    ++ with_effects (codes "11 provider postcommit") (codes "= set 1 complete" ∷ [])
    ∷ alone (
    codes "12 lane a 8 VSS_S_ASYNC_FINISHED"
    ∷ codes "13 lane a 9 ok"
    ∷ codes "14 lane a 10 ok"
    ∷ [])
    ++ with_effects (codes "15 lane a 11 fault") (codes "= evicted 1 C" ∷ [])
    ∷ alone (
    codes "16 lane a 12 ok"
    ∷ []))
    (codes "end moves 16 clock 0")
    (volume_with (codes "volume C used 0 of 1 " ++ digest_of (1 ∷ 3 ∷ []))
    [] [])
    []
