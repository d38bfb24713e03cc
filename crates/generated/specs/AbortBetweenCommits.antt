-- Three volumes in one set, and an abort after the first of them is committed: no volume keeps an image.
use Rattle.std.specs.Prelude.{ℕ, false, List, [], ◌∷◌, ◌++◌, codes}
use Rattle.write_history.specs.declared.move_item.Move.{Move}
use Rattle.scenario.specs.declared.op.Op.TheVariants.{Begin, Start, Add, Snapshot, Await, Abort, End}
use Rattle.scenario.specs.Plan.{Plan}
use Rattle.generated.specs.Making.{span, volume, group, numbered, lane, by_lane, steps, with_effects, alone, volume_with, report_of, digest_of}

abbrev pub scenario : Plan
scenario = record {
  source = codes "CDEr";
  volumes =
      volume (span 0 1) 2 2 0
      ∷ volume (span 1 2) 2 2 1
      ∷ volume (span 2 3) 2 2 2
      ∷ [];
  groups =
      group (span 0 1) 2
      ∷ group (span 1 2) 2
      ∷ group (span 2 3) 2
      ∷ [];
  writers = [];
  lanes = lane (span 3 4) (numbered 6 (Begin 25 false ∷ Start ∷ Add 0 ∷ Add 1 ∷ Add 2 ∷ Snapshot ∷ Abort ∷ Await ∷ End ∷ [])) ∷ [];
}

abbrev pub trail : List Move
trail = by_lane 0 6 ++ steps 9 ++ by_lane 0 3

abbrev pub report : List ℕ
report = report_of (
    alone (
    codes "1 lane r 6 ok"
    ∷ codes "2 lane r 7 set 1"
    ∷ codes "3 lane r 8 ok"
    ∷ codes "4 lane r 9 ok"
    ∷ codes "5 lane r 10 ok"
    ∷ codes "6 lane r 11 VSS_S_ASYNC_PENDING"
    ∷ codes "7 provider precommit"
    ∷ codes "8 provider flush C"
    ∷ codes "9 provider flush D"
    ∷ codes "10 provider flush E"
    ∷ codes "11 provider hold C"
    ∷ codes "12 provider hold D"
    ∷ codes "13 provider hold E"
    ∷ codes "14 provider cut"
    ∷ codes "15 provider commit C"
    ∷ [])
    ++ with_effects (codes "16 lane r 12 ok") (codes "= set 1 failed VSS_S_ASYNC_CANCELLED" ∷ [])
    ∷ alone (
    codes "17 lane r 13 VSS_S_ASYNC_CANCELLED"
    ∷ codes "18 lane r 14 ok"
    ∷ []))
    (codes "end moves 18 clock 0")
    (volume_with (codes "volume C used 0 of 2 " ++ digest_of (0 ∷ 0 ∷ []))
    []
    (volume_with (codes "volume D used 0 of 2 " ++ digest_of (0 ∷ 0 ∷ []))
    []
    (volume_with (codes "volume E used 0 of 2 " ++ digest_of (0 ∷ 0 ∷ []))
    [] [])))
    []
