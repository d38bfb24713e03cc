-- A volume whose area has no slot: the first write after the set is complete takes its image.
use Rattle.std.specs.Prelude.{ℕ, false, List, [], ◌∷◌, ◌++◌, codes}
use Rattle.write_history.specs.declared.move_item.Move.{Move}
use Rattle.scenario.specs.declared.op.Op.TheVariants.{Begin, Start, Add, Snapshot, Await, WriteFill, ImageBlock, End}
use Rattle.scenario.specs.Plan.{Plan}
use Rattle.generated.specs.Making.{span, volume, group, numbered, lane, by_lane, steps, with_effects, alone, volume_with, report_of, digest_of}

abbrev pub text : List ℕ
text = codes "scenario 1\nvolume D 1 0\nlane a\nbegin 25\nstart\nadd D\nsnapshot\nawait\nwrite D 0 fill 1\nimage 1 D 0\nend\n"

abbrev pub scenario : Plan
scenario = record {
  source = text;
  volumes = volume (span 18 19) 1 0 0 ∷ [];
  groups = group (span 18 19) 0 ∷ [];
  writers = [];
  lanes = lane (span 29 30) (numbered 4 (Begin 25 false ∷ Start ∷ Add 0 ∷ Snapshot ∷ Await ∷ WriteFill 0 0 1 ∷ ImageBlock 1 0 0 ∷ End ∷ [])) ∷ [];
}

abbrev pub trail : List Move
trail = by_lane 0 4 ++ steps 7 ++ by_lane 0 4

abbrev pub report : List ℕ
report = report_of (
    alone (
    codes "1 lane a 4 ok"
    ∷ codes "2 lane a 5 set 1"
    ∷ codes "3 lane a 6 ok"
    ∷ codes "4 lane a 7 VSS_S_ASYNC_PENDING"
    ∷ codes "5 provider precommit"
    ∷ codes "6 provider flush D"
    ∷ codes "7 provider hold D"
    ∷ codes "8 provider cut"
    ∷ codes "9 provider commit D"
    ∷ codes "10 provider release D"
    ∷ [])
    ++ with_effects (codes "11 provider postcommit") (codes "= set 1 complete" ∷ [])
    ∷ alone (
    codes "12 lane a 8 VSS_S_ASYNC_FINISHED"
    ∷ [])
    ++ with_effects (codes "13 lane a 9 ok") (codes "= evicted 1 D" ∷ [])
    ∷ alone (
    codes "14 lane a 10 VSS_E_OBJECT_NOT_FOUND"
    ∷ codes "15 lane a 11 ok"
    ∷ []))
    (codes "end moves 15 clock 0")
    (volume_with (codes "volume D used 0 of 0 " ++ digest_of (1 ∷ []))
    [] [])
    []
