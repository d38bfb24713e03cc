-- One volume of four blocks, one lane, one set of context 25, and one write after it.
use Rattle.std.specs.Prelude.{ℕ, false, List, [], ◌∷◌, ◌++◌, codes}
use Rattle.write_history.specs.declared.move_item.Move.{Move}
use Rattle.scenario.specs.declared.op.Op.TheVariants.{Begin, Start, Add, Snapshot, Await, WriteFill, ImageBlock, Read, End}
use Rattle.scenario.specs.Plan.{Plan}
use Rattle.generated.specs.Making.{span, volume, group, numbered, lane, by_lane, steps, with_effects, alone, volume_with, report_of, digest_of, data_of}

abbrev pub text : List ℕ
text = codes "scenario 1\nvolume C 4 4\nlane a\nbegin 25\nstart\nadd C\nsnapshot\nawait\nwrite C 1 fill 7\nimage 1 C 1\nread C 1\nend\n"

abbrev pub scenario : Plan
scenario = record {
  source = text;
  volumes = volume (span 18 19) 4 4 0 ∷ [];
  groups = group (span 18 19) 4 ∷ [];
  writers = [];
  lanes = lane (span 29 30) (numbered 4 (Begin 25 false ∷ Start ∷ Add 0 ∷ Snapshot ∷ Await ∷ WriteFill 0 1 7 ∷ ImageBlock 1 0 1 ∷ Read 0 1 ∷ End ∷ [])) ∷ [];
}

abbrev pub trail : List Move
trail = by_lane 0 4 ++ steps 7 ++ by_lane 0 5

abbrev pub report : List ℕ
report = report_of (
    alone (
    codes "1 lane a 4 ok"
    ∷ codes "2 lane a 5 set 1"
    ∷ codes "3 lane a 6 ok"
    ∷ codes "4 lane a 7 VSS_S_ASYNC_PENDING"
    ∷ codes "5 provider precommit"
    ∷ codes "6 provider flush C"
    ∷ codes "7 provider hold C"
    ∷ codes "8 provider cut"
    ∷ codes "9 provider commit C"
    ∷ codes "10 provider release C"
    ∷ [])
    ++ with_effects (codes "11 provider postcommit") (codes "= set 1 complete" ∷ [])
    ∷ alone (
    codes "12 lane a 8 VSS_S_ASYNC_FINISHED"
    ∷ codes "13 lane a 9 ok"
    ∷ (codes "14 lane a 10 data " ++ data_of 0)
    ∷ (codes "15 lane a 11 data " ++ data_of 7)
    ∷ codes "16 lane a 12 ok"
    ∷ []))
    (codes "end moves 16 clock 0")
    (volume_with (codes "volume C used 1 of 4 " ++ digest_of (0 ∷ 7 ∷ 0 ∷ 0 ∷ []))
    ((codes "image 1 C " ++ digest_of (0 ∷ 0 ∷ 0 ∷ 0 ∷ [])) ∷ [])
    [])
    []
