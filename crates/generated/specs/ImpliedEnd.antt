-- A lane that begins a session and has no `end` gets one, with the number 0; a second `begin` of the owner is refused.
use Rattle.std.specs.Prelude.{ℕ, false, List, [], ◌∷◌, ◌++◌, codes}
use Rattle.write_history.specs.declared.move_item.Move.{Move}
use Rattle.scenario.specs.declared.op.Op.TheVariants.{Begin}
use Rattle.scenario.specs.Plan.{Plan}
use Rattle.generated.specs.Making.{span, numbered, implied_end, lane, by_lane, alone, report_of}

abbrev pub scenario : Plan
scenario = record {
  source = codes "a";
  volumes = [];
  groups = [];
  writers = [];
  lanes = lane (span 0 1) (numbered 3 (Begin 25 false ∷ Begin 25 false ∷ []) ++ implied_end) ∷ [];
}

abbrev pub trail : List Move
trail = by_lane 0 3

abbrev pub report : List ℕ
report = report_of (
    alone (
    codes "1 lane a 3 ok"
    ∷ codes "2 lane a 4 VSS_E_BAD_STATE"
    ∷ codes "3 lane a 0 ok"
    ∷ []))
    (codes "end moves 3 clock 0")
    []
    []
