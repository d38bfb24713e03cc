use Rattle.std.proofs.Common.{rules, arith}
use Rattle.std.proofs.lemmas.Grind.{common_steps}
use Rattle.turn_cell.proofs.Callers.{opens_with}
use Rattle.turn_cell.proofs.turn.Turn.new.Goals as goal

pub new-requires : goal.new-requires
new-requires g c = opens_with _ _ _ _ (record { machine = c.args.machine; note = Rattle.std.proofs.Common.None }) _
    (first_of (search rules, grind (arith, common_steps))) c.of.ensures (first_of (search rules, grind (arith, common_steps))) c.requires.1
