use Rattle.vss_report.proofs.Telling.{are_lines}
use Rattle.vss_report.proofs.ToldLegible.{told_legible}
use Rattle.vss_report.proofs.lines.move_lines.Goals as goal
use Rattle.std.proofs.Common.{arith}
use Rattle.std.proofs.lemmas.Bool.Decides.{nat_tests}
use Rattle.std.proofs.lemmas.Grind.{common_steps}

pub returns-in_err-reserve-clause-report : goal.returns-in_err-reserve-clause-report
returns-in_err-reserve-clause-report c =
    are_lines c.args.scenario.now c.args.number c.args.line c.args.item c.args.outcome.now c.args.lists.now.listed.now c.args.lists.now.evicted.now c.args.lists.now.rows.now

pub returns-clause-report : goal.returns-clause-report
returns-clause-report c =
    are_lines c.args.scenario.now c.args.number c.args.line c.args.item c.args.outcome.now c.args.lists.now.listed.now c.args.lists.now.evicted.now c.args.lists.now.rows.now

pub returns-in_err-reserve-clause-legible : goal.returns-in_err-reserve-clause-legible
returns-in_err-reserve-clause-legible c = grind (arith, common_steps, nat_tests, told_legible)

pub returns-clause-legible : goal.returns-clause-legible
returns-clause-legible c = grind (arith, common_steps, told_legible, c.volumes-plan.ensures.plan, c.requires, c.is_short.ensures)
