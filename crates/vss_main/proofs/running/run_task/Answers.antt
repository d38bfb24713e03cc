use Rattle.std.proofs.Common.{refl}
use Rattle.vss_main.specs.declared.task.Task.TheVariants.{Run, Generate}
use Rattle.vss_main.proofs.Asking.{task_as, where_as, most_as}
use Rattle.vss_main.proofs.running.run_task.Goals as goal

pub returns-in-Run-clause-task : goal.returns-in-Run-clause-task
returns-in-Run-clause-task g c = task_as g.M.Made.Device
    (λ store. g.M.Maker.tells c.args.maker.now store) _ c.args.command.task Run _ c.run_input.result c.in-Run.is c.run_input.ensures.status

pub returns-in-Run-clause-answered : goal.returns-in-Run-clause-answered
returns-in-Run-clause-answered g c = where_as c.args.command.task Run _ c.run_input.result c.in-Run.is c.run_input.ensures.answered

pub returns-in-Run-clause-too_long : goal.returns-in-Run-clause-too_long
returns-in-Run-clause-too_long g c = most_as _ _ _ c.args.command.task Run c.in-Run.is c.run_input.ensures.too_long

pub returns-in-Generate-clause-task : goal.returns-in-Generate-clause-task
returns-in-Generate-clause-task g c = task_as g.M.Made.Device (λ store. g.M.Maker.tells c.args.maker.now store) _ c.args.command.task
    (Generate c.in-Generate.number) _ c.run_generated.result c.in-Generate.is (record { left = refl; reads = refl }, c.run_generated.ensures.status)

pub returns-in-Generate-clause-answered : goal.returns-in-Generate-clause-answered
returns-in-Generate-clause-answered g c = where_as c.args.command.task (Generate c.in-Generate.number) _ c.run_generated.result c.in-Generate.is c.run_generated.ensures.answered
