use Rattle.std.proofs.Common.{ap, refl, subst, sym, ◌∙◌}
use Rattle.write_history.specs.declared.mark.Mark.TheVariants.{FaultAfter}
use Rattle.vss_model.specs.declared.event.Event.{Event}
use Rattle.vss_model.specs.declared.event.Event.TheVariants.{Line}
use Rattle.vss_world.specs.Moves.{IsToldStep}
use Rattle.vss_world.proofs.ToldMarks.{stops_told}
use Rattle.vss_world.proofs.world.World.make_stopping.Goals as goal

pub returns-in-Line-default-Revert : goal.returns-in-Line-default-Revert
returns-in-Line-default-Revert g c =
    let here = c.in-Line-default-Revert in
    subst (λ (e : Event). IsToldStep g.D.Device c.args.self.now c.revert.new.self c.args.scenario.now e (FaultAfter c.args.restored) c.revert.result)
    (sym (here.is ∙ ap (Line here.lane) (rw here.is at here.op-is)))
    (stops_told g.D.Device c.args.scenario.now c.args.self.now c.revert.new.self here.lane here.set here.volume c.args.restored c.revert.result
    c.revert.ensures.stepped (λ never. c.revert.ensures.stops never c.args.restored refl))
