use Rattle.std.proofs.Common.{ap, ◌∙◌}
use Rattle.orders.specs.Again.{without_marks}
use Rattle.orders.proofs.Beside.{over_so}
use Rattle.orders.proofs.replaying.run_again_over.Goals as goal

pub returns : goal.returns
returns g c = over_so g.M.Made.Device.count _ c.args.text.now c.args.report.now _ _ _ _ _ c.replay.result c.in-Ok.ensures.read
    (c.deref.ensures.value ∙ c.in-Ok-unmarked.ensures ∙ ap without_marks c.moves.ensures) c.replay.ensures
