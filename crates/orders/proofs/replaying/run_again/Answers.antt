use Rattle.std.proofs.Common.{List, refl, sym, subst}
use Rattle.write_history.specs.declared.move_item.Move.{Move}
use Rattle.orders.specs.Again.{IsRead}
use Rattle.orders.proofs.Beside.{again_so}
use Rattle.orders.proofs.replaying.run_again.Goals as goal

pub returns : goal.returns
returns g c =
    let read = subst (λ (ms : List Move). IsRead c.args.text.now c.args.report.now c.in-Ok.told.scenario ms) (sym c.moves.ensures) c.in-Ok.ensures.read in
    again_so _ c.args.text.now c.args.report.now _ _ c.replay.result read (λ d. refl) c.replay.ensures
