use Rattle.std.proofs.Common.{All, sym, subst}
use Rattle.std.proofs.lemmas.List.Elements.{All-push}
use Rattle.trials.specs.Devices.{IsFresh}
use Rattle.trials.proofs.sharded.volumes.Goals as goal

pub loop-preserved : goal.loop-preserved
loop-preserved c =
    subst (All IsFresh) (sym c.in_ok-push.ensures.items) (All-push IsFresh c.loop.volumes.items c.in_ok-made.made c.loop.invariant c.in_ok-made.ensures.stands)
