use Rattle.trials.proofs.OneProvider.{has_all}
use Rattle.trials.proofs.in_threads.preparing.provider_over.Goals as goal

pub returns-in-Ok : goal.returns-in-Ok
returns-in-Ok g c =
    has_all g.D.Device.told c.args.scenario.now c.args.groups.items c.in-Ok.provider c.volumes-facts.ensures.plan c.requires c.in-Ok.ensures.made c.in-Ok.ensures.whole
