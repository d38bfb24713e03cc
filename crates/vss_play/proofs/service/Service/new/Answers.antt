use Rattle.std.proofs.Common.{◌∙◌, ap, length}
use Rattle.std.proofs.lemmas.List.{length-replicate}
use Rattle.vss_play.proofs.Serving.{serving_new}
use Rattle.vss_play.proofs.service.Service.new.Goals as goal

pub invariant_of-result : goal.invariant_of-result
invariant_of-result g c =
    serving_new g.D.Device.told c.args.scenario c.in-Ok.world _ c.in-Ok.ensures.of c.in-Ok.ensures.stands
    (ap length c.in_ok-given.ensures.given ∙ length-replicate _ _ ∙ c.writers.ensures.count)
