use Rattle.std.proofs.Common.{◌∙◌, ap}
use Rattle.vss_play.proofs.FaultMarks.{kept_as}
use Rattle.vss_play.proofs.play.Play.give_back.Goals as goal

pub returns-clause-kept : goal.returns-clause-kept
returns-clause-kept g c = kept_as c.into_devices.result.items c.args.self.devices _ _ _ (c.into_devices.ensures ∙ ap (λ p. p.devices) c.self.view_is) c.give_all.ensures.kept
