use Rattle.vss_shards.proofs.Keeping.{image_is_made}
use Rattle.vss_shards.proofs.laws.a_recorded_cut_makes_its_image.Goals as goal

pub returns : goal.returns
returns g c = λ old new draft_old draft_new number is. image_is_made g.D.Device.told old new draft_old draft_new number is
