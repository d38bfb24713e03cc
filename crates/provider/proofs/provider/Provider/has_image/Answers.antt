use Rattle.provider.proofs.Dropped.{image_listed}
use Rattle.provider.proofs.provider.Provider.has_image.Goals as goal

pub returns : goal.returns
returns g c = image_listed g.D.Device.told c.args.scenario.now _ c.args.volume c.args.set c.images.result.now c.contains.result c.images.ensures.sets c.contains.ensures.value
