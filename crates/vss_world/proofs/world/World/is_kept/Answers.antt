use Rattle.std.proofs.Common.{◌∙◌, sym}
use Rattle.vss_world.proofs.Looking.{not_kept_if, kept_if_stands}
use Rattle.vss_world.proofs.world.World.is_kept.Goals as goal

pub returns-then-not-is_complete : goal.returns-then-not-is_complete
returns-then-not-is_complete g c = rw (← c.self.view_is) (not_kept_if c.args.set c.args.volume (λ st keeps. sym c.if-not-is_complete.true ∙ c.is_complete.ensures st keeps))

pub returns : goal.returns
returns g c = rw (← c.self.view_is) (kept_if_stands c.args.set c.args.volume (λ st keeps. sym c.if-not-is_complete.false ∙ c.is_complete.ensures st keeps) c.has_image.ensures)
