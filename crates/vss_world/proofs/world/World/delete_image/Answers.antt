use Rattle.std.proofs.Common.{◌∙◌, sym, refl}
use Rattle.vss_world.proofs.Looking.{not_kept_if, kept_if_stands, not_kept_moves, absent_moves}
use Rattle.vss_world.proofs.Removed.{delete_line, same_provider, image_gone}
use Rattle.vss_world.proofs.world.World.delete_image.Goals as goal

pub returns-then-not-is_complete : goal.returns-then-not-is_complete
returns-then-not-is_complete g c =
    rw c.coded.ensures (rw (← c.self.view_is) (not_kept_moves g.D.Device (rw (← c.self.view_is) at c.requires.of) c.clear.ensures delete_line
    (not_kept_if c.args.set c.args.volume (λ st keeps. sym c.if-not-is_complete.true ∙ c.is_complete.ensures st keeps)) refl))

pub returns-then-not-drop_image : goal.returns-then-not-drop_image
returns-then-not-drop_image g c =
    let stood = rw c.if-not-drop_image.true at c.drop_image.ensures.dropped in
    rw c.coded-then-not-drop_image.ensures (rw (← c.self.view_is) (absent_moves g.D.Device (rw (← c.self.view_is) at c.requires.of) c.clear.ensures delete_line stood.0
    (same_provider c.self.inside.provider c.drop_image.new.self c.drop_image.ensures.set stood.1)))

pub returns : goal.returns
returns g c =
    let gone = rw c.if-not-drop_image.false at c.drop_image.ensures.dropped in
    rw c.told.ensures (rw (← c.self.view_is) (image_gone g.D.Device (rw (← c.self.view_is) at c.requires.of) c.clear.ensures
    (kept_if_stands c.args.set c.args.volume (λ st keeps. sym c.if-not-is_complete.false ∙ c.is_complete.ensures st keeps) gone.0) gone c.drop_image.ensures.set))
