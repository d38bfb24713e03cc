use Rattle.vss_world.proofs.Looking.{digest_line, not_kept_moves, absent_moves, image_digest_moves}
use Rattle.vss_world.proofs.world.World.show_image.Goals as goal

pub returns-then-not-kept : goal.returns-then-not-kept
returns-then-not-kept g c =
    rw c.coded.ensures (rw (← c.self.view_is)
    (not_kept_moves g.D.Device (rw (← c.self.view_is) at c.requires.of) c.clear.ensures digest_line (rw (← c.self.view_is) at c.is_kept-kept.ensures) c.if-not-kept.true))

pub returns-in_default : goal.returns-in_default
returns-in_default g c =
    let seen = rw c.in_default.is at c.read_digest.ensures in
    rw c.coded-in_default.ensures (rw (← c.self.view_is) (absent_moves g.D.Device (rw (← c.self.view_is) at c.requires.of) c.clear.ensures digest_line seen.0 seen.1))

pub returns : goal.returns
returns g c =
    let seen = rw c.in-Some.is at c.read_digest.ensures in
    rw c.told.ensures (rw (← c.self.view_is) (image_digest_moves g.D.Device (rw (← c.self.view_is) at c.requires.of) c.clear.ensures c.requires.in_range
    (rw (← c.self.view_is) at c.is_kept-kept.ensures) c.if-not-kept.false seen.1))
