use Rattle.std.proofs.Common.{◌∙◌, ap, sym, refl}
use Rattle.std.specs.Prelude.{unwrap_or}
use Rattle.vss_world.proofs.Looking.{without_facts, properties_line, not_kept_moves, properties_moves}
use Rattle.vss_world.proofs.world.World.properties.Goals as goal

pub returns-then-not-kept : goal.returns-then-not-kept
returns-then-not-kept g c =
    rw c.coded.ensures (rw (← c.self.view_is)
    (not_kept_moves g.D.Device (rw (← c.self.view_is) at c.requires.of) c.clear.ensures properties_line (rw (← c.self.view_is) at c.is_kept-kept.ensures) c.if-not-kept.true))

pub returns-in_default : goal.returns-in_default
returns-in_default g c =
    rw c.coded-in_default.ensures
    (rw (← c.self.view_is)
    (not_kept_moves g.D.Device (rw (← c.self.view_is) at c.requires.of) c.clear.ensures properties_line (without_facts c.args.set c.args.volume c.in_default.is c.facts.ensures) refl))

pub returns : goal.returns
returns g c =
    rw c.told.ensures (rw (← c.self.view_is) (properties_moves g.D.Device (rw (← c.self.view_is) at c.requires.of) c.clear.ensures (rw (← c.self.view_is) at c.is_kept-kept.ensures) c.if-not-kept.false
    (λ st keeps. sym c.in-Some.is ∙ c.facts.ensures st keeps) c.cut_of-cut.ensures (λ hs are. c.or_zero-used.ensures ∙ ap (λ o. unwrap_or o 0) (c.used_by.ensures hs are))))
