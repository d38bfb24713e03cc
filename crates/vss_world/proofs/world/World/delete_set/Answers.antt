use Rattle.std.proofs.Common.{◌∙◌, sym, arith, ◌<◌}
use Rattle.std.proofs.lemmas.Bool.Decides.{nat_tests}
use Rattle.vss_model.specs.Acts.{state}
use Rattle.vss_world.proofs.Removed.{few_gone, set_refused, set_none, set_gone}
use Rattle.vss_world.proofs.world.World.delete_set.Goals as goal

pub overflow_cast-images : goal.overflow_cast-images
overflow_cast-images g c =
    let standing = (rw (← c.self.view_is) at c.requires.standing) in
    let most = few_gone g.D.Device c.args.scenario.now c.self.inside.provider.groups c.drop_set-count.new.self.groups c.args.set c.drop_set-count.result
    (state c.args.scenario.now standing.acts).volumes c.volumes-facts.ensures.plan
    (rw (← c.self.view_is) at c.requires.of).groups standing.stands.at.groups c.drop_set-count.ensures.without in
    omega (arith, most)

pub returns-then-not-is_complete : goal.returns-then-not-is_complete
returns-then-not-is_complete g c =
    rw c.coded.ensures (rw (← c.self.view_is)
    (set_refused g.D.Device (rw (← c.self.view_is) at c.requires.of) c.clear.ensures (λ st keeps. sym (c.is_complete.ensures st keeps) ∙ c.if-not-is_complete.true)))

pub returns-then-count-eq0 : goal.returns-then-count-eq0
returns-then-count-eq0 g c =
    rw c.coded-then-count-eq0.ensures (rw (← c.self.view_is) (set_none g.D.Device (rw (← c.self.view_is) at c.requires.of) c.clear.ensures
    (λ st keeps. sym (c.is_complete.ensures st keeps) ∙ c.if-not-is_complete.false) c.drop_set-count.ensures.without c.drop_set-count.ensures.set c.if-count-eq0.true))

pub returns : goal.returns
returns g c =
    let some : 0 < c.drop_set-count.result = (let h = c.if-count-eq0.false in grind (arith, nat_tests, h)) in
    rw c.told.ensures (rw (← c.self.view_is) (set_gone g.D.Device (rw (← c.self.view_is) at c.requires.of) c.clear.ensures
    (λ st keeps. sym (c.is_complete.ensures st keeps) ∙ c.if-not-is_complete.false) c.drop_set-count.ensures.without c.drop_set-count.ensures.set some))
