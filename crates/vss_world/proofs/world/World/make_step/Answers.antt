use Rattle.std.proofs.Common.{refl}
use Rattle.vss_model.specs.Acts.{state}
use Rattle.vss_world.proofs.Following.{standing_of}
use Rattle.vss_world.proofs.Step.{can_commit, step_moves, step_lasts, volume_within}
use Rattle.vss_world.proofs.world.World.make_step.Goals as goal

pub step-made-requires-clause-in_range : goal.step-made-requires-clause-in_range
step-made-requires-clause-in_range g c =
    let standing = (rw (← c.self.view_is) at c.requires.standing) in
    volume_within c.args.scenario.now (state c.args.scenario.now standing.acts) c.in-Some.next.1 _ standing.stands.at.plan refl
    (c.in-Some.ensures.step.volume (state c.args.scenario.now standing.acts) standing.stands.at.sessions)

pub step-made-requires-clause-cut : goal.step-made-requires-clause-cut
step-made-requires-clause-cut g c =
    let standing = (rw (← c.self.view_is) at c.requires.standing) in
    can_commit g.D.Device.told c.args.scenario.now c.self.inside.provider c.self.inside.sessions c.self.inside.listed c.self.inside.evicted standing.acts c.in-Some.next.0 c.in-Some.next.1
    standing.stands c.in-Some.ensures.step

pub step-item-requires-clause-standing : goal.step-item-requires-clause-standing
step-item-requires-clause-standing g c = standing_of (rw (← c.self.view_is) at c.requires.of) (rw (← c.self.view_is) at c.requires.standing)

pub returns-clause-stepped : goal.returns-clause-stepped
returns-clause-stepped g c =
    rw (← c.self.view_is) (step_moves g.D.Device c.args.scenario.now (rw (← c.self.view_is) at c.requires.of) c.clear.ensures c.step-made.ensures.set c.settle.ensures
    (c.step-item.ensures.moves c.args.scenario.now) c.step-item.ensures.leaves c.in-Some.next.0 c.in-Some.next.1 c.step-made.result c.is_ok-ok.result c.in-Some.ensures.step
    c.step-item.ensures.told c.is_ok-ok.ensures.value c.step-made.ensures.stands c.step-made.ensures.kept c.step-made.ensures.cause)

pub returns-clause-lasts : goal.returns-clause-lasts
returns-clause-lasts g c =
    step_lasts g.D.Device c.args.scenario.now c.in-Some.next.0 c.in-Some.next.1 c.step-made.result c.is_ok-ok.result c.step-item.result c.step-made.new.self c.settle.new.provider
    c.step-item.ensures.told c.is_ok-ok.ensures.value c.settle.ensures c.step-made.ensures.lasts
