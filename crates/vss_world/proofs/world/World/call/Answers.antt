use Rattle.std.proofs.Common.{sym, ◌∙◌}
use Rattle.vss_world.proofs.Following.{standing_in, session_waits}
use Rattle.vss_world.proofs.Step.{set_above}
use Rattle.vss_world.proofs.Called.{over_at, call_moves}
use Rattle.vss_world.proofs.world.World.call.Goals as goal

pub call-requires-clause-standing : goal.call-requires-clause-standing
call-requires-clause-standing g c = standing_in (rw (← c.self.view_is) at c.requires.of) (rw (← c.self.view_is) at c.requires.standing)

pub end_prepare-requires : goal.end_prepare-requires
end_prepare-requires g c begins n is =
    let standing = (rw (← c.self.view_is) at c.requires.standing) in
    set_above g.D.Device.told c.args.scenario.now c.self.inside.provider c.self.inside.sessions c.self.inside.listed c.self.inside.evicted standing.acts standing.stands n
    (sym c.current-set.ensures ∙ is)

pub returns-in-Waits-clause-stepped : goal.returns-in-Waits-clause-stepped
returns-in-Waits-clause-stepped g c =
    let waits = (rw c.in-Waits.is at c.in_ok-call.ensures.called) in
    rw (← c.self.view_is) (session_waits (rw c.volumes.ensures.volumes at waits) (over_at (rw (← c.self.view_is) at c.requires.of)))

pub returns-in-Moves-clause-stepped : goal.returns-in-Moves-clause-stepped
returns-in-Moves-clause-stepped g c =
    let moves = (rw c.in-Moves.is at c.in_ok-call.ensures.called) in
    rw (← c.self.view_is)
    (call_moves g.D.Device c.args.scenario.now c.args.lane c.args.op c.settle.new.provider (rw (← c.self.view_is) at c.requires.of) (rw (← c.self.view_is) at c.requires.standing) c.requires.is_call
    c.requires.no_add c.requires.in_range c.current-set.ensures c.clear.ensures (rw c.volumes.ensures.volumes at moves) c.settle.ensures
    (rw c.begins_snapshot.ensures at c.end_prepare.ensures) c.in_ok-call.ensures.leaves)
