use Rattle.std.proofs.Common.{subst}
use Rattle.vss_play.specs.Running.{IsGoing}
use Rattle.vss_play.proofs.Finishing.{goes_on, stays_on, one_ends}
use Rattle.vss_play.proofs.turn.advance.Goals as goal

pub returns-then-is_some-clause-going : goal.returns-then-is_some-clause-going
returns-then-is_some-clause-going c =
    let on = subst (IsGoing c.args.scenario.now c.args.cursors.now.items) c.in-Lane.is c.requires.on in
    stays_on c.line.result c.is_some.result c.args.going _ c.is_some.ensures c.if-is_some.true
    (goes_on c.args.scenario.now c.args.cursors.now.items c.in-Lane.lane _ c.args.going c.line.result on.0 on.1 c.requires.going c.line.ensures)

pub overflow_sub-result : goal.overflow_sub-result
overflow_sub-result c =
    let on = subst (IsGoing c.args.scenario.now c.args.cursors.now.items) c.in-Lane.is c.requires.on in
    (one_ends c.line.result c.is_some.result c.args.going _ c.is_some.ensures c.if-is_some.false
    (goes_on c.args.scenario.now c.args.cursors.now.items c.in-Lane.lane _ c.args.going c.line.result on.0 on.1 c.requires.going c.line.ensures)).0

pub returns-clause-going : goal.returns-clause-going
returns-clause-going c =
    let on = subst (IsGoing c.args.scenario.now c.args.cursors.now.items) c.in-Lane.is c.requires.on in
    (one_ends c.line.result c.is_some.result c.args.going _ c.is_some.ensures c.if-is_some.false
    (goes_on c.args.scenario.now c.args.cursors.now.items c.in-Lane.lane _ c.args.going c.line.result on.0 on.1 c.requires.going c.line.ensures)).1
