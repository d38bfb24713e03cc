use Rattle.trials.proofs.OneProvider.{has_still, has_numbered}
use Rattle.trials.proofs.in_threads.preparing.prepare_one.Goals as goal

pub begin_prepare-again-requires-clause-has : goal.begin_prepare-again-requires-clause-has
begin_prepare-again-requires-clause-has g c =
    let joined = c.begin_prepare-joined in
    has_still c.args.scenario.now _ joined.new.self 0 joined.result joined.ensures.joined c.requires.has

pub step-flushed-requires-clause-has : goal.step-flushed-requires-clause-has
step-flushed-requires-clause-has g c =
    let joined = c.begin_prepare-joined in
    let again = c.begin_prepare-again in
    has_numbered c.args.scenario.now again.new.self c.end_prepare.new.self 1 c.end_prepare.ensures
    (has_still c.args.scenario.now joined.new.self again.new.self 0 again.result again.ensures.joined
    (has_still c.args.scenario.now _ joined.new.self 0 joined.result joined.ensures.joined c.requires.has))
