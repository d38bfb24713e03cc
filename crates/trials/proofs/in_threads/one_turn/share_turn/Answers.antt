use Rattle.trials.proofs.in_threads.one_turn.share_turn.Goals as goal

pub come_all-ended-requires : goal.come_all-ended-requires
come_all-ended-requires g c = λ k d l. (c.in_ok-turn.ensures.callers.1 k d l).0
