use Rattle.scenario.proofs.Kept.{kept}
use Rattle.scenario.proofs.parsing.take_in.Goals as goal

pub returns-in-Ok-add-clause-kept : goal.returns-in-Ok-add-clause-kept
returns-in-Ok-add-clause-kept c = rw c.in-Ok-add.ensures.added (kept c.args.text.now c.args.draft.now c.in-Ok.entry c.requires.draft c.in-Ok.ensures.kept)
