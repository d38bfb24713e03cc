use Rattle.std.proofs.Common.{rules}
use Rattle.std.specs.Prelude.{nat_lt}
use Rattle.std.proofs.lemmas.Fn.{filter_same}
use Rattle.write_history.specs.History.{Image}
use Rattle.vss_shards.proofs.Keeping.{after_none}
use Rattle.vss_shards.proofs.writing.forget_up_to.Goals as goal

pub returns-clause-images : goal.returns-clause-images
returns-clause-images c = filter_same _ (λ (i : Image). nat_lt c.args.up_to i.set) _ (λ x b f' k. search rules) _ _ c.retain.ensures.filtered

pub returns-then-up_to-eq0-clause-images : goal.returns-then-up_to-eq0-clause-images
returns-then-up_to-eq0-clause-images c = rw c.if-up_to-eq0.true (after_none c.args.images.now.items c.requires)
