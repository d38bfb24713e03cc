use Rattle.std.proofs.Common.{rules}
use Rattle.std.proofs.lemmas.Fn.{filter_same}
use Rattle.cow_volume.specs.Calls.{is_among}
use Rattle.vss_recover.proofs.finals.keep_finals.Goals as goal

pub returns-clause-finals : goal.returns-clause-finals
returns-clause-finals c = filter_same _ (λ s. is_among s c.args.images.now) _ (λ x b f k. search rules) _ _ c.retain.ensures.filtered
