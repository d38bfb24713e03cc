use Rattle.std.proofs.Common.{not, eqb, rules}
use Rattle.std.proofs.lemmas.Fn.{filter_same}
use Rattle.vss_play.proofs.line.take_out.Goals as goal

pub returns : goal.returns
returns c = filter_same _ (λ one. not (eqb one c.args.actor)) _ (λ x b f k. search rules) _ _ c.retain.ensures.filtered
