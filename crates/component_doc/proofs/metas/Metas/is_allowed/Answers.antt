use Rattle.component_doc.proofs.Known.{known_allowed, none_allowed}
use Rattle.component_doc.proofs.metas.Metas.is_allowed.Goals as goal

pub returns-in-None : goal.returns-in-None
returns-in-None c = none_allowed c.of_writer.result (λ known. known.now) _ c.in-None.is c.of_writer.ensures

pub returns-in-Some : goal.returns-in-Some
returns-in-Some c = known_allowed c.of_writer.result c.in-Some.metadata (λ known. known.now) _ c.is_allowed.result c.in-Some.is c.of_writer.ensures c.is_allowed.ensures
