use Rattle.component_doc.specs.Over.{metas_of}
use Rattle.component_doc.proofs.Known.{few-components, known-is}
use Rattle.component_doc.proofs.metas.Metas.find.Goals as goal

pub find_in-requires : goal.find_in-requires
find_in-requires c =
    let m = c.in-Some.metadata in
    rw c.items.ensures (few-components (metas_of c.args.self.now) c.args.writer m.now (known-is c.of_writer.result m (λ known. known.now) _ c.in-Some.is c.of_writer.ensures) c.requires)
