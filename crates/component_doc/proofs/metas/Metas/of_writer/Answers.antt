use Rattle.std.proofs.Common.{◌≡◌, arith, Some, slice_get}
use Rattle.std.proofs.lemmas.Option.{slice_get_read}
use Rattle.component_doc.proofs.Known.{get-some}
use Rattle.component_doc.proofs.metas.Metas.of_writer.Goals as goal

pub returns-in-Some : goal.returns-in-Some
returns-in-Some c =
    let at : slice_get c.deref.result.now c.args.writer ≡ Some c.in-Some.known.now = grind (arith, slice_get_read, c.in-Some.ensures.lookup) in
    rw (← c.self.view_is) (get-some c.self.inside.items.items (λ known. known.now) c.args.writer c.in-Some.known.now (rw c.deref.ensures.value at at))
