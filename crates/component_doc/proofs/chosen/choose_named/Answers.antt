use Rattle.std.proofs.Common.{arith, map}
use Rattle.writer_meta.specs.Metadata.{part_of}
use Rattle.component_doc.proofs.Order.{same-choices}
use Rattle.component_doc.proofs.chosen.choose_named.Goals as goal

pub returns : goal.returns
returns c =
    let parts = map part_of c.args.components.now in
    let same = same-choices c.args.writer c.around_writer-pairs.result.now c.args.named.now c.around_writer-pairs.ensures parts 0 parts in
    grind (arith, c.choose_by_names.ensures, same)
