use Rattle.std.proofs.Common.{◌≡◌, ◌∙◌, ap, arith, Some, slice_get}
use Rattle.std.proofs.lemmas.Option.{slice_get_read}
use Rattle.writer_meta.specs.Metadata.{meta_of}
use Rattle.component_doc.specs.Over.{metas_of}
use Rattle.component_doc.proofs.Known.{part-at, allowed-known, known-is, choice-found}
use Rattle.component_doc.proofs.written.value_of.Goals as goal

pub component_value-requires : goal.component_value-requires
component_value-requires c =
    let m = c.in-Some.metadata.now in
    let known = known-is c.of_writer.result c.in-Some.metadata (λ k. k.now) _ c.in-Some.is c.of_writer.ensures in
    let found : slice_get m.components c.args.choice.component ≡ Some c.in-Some-get.component.now = grind (arith, slice_get_read, c.in-Some-get.ensures.lookup, c.items.ensures) in
    part-at m.components c.args.choice.component c.in-Some-get.component.now found (allowed-known (metas_of c.args.metas.now) c.args.choice.writer (meta_of m) known c.requires).parts

pub returns : goal.returns
returns c =
    let m = c.in-Some.metadata.now in
    let known = known-is c.of_writer.result c.in-Some.metadata (λ k. k.now) _ c.in-Some.is c.of_writer.ensures in
    let found : slice_get m.components c.args.choice.component ≡ Some c.in-Some-get.component.now = grind (arith, slice_get_read, c.in-Some-get.ensures.lookup, c.items.ensures) in
    ap Some c.in_ok-component_value.ensures ∙ choice-found _ c.args.choice m c.in-Some-get.component.now known found
