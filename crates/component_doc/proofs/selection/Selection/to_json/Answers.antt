use Rattle.std.proofs.Common.{◌≡◌, ◌∙◌, ◌<◌, ◌^◌, length, Some, ap, arith, rules}
use Rattle.serde_json.specs.View.{view}
use Rattle.serde_json.specs.Written.{has_float, compact_text}
use Rattle.serde_json.specs.Read.{read}
use Rattle.writer_meta.specs.Document.{value_of_text}
use Rattle.writer_meta.proofs.Lists.{has_value}
use Rattle.component_doc.specs.Over.{Held, metas_of}
use Rattle.component_doc.specs.Document.{document, document_text}
use Rattle.component_doc.proofs.Known.{few-from_allowed}
use Rattle.component_doc.proofs.ReadBack.{has_float-document, read-document_text, document-alone}
use Rattle.component_doc.proofs.selection.Selection.to_json.Goals as goal

pub chosen-requires-clause-few : goal.chosen-requires-clause-few
chosen-requires-clause-few c = few-from_allowed (metas_of c.args.metas.now) c.requires.allowed

pub returns-clause-written : goal.returns-clause-written
unfolding document_text
returns-clause-written c =
    let ms = metas_of c.args.metas.now in
    let s = c.args.self.now.selected in
    let few : length ms < 2 ^ 32 = omega (arith, c.self.invariant, ap (λ (h : Held). h.writers) c.self.view_is, c.requires.over.writers) in
    let seen : view c.in_ok-value.value ≡ document ms s c.args.context = c.in_ok-value.ensures ∙ search rules in
    c.of.ensures.bytes ∙ c.in_ok-text.ensures.text (ap has_float seen ∙ has_float-document ms s c.args.context few) ∙ ap compact_text seen

pub returns-clause-reads_back : goal.returns-clause-reads_back
returns-clause-reads_back c =
    let ms = metas_of c.args.metas.now in
    let s = c.args.self.now.selected in
    let few : length ms < 2 ^ 32 = omega (arith, c.self.invariant, ap (λ (h : Held). h.writers) c.self.view_is, c.requires.over.writers) in
    let written = returns-clause-written c in
    let back : read c.of.result.bytes ≡ Some (document ms s c.args.context) = ap read written ∙ read-document_text ms s c.args.context few in
    let value : value_of_text c.of.result.bytes
    ≡ Some (document ms s c.args.context) = rw c.of.ensures.bytes
    (has_value c.in_ok-text.text.items _ c.in_ok-text.ensures.utf8 (rw c.of.ensures.bytes at back)) in
    document-alone ms c.of.result.bytes _ c.args.context c.args.self.now c.requires.allowed few value (record { over = c.requires.over; written = written })
