use Rattle.std.proofs.Common.{◌≡◌, ◌∙◌, ◌≤◌, Some, ap}
use Rattle.serde_json.specs.Data.{depth}
use Rattle.serde_json.specs.View.{view}
use Rattle.serde_json.specs.Written.{has_float, compact_text}
use Rattle.serde_json.specs.Read.{read}
use Rattle.writer_meta.specs.Metadata.{meta_of, meta_data, document_text}
use Rattle.writer_meta.specs.Document.{metadata_in}
use Rattle.writer_meta.proofs.Laws.{meta_in-meta_data, has_float-meta_data, depth-meta_data}
use Rattle.writer_meta.proofs.Lists.{has_value}
use Rattle.writer_meta.proofs.metadata.Metadata.to_json.Goals as goal

pub returns-clause-written : goal.returns-clause-written
unfolding document_text
returns-clause-written c =
    let m = meta_of c.args.self.now in
    let seen : view c.in_ok-value.value ≡ meta_data m = c.in_ok-value.ensures in
    c.of.ensures.bytes ∙ c.in_ok-text.ensures.text (ap has_float seen ∙ has_float-meta_data m) ∙ ap compact_text seen

pub returns-clause-reads_back : goal.returns-clause-reads_back
unfolding metadata_in
returns-clause-reads_back c =
    let m = meta_of c.args.self.now in
    let seen : view c.in_ok-value.value ≡ meta_data m = c.in_ok-value.ensures in
    let shallow : depth (view c.in_ok-value.value) ≤ 127 = rw seen (depth-meta_data m) in
    let back : read c.in_ok-text.text.items ≡ Some (meta_data m) = c.in_ok-text.ensures.reads_back shallow ∙ ap Some seen in
    rw c.of.ensures.bytes (rw (has_value c.in_ok-text.text.items (meta_data m) c.in_ok-text.ensures.utf8 back) (meta_in-meta_data m c.requires))
