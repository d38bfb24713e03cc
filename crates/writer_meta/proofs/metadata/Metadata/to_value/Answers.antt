use Rattle.std.proofs.Common.{◌≡◌, ◌∙◌, ap, refl}
use Rattle.serde_json.specs.Data.{string, number, unsigned}
use Rattle.serde_json.specs.View.{view}
use Rattle.serde_json.proofs.Views.{view-Object}
use Rattle.vss_names.specs.Level as level
use Rattle.vss_names.specs.Usage as usage
use Rattle.vss_names.specs.SourceKind as source
use Rattle.writer_meta.specs.Metadata.{class_text, meta_data}
use Rattle.writer_meta.proofs.Laws.{IsUtf8-writer_name}
use Rattle.writer_meta.proofs.metadata.Metadata.to_value.Goals as goal

pub str_of-name-requires : goal.str_of-name-requires
str_of-name-requires c = IsUtf8-writer_name c.args.self.now.name.bytes c.requires.name

pub returns : goal.returns
unfolding meta_data
returns c =
    let m = c.args.self.now in
    let class : view c.in_ok-try_from_str.field-0 ≡ string (class_text m.class) =
    c.in_ok-try_from_str.ensures ∙ ap string c.class_text-class.ensures in
    let level : view c.from-2.result ≡ number (unsigned (level.number_of m.level)) = c.from-2.ensures ∙ ap (λ n. number (unsigned n)) c.number.ensures in
    let name : view c.in_ok-try_from_str-2.field-0 ≡ string m.name.bytes = c.in_ok-try_from_str-2.ensures ∙ ap string c.str_of-name.ensures in
    let source : view c.from-3.result ≡ number (unsigned (source.number_of m.source)) = c.from-3.ensures ∙ ap (λ n. number (unsigned n)) c.number-2.ensures in
    let usage : view c.from-4.result ≡ number (unsigned (usage.number_of m.usage)) = c.from-4.ensures ∙ ap (λ n. number (unsigned n)) c.number-3.ensures in
    rw (
      view-Object c.put-7.new.map,
      c.in_ok-put-7.ensures.ok,
      c.in_ok-put-6.ensures.ok,
      c.in_ok-put-5.ensures.ok,
      c.in_ok-put-4.ensures.ok,
      c.in_ok-put-3.ensures.ok,
      c.in_ok-put-2.ensures.ok,
      c.in_ok-put.ensures.ok,
      c.new-members.ensures.empty,
      class,
      c.in_ok-components.ensures,
      c.from.ensures,
      level,
      name,
      source,
      usage,
    ) refl
