use Rattle.std.proofs.Common.{◌∙◌, ap}
use Rattle.uuid.specs.Text.{lower, hyphenated_text}
use Rattle.component_doc.proofs.written.class_text.Goals as goal

pub returns : goal.returns
returns c = c.encode_lower.ensures.text ∙ ap (hyphenated_text lower) (c.hyphenated.ensures ∙ c.from_u128.ensures)
