use Rattle.std.proofs.Common.{◌≡◌, ◌∙◌, Some, None, Err, ok_or, rules, sym, ap}
use Rattle.scenario.specs.declared.field.Field.TheVariants.{Text}
use Rattle.scenario.specs.declared.reason.Reason.TheVariants.{UnknownName}
use Rattle.scenario.specs.Fields.{bytes_of}
use Rattle.scenario.specs.Names.{place_of}
use Rattle.scenario.specs.Drafts.{names_of}
use Rattle.scenario.proofs.Growing.{declared_text}
use Rattle.scenario.proofs.field_values.declared_field.Goals as goal

pub returns-in-Some-clause-value : goal.returns-in-Some-clause-value
returns-in-Some-clause-value c =
    let draft = c.args.draft.now in
    let at : place_of (bytes_of c.args.text.now c.in-Text.span) (names_of draft.names c.args.kind) ≡ Some c.in-Some.at = search rules in
    let is : c.args.field ≡ Text c.in-Text.span = search rules in
    rw is (sym (declared_text c.args.text.now draft.said draft.names c.args.kind c.in-Text.span c.requires.draft.names ∙ ap (λ found. ok_or found UnknownName) at))

pub returns-in-None-clause-value : goal.returns-in-None-clause-value
returns-in-None-clause-value c =
    let draft = c.args.draft.now in
    let none : place_of (bytes_of c.args.text.now c.in-Text.span) (names_of draft.names c.args.kind) ≡ None = search rules in
    let is : c.args.field ≡ Text c.in-Text.span = search rules in
    rw is (ap Err c.undeclared.ensures ∙ sym (declared_text c.args.text.now draft.said draft.names c.args.kind c.in-Text.span c.requires.draft.names ∙ ap (λ found. ok_or found UnknownName) none))
