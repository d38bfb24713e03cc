use Rattle.std.proofs.Common.{rules, ◌≡◌, ◌+◌, ◌≤◌, [], ◌∷◌, ◌++◌, Ok, length, sym, subst}
use Rattle.scenario.specs.Drafts.{IsEntry, saying_in}
use Rattle.scenario.specs.Built.{IsGrowing, value_said}
use Rattle.scenario.proofs.Growing.{drafted, grown_by}
use Rattle.scenario.proofs.given.Given.add.Goals as goal

pub enter-requires-clause-draft : goal.enter-requires-clause-draft
enter-requires-clause-draft c =
    let given = c.args.self.now in
    let same : c.push_line.new.source.items ≡ given.source.items ++ c.args.bytes.now ++ 10 ∷ [] = search rules in
    let room : length given.source.items + length c.args.bytes.now + 1 ≤ 4000000000 = search rules in
    drafted given.source.items c.args.bytes.now c.push_line.new.source.items given.number given.draft same c.requires.grows room

pub entry_of_value-requires-clause-draft : goal.entry_of_value-requires-clause-draft
entry_of_value-requires-clause-draft c =
    let given = c.args.self.now in
    let same : c.deref-2.result.now ≡ given.source.items ++ c.args.bytes.now ++ 10 ∷ [] = search rules in
    let room : length given.source.items + length c.args.bytes.now + 1 ≤ 4000000000 = search rules in
    drafted given.source.items c.args.bytes.now c.deref-2.result.now given.number given.draft same c.requires.grows room

pub returns-in-Ok-enter-clause-grows : goal.returns-in-Ok-enter-clause-grows
returns-in-Ok-enter-clause-grows c =
    let given = c.args.self.now in
    let entry = c.in-Ok-entry_of_value.entry in
    let text = c.push_line.new.source.items in
    let same : text ≡ given.source.items ++ c.args.bytes.now ++ 10 ∷ [] = search rules in
    let room : length given.source.items + length c.args.bytes.now + 1 ≤ 4000000000 = search rules in
    let new : IsEntry text given.draft entry = subst (λ t. IsEntry t given.draft entry) c.deref-2.ensures.value c.in-Ok-entry_of_value.ensures.kept in
    let said : Ok (saying_in entry) ≡ value_said text given.draft.said given.number c.in-Ok.name c.args.value =
    subst (λ t. Ok (saying_in entry) ≡ value_said t given.draft.said given.number c.in-Ok.name c.args.value) c.deref-2.ensures.value c.in-Ok-entry_of_value.ensures.value in
    subst (λ b. IsGrowing b.source b.number b.draft) (sym c.in-Ok-enter.ensures)
    (grown_by given.source.items c.args.bytes.now text given.number given.draft c.in-Ok.name c.args.value entry same c.requires.grows room new said)
