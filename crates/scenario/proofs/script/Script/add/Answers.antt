use Rattle.std.proofs.Common.{◌≡◌, ◌++◌, ◌∷◌, [], None, map, ap, ◌∙◌, arith}
use Rattle.std.specs.Prelude.{find, nat_eq}
use Rattle.std.specs.Map.{lookup}
use Rattle.std.proofs.lemmas.List.{map_push}
use Rattle.std.proofs.lemmas.List.Elements.{All-push}
use Rattle.indexmap.proofs.CallerLemmas.{insert_entry-new}
use Rattle.writer_calls.specs.Script.{is_row_for}
use Rattle.scenario.specs.Keys.{row_in, IsKeyed}
use Rattle.scenario.proofs.TextParts.{found}
use Rattle.scenario.proofs.script.Script.add.Goals as goal

pub returns-clause-added : goal.returns-clause-added
returns-clause-added c =
    let absent : lookup (nat_eq c.key_of.result) c.self.inside.rows.entries ≡ None =
    ap (λ k. lookup (nat_eq k) c.self.inside.rows.entries) c.key_of.ensures
    ∙ found c.args.row.order c.args.row.nth c.self.inside.rows.entries (omega arith) c.self.invariant
    ∙ ap (find (is_row_for c.args.row.order c.args.row.nth)) c.self.view_is
    ∙ c.requires.new in
    ap (map row_in) (c.in_ok-insert.ensures.entries ∙ insert_entry-new nat_eq c.self.inside.rows c.key_of.result c.args.row absent)
    ∙ map_push row_in c.self.inside.rows.entries (c.key_of.result, c.args.row)
    ∙ ap (λ rows. rows ++ c.args.row ∷ []) c.self.view_is

pub invariant_of-self-2 : goal.invariant_of-self-2
invariant_of-self-2 c =
    let absent : lookup (nat_eq c.key_of.result) c.self.inside.rows.entries ≡ None =
    ap (λ k. lookup (nat_eq k) c.self.inside.rows.entries) c.key_of.ensures
    ∙ found c.args.row.order c.args.row.nth c.self.inside.rows.entries (omega arith) c.self.invariant
    ∙ ap (find (is_row_for c.args.row.order c.args.row.nth)) c.self.view_is
    ∙ c.requires.new in
    rw (c.in_ok-insert.ensures.entries ∙ insert_entry-new nat_eq c.self.inside.rows c.key_of.result c.args.row absent)
    (All-push IsKeyed c.self.inside.rows.entries (c.key_of.result, c.args.row) c.self.invariant (record { key = c.key_of.ensures; small = omega arith }))
