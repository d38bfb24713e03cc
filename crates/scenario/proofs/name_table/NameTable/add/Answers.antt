use Rattle.std.proofs.Common.{rules, ap, map, ◌∙◌, ◌≡◌, refl, ℕ, Vec, Global, Bool}
use Rattle.std.specs.Str.{bytes_eq}
use Rattle.indexmap.specs.IndexSet.{insert_key}
use Rattle.scenario.proofs.Growing.{items_of, insert_new}
use Rattle.scenario.proofs.name_table.NameTable.add.Goals as goal

abbrev same_key : Vec ℕ Global → Vec ℕ Global → Bool
same_key a b = bytes_eq a.items b.items

pub returns-clause-added : goal.returns-clause-added
returns-clause-added c =
    let inserted : c.insert.new.self.keys ≡ insert_key same_key c.self.inside.names.keys c.in_ok-key.key = search rules in
    ap (map items_of) inserted
    ∙ insert_new same_key c.in_ok-key.key c.args.name.now c.self.inside.names.keys c.args.self.now (λ x. refl) (search rules) c.self.view_is c.requires
