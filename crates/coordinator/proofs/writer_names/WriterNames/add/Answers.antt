use Rattle.std.proofs.Common.{rules, ap, refl, map, ◌∙◌, ◌≡◌, ℕ, Vec, Global, Bool}
use Rattle.std.specs.Str.{bytes_eq}
use Rattle.indexmap.specs.IndexMap.{insert_entry}
use Rattle.coordinator.specs.Coordinator.{registered}
use Rattle.coordinator.proofs.Registering.{insert-new}
use Rattle.coordinator.proofs.writer_names.WriterNames.add.Goals as goal

abbrev same_key : Vec ℕ Global → Vec ℕ Global → Bool
same_key a b = bytes_eq a.items b.items

pub returns-clause-added : goal.returns-clause-added
returns-clause-added c =
    let inserted : c.insert.new.self.entries ≡ insert_entry same_key c.self.inside.classes.entries c.in_ok-key.key c.args.class = search rules in
    ap (map registered) inserted
    ∙ insert-new same_key c.in_ok-key.key c.args.class c.args.name.now c.self.inside.classes.entries c.args.self.now (λ x. refl) (search rules) c.self.view_is c.requires
