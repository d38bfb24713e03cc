use Rattle.std.proofs.Common.{rules, tests, ◌≡◌, ◌∙◌, nat_eq}
use Rattle.std.proofs.lemmas.Iterator.{YieldsList-from_slice}
use Rattle.std.proofs.lemmas.Iterator.Search.{find_from_yields_List}
use Rattle.vss_names.specs.ComponentType.{number_of, component_type_of_number, component_types}
use Rattle.vss_names.proofs.LookUps.{IsLookUp-component_type_of_number}
use Rattle.vss_names.proofs.component_type.ComponentType.of_number.Goals as goal

pub returns : goal.returns
unfolding component_type_of_number
returns c =
    let value : c.copied.result ≡ component_type_of_number c.args.number =
    c.copied.ensures
    ∙ find_from_yields_List (λ row. nat_eq (number_of row) c.args.number) _ _ c.find.result c.find.ensures.ran (YieldsList-from_slice component_types cc) (λ x b q k. search (rules, tests)) in
    record { value = value; row = IsLookUp-component_type_of_number _ _ value }
