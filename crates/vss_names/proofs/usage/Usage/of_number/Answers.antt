use Rattle.std.proofs.Common.{rules, tests, ◌≡◌, ◌∙◌, nat_eq}
use Rattle.std.proofs.lemmas.Iterator.{YieldsList-from_slice}
use Rattle.std.proofs.lemmas.Iterator.Search.{find_from_yields_List}
use Rattle.vss_names.specs.Usage.{number_of, usage_of_number, usages}
use Rattle.vss_names.proofs.LookUps.{IsLookUp-usage_of_number}
use Rattle.vss_names.proofs.usage.Usage.of_number.Goals as goal

pub returns : goal.returns
unfolding usage_of_number
returns c =
    let value : c.copied.result ≡ usage_of_number c.args.number =
    c.copied.ensures
    ∙ find_from_yields_List (λ row. nat_eq (number_of row) c.args.number) _ _ c.find.result c.find.ensures.ran (YieldsList-from_slice usages cc) (λ x b q k. search (rules, tests)) in
    record { value = value; row = IsLookUp-usage_of_number _ _ value }
