use Rattle.std.proofs.Common.{rules, tests, ◌≡◌, ◌∙◌}
use Rattle.std.specs.Str.{bytes_eq}
use Rattle.std.proofs.lemmas.Iterator.{YieldsList-from_slice}
use Rattle.std.proofs.lemmas.Iterator.Search.{find_from_yields_List}
use Rattle.vss_names.specs.VssResult.{name_of, vss_result_of_name, vss_results}
use Rattle.vss_names.proofs.LookUps.{IsLookUp-vss_result_of_name}
use Rattle.vss_names.proofs.vss_result.VssResult.of_name.Goals as goal

pub returns : goal.returns
unfolding vss_result_of_name
returns c =
    let value : c.copied.result ≡ vss_result_of_name c.args.name.now =
    c.copied.ensures
    ∙ find_from_yields_List (λ row. bytes_eq (name_of row) c.args.name.now) _ _ c.find.result c.find.ensures.ran (YieldsList-from_slice vss_results cc) (λ x b q k. search (rules, tests)) in
    record { value = value; row = IsLookUp-vss_result_of_name _ _ value }
