use Rattle.std.proofs.Common.{rules, tests, ◌≡◌, ◌∙◌}
use Rattle.std.specs.Str.{bytes_eq}
use Rattle.std.proofs.lemmas.Iterator.{YieldsList-from_slice}
use Rattle.std.proofs.lemmas.Iterator.Search.{find_from_yields_List}
use Rattle.vss_names.specs.WriterState.{name_of, state_of_name, states}
use Rattle.vss_names.proofs.LookUps.{IsLookUp-state_of_name}
use Rattle.vss_names.proofs.writer_state.WriterState.of_name.Goals as goal

pub returns : goal.returns
unfolding state_of_name
returns c =
    let value : c.copied.result ≡ state_of_name c.args.name.now =
    c.copied.ensures
    ∙ find_from_yields_List (λ row. bytes_eq (name_of row) c.args.name.now) _ _ c.find.result c.find.ensures.ran (YieldsList-from_slice states cc) (λ x b q k. search (rules, tests)) in
    record { value = value; row = IsLookUp-state_of_name _ _ value }
