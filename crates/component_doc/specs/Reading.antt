-- What a JSON value names as a component document does, and what a path has behind a component's name. (This project's own.)
use Rattle.std.specs.Prelude.{ℕ, ◌≡◌, ◌≢◌, ◌++◌, List, Option, MatchOption, Bool, true, false, [], codes, Some, None, option_map, option_and_then}
use Rattle.serde_json.specs.Data.{Data, Items, no_items, item}
use Rattle.serde_json.specs.Find.{get, as_array, as_bool, as_number, as_str, as_u64}
use denote.Ref.{Bor}
use Rattle.vss_names.specs.Context.{context_of_number}
use Rattle.vss_names.specs.declared.context.Context.{Context}
use Rattle.writer_meta.specs.Metadata.{Meta}
use Rattle.component_doc.specs.Selection.{Pair, Selected, Named, all_of, Naming, IsNotFound, IsNotSelectable, IsNamedAlready, Names, naming}

-- ## What a text has behind a beginning. (This project's own.)

-- the rest of the text behind these bytes; none where the text does not begin with them
abbrev pub IsBehind : List ℕ → List ℕ → Option (Bor (List ℕ)) → Type 0
IsBehind text start rest = MatchOption rest ((more : List ℕ) → text ≢ start ++ more) (λ x. text ≡ start ++ x.now)

-- ## What a JSON value names as a component document does, whether or not it is one: the context, and the components that
-- are explicit, each named in turn. (This project's own.)

unfoldable pub context_in : Data → Option Context
context_in d = option_and_then context_of_number (option_and_then as_u64 (option_and_then as_number (get (codes "context") d)))

-- ## one component

unfoldable pub explicit_in : Data → Option Bool
explicit_in d = option_and_then as_bool (get (codes "explicit") d)

unfoldable pub writer_in : Data → Option ℕ
writer_in d = option_and_then as_u64 (option_and_then as_number (get (codes "writer") d))

unfoldable pub path_in : Data → Option (List ℕ)
path_in d = option_and_then as_str (get (codes "path") d)

-- the pairs, with the one that is named
abbrev pub pairs_named : Naming → Option (List Pair)
pairs_named IsNotFound = None
pairs_named IsNotSelectable = None
pairs_named IsNamedAlready = None
pairs_named (Names ps) = Some ps

-- a component that is explicit is named
abbrev pub named_if : List (Option Meta) → List Pair → Bool → Option ℕ → Option (List ℕ) → Option (List Pair)
named_if ms ps false writer path = Some ps
named_if ms ps true None path = None
named_if ms ps true (Some w) None = None
named_if ms ps true (Some w) (Some name) = pairs_named (naming ms w name ps)

unfoldable pub named_by : List (Option Meta) → List Pair → Data → Option (List Pair)
named_by ms ps d = option_and_then (λ explicit. named_if ms ps explicit (writer_in d) (path_in d)) (explicit_in d)

-- ## the whole

unfoldable pub named_by_all : List (Option Meta) → List Pair → Items → Option (List Pair)
named_by_all ms ps no_items = Some ps
named_by_all ms ps (item d ds) = option_and_then (λ qs. named_by_all ms qs ds) (named_by ms ps d)

unfoldable pub components_in : Data → Option Items
components_in d = option_and_then as_array (get (codes "components") d)

-- with a member `select` all components are selected
abbrev pub selected_if : List (Option Meta) → Option Data → Option Items → Option Selected
selected_if ms (Some select) components = Some (all_of ms)
selected_if ms None components = option_map Named (option_and_then (named_by_all ms []) components)

unfoldable pub selected_in : List (Option Meta) → Data → Option Selected
selected_in ms d = selected_if ms (get (codes "select") d) (components_in d)
