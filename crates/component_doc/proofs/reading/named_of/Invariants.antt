use Rattle.std.proofs.Common.{◌≡◌, [], drop, true}
use Rattle.serde_json.specs.View.{items_view}
use Rattle.component_doc.specs.Over.{metas_of, pairs_of, is_named, IsOver}
use Rattle.component_doc.specs.Reading.{named_by_all}
use Rattle.component_doc.proofs.reading.named_of.Given as goal

-- the pairs so far, after which the components that are left name the others
abbrev pub invariant-loop-component : goal.invariant-loop-component
invariant-loop-component l =
    (named_by_all (metas_of l.metas) [] (items_view l.components) ≡ named_by_all (metas_of l.metas) (pairs_of l.selection.selected) (items_view (drop l.component-index l.components)))
    × (is_named l.selection.selected ≡ true)
    × IsOver (metas_of l.metas) l.selection
