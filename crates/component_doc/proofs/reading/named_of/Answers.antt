use Rattle.std.proofs.Common.{◌∙◌, ap, arith, option_map}
use Rattle.component_doc.specs.Over.{metas_of, pairs_of}
use Rattle.component_doc.specs.Selection.{Named}
use Rattle.component_doc.proofs.Named.{Lacks-handed_on, Lacks-named, named-more, named-all, named-selected}
use Rattle.component_doc.proofs.reading.named_of.Goals as goal

pub returns-in_err-name_component-clause-refused : goal.returns-in_err-name_component-clause-refused
returns-in_err-name_component-clause-refused c =
    let l = c.loop-component in
    Lacks-handed_on _ _ _ c.from_residual-in_err-name_component.ensures.1
    (rw l.invariant.0 (Lacks-named _ (metas_of c.args.metas.now) c.args.components.now l.component-index c.component-item.result (pairs_of l.selection.selected)
    (omega arith) c.component-item.is c.in_err-name_component.ensures.refused))

pub loop-component-preserved : goal.loop-component-preserved
loop-component-preserved c =
    let l = c.loop-component in
    let step = c.in_ok-name_component.ensures in (
      l.invariant.0 ∙ named-more (metas_of c.args.metas.now) c.args.components.now l.component-index c.component-item.result (pairs_of l.selection.selected)
          (pairs_of c.name_component.new.selection.selected) (omega arith) c.component-item.is step.ok,
      step.named,
      step.over l.invariant.2,
    )

pub returns-clause-ok : goal.returns-clause-ok
returns-clause-ok c =
    let l = c.loop-component in
    ap (option_map Named)
    (l.invariant.0 ∙ named-all (metas_of c.args.metas.now) c.args.components.now l.component-index (pairs_of l.selection.selected) (omega arith))
    ∙ named-selected l.selection.selected l.invariant.1
