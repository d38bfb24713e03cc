use Rattle.std.proofs.Common.{◌≡◌, ◌∙◌, ◌++◌, [], ◌∷◌, option_map, ap, sym, arith, Vec, Global}
use Rattle.serde_json.specs.View.{view}
use Rattle.serde_json.specs.declared.value.Value.{Value}
use Rattle.component_doc.specs.Over.{metas_of}
use Rattle.component_doc.proofs.Known.{value-more, value-none, value-all}
use Rattle.component_doc.proofs.written.values_of.Goals as goal
use Rattle.component_doc.proofs.written.values_of.Goals.{in-Some+in_ok-push, in_default}

pub loop-choice-preserved : goal.loop-choice-preserved
loop-choice-preserved c =
    let l = c.loop-choice in
    elim c.match-branch-3.branch [
      | in-Some+in_ok-push w ↦
          let items : c.match-branch-3.values.items ≡ l.values.items ++ w.in-Some.value ∷ [] = ap (λ (v : Vec Value Global). v.items) w.values-is ∙ w.in_ok-push.ensures.items in
          rw items (value-more (metas_of c.args.metas.now) c.args.choices.now l.values.items l.choice-index _ w.in-Some.value (omega arith)
          (sym (ap (option_map view) w.in-Some.is) ∙ c.in_ok-value.ensures) l.invariant)
      | in_default w ↦
          let items : c.match-branch-3.values.items ≡ l.values.items = ap (λ (v : Vec Value Global). v.items) w.values-is in
          rw items (value-none (metas_of c.args.metas.now) c.args.choices.now l.values.items l.choice-index _ (omega arith)
          (sym (ap (option_map view) w.in_default.is) ∙ c.in_ok-value.ensures) l.invariant)
    ]

pub returns : goal.returns
returns c =
    let l = c.loop-choice in
    value-all (metas_of c.args.metas.now) c.args.choices.now l.values.items l.choice-index (omega arith) l.invariant
