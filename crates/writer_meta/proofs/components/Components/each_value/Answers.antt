use Rattle.std.proofs.Common.{◌≡◌, ◌∙◌, ◌++◌, [], ◌∷◌, map, ap, arith}
use Rattle.std.proofs.lemmas.List.{map-append}
use Rattle.writer_meta.specs.Metadata.{part_of}
use Rattle.writer_meta.proofs.Lists.{after-more, after-all, Tells-after, Tells-handed_on}
use Rattle.writer_meta.proofs.components.Components.each_value.Goals as goal

pub returns-in_err-component-clause-refused : goal.returns-in_err-component-clause-refused
returns-in_err-component-clause-refused c =
    let l = c.loop-value in
    Tells-handed_on _ _ _ c.from_residual-in_err-component.ensures.1
    (rw l.invariant (Tells-after _ c.args.values.now l.value-index c.value-item.result (map part_of l.components.items) (omega arith) c.value-item.is c.in_err-component.ensures.refused))

pub loop-value-preserved : goal.loop-value-preserved
loop-value-preserved c =
    let l = c.loop-value in
    let component = c.in_ok-component.component in
    let pushed : map part_of c.push.new.self.items ≡ map part_of l.components.items ++ part_of component ∷ [] =
    ap (map part_of) c.in_ok-push.ensures.items ∙ map-append part_of l.components.items (component ∷ []) in
    rw pushed (l.invariant
    ∙ after-more c.args.values.now l.value-index c.value-item.result (map part_of l.components.items) (part_of component) (omega arith) c.value-item.is c.in_ok-component.ensures.ok)

pub returns-clause-ok : goal.returns-clause-ok
returns-clause-ok c =
    let l = c.loop-value in
    l.invariant ∙ after-all c.args.values.now l.value-index (map part_of l.components.items) (omega arith)
