use Rattle.std.proofs.Common.{◌≡◌, ◌++◌, [], ◌∷◌, arith}
use Rattle.writer_meta.proofs.Laws.{written-more, written-all, allowed_at}
use Rattle.writer_meta.proofs.components.Components.values_of.Goals as goal

pub to_value-requires : goal.to_value-requires
to_value-requires c = allowed_at c.args.components.now c.loop-component.component-index c.component-item.result c.requires (omega arith) c.component-item.is

pub loop-component-preserved : goal.loop-component-preserved
loop-component-preserved c =
    let l = c.loop-component in
    let value = c.in_ok-value.value in
    let pushed : c.push.new.self.items ≡ l.values.items ++ value ∷ [] = c.in_ok-push.ensures.items in
    rw pushed (written-more c.args.components.now l.values.items l.component-index c.component-item.result value (omega arith) c.component-item.is c.in_ok-value.ensures l.invariant)

pub returns : goal.returns
returns c =
    let l = c.loop-component in
    written-all c.args.components.now l.values.items l.component-index (omega arith) l.invariant
