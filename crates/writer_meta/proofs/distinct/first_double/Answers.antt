use Rattle.std.proofs.Common.{◌≡◌, ◌∙◌, ◌∷◌, Some, true, false, sym, ap, rules, arith, refl}
use Rattle.std.specs.HashSet.{contains}
use Rattle.std.specs.Str.{bytes_eq}
use Rattle.writer_meta.specs.Metadata.{part_of, full_name}
use Rattle.writer_meta.proofs.Lists.{double-here, double-further, double-none, has-one_more}
use Rattle.writer_meta.proofs.distinct.first_double.Goals as goal

pub returns-then-not-branch : goal.returns-then-not-branch
returns-then-not-branch c =
    let l = c.loop-component in
    let name = c.into_vec-name.result in
    let named : name.items ≡ full_name (part_of c.component-item.result) = c.into_vec-name.ensures.bytes ∙ c.in_ok-full_name.ensures in
    let had : contains (λ x y. bytes_eq x.items y.items) l.names name ≡ true = search rules in
    ap Some (c.in_ok-full_name-2.ensures ∙ sym named)
    ∙ sym (double-here l.invariant.0 c.args.components.now l.component-index c.component-item.result name.items (omega arith) c.component-item.is named (sym (l.invariant.1 name) ∙ had))
    ∙ sym l.invariant.2

pub loop-component-preserved : goal.loop-component-preserved
loop-component-preserved c =
    let l = c.loop-component in
    let name = c.into_vec-name.result in
    let named : name.items ≡ full_name (part_of c.component-item.result) = c.into_vec-name.ensures.bytes ∙ c.in_ok-full_name.ensures in
    let new : contains (λ x y. bytes_eq x.items y.items) l.names name ≡ false = search rules in (
      name.items ∷ l.invariant.0,
      λ q. has-one_more _ _ _ _ name.items q.items (c.in_ok-insert.ensures.updates.0 q) refl (l.invariant.1 q),
      l.invariant.2
          ∙ double-further l.invariant.0 c.args.components.now l.component-index c.component-item.result name.items (omega arith) c.component-item.is named
          (sym (l.invariant.1 name) ∙ new),
    )

pub returns : goal.returns
returns c = sym (c.loop-component.invariant.2 ∙ double-none c.loop-component.invariant.0 c.args.components.now c.loop-component.component-index (omega arith))
