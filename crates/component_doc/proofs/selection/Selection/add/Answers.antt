use Rattle.std.proofs.Common.{◌≡◌, ◌∙◌, ◌&&◌, ap, sym, refl, true, false, Some, slice_get, subst, List, rules}
use Rattle.std.specs.List.{list_all}
use Rattle.component_doc.specs.Over.{Held, metas_of, selected_of, IsSelectedOver, names_selectable, is_ascending}
use Rattle.component_doc.specs.Selection.{Pair, Named, found_of, has_pair}
use Rattle.component_doc.proofs.Order.{over-more}
use Rattle.component_doc.proofs.selection.Selection.add.Goals as goal

pub returns-clause-over : goal.returns-clause-over
returns-clause-over c = λ over.
    let ms = metas_of c.args.metas.now in
    let f = c.in-Some.found in
    let old = c.in-Named.named.items in
    let was : c.args.self.now.selected ≡ Named old = sym (ap (λ (h : Held). h.selected) c.self.view_is) ∙ ap selected_of c.in-Named.is in
    let before : (list_all (names_selectable ms) old && is_ascending old) ≡ true = subst (IsSelectedOver ms) was over.selected in
    let found : Some f ≡ found_of c.args.path.now (slice_get ms c.args.writer) = sym c.in-Some.is ∙ c.in_ok-found.ensures in
    let new : has_pair old c.args.writer f.component ≡ false = ap (λ (ps : List Pair). has_pair ps c.args.writer f.component) (sym c.deref.ensures.value) ∙ sym c.has.ensures ∙ c.if-has.false in
    record {
      writers = ap (λ (h : Held). h.writers) c.self.view_is ∙ over.writers;
      selected = subst (λ (ps : List Pair). (list_all (names_selectable ms) ps && is_ascending ps) ≡ true) (sym c.in_ok-insert.ensures.ok)
          (over-more ms c.args.path.now (record { writer = c.args.writer; component = f.component }) f old found refl (search rules) new before);
    }
