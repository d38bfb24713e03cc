use Rattle.std.proofs.Common.{◌≡◌, ◌∙◌, ◌++◌, ◌∷◌, [], ℕ, Vec, Global, true, false, ap, sym}
use Rattle.component_doc.specs.Selection.{Selected, is_taker}
use Rattle.component_doc.specs.Over.{Held, selected_of}
use Rattle.component_doc.proofs.Known.{taken, passed}
use Rattle.component_doc.proofs.selection.Selection.participants.Goals as goal
use Rattle.component_doc.proofs.selection.Selection.participants.Goals.{then-takes+in_ok-push, else-takes}

pub loop-writer-preserved : goal.loop-writer-preserved
loop-writer-preserved c =
    let view : selected_of c.self.inside.taken ≡ c.args.self.now.selected = ap (λ (h : Held). h.selected) c.self.view_is in
    let l = c.loop-writer in
    elim c.if-takes.branch [
      | then-takes+in_ok-push w ↦
          let takes : is_taker c.args.self.now.selected l.writer ≡ true = ap (λ (s : Selected). is_taker s l.writer) (sym view) ∙ sym c.takes.ensures ∙ w.if-takes.true in
          let items : c.if-takes.writers.items ≡ l.writers.items ++ l.writer ∷ [] = ap (λ (v : Vec ℕ Global). v.items) w.writers-is ∙ w.in_ok-push.ensures.items in
          items ∙ taken c.args.self.now.selected l.writer l.writers.items takes l.invariant
      | else-takes w ↦
          let waits : is_taker c.args.self.now.selected l.writer ≡ false = ap (λ (s : Selected). is_taker s l.writer) (sym view) ∙ sym c.takes.ensures ∙ w.if-takes.false in
          ap (λ (v : Vec ℕ Global). v.items) w.writers-is ∙ passed c.args.self.now.selected l.writer l.writers.items waits l.invariant
    ]
