use Rattle.std.proofs.Common.{◌≡◌, ◌<◌, Option, arith, ap, length, subst, sym, true}
use Rattle.std.proofs.lemmas.List.{length-map}
use Rattle.writer_meta.specs.Metadata.{Meta}
use Rattle.component_doc.specs.Over.{Held, has_few, metas_of, selected_of}
use Rattle.component_doc.proofs.Known.{chosen-on, few-known}
use Rattle.component_doc.proofs.selection.Selection.chosen.Goals as goal

pub choose_of_writer-requires : goal.choose_of_writer-requires
choose_of_writer-requires c =
    subst (λ (o : Option Meta). has_few o ≡ true) (sym c.of_writer.ensures) (few-known (metas_of c.args.metas.now) c.loop-writer.writer c.requires.few)

pub loop-writer-preserved : goal.loop-writer-preserved
loop-writer-preserved c =
    let l = c.loop-writer in
    let as_many = ap (λ (h : Held). h.writers) c.self.view_is in
    let within : l.writer < length (metas_of c.args.metas.now) = simp length-map (omega (arith, as_many)) in
    chosen-on c.args.self.now.selected (selected_of c.self.inside.taken) (metas_of c.args.metas.now) l.writer l.choices.items _ _ (ap (λ (h : Held). h.selected) c.self.view_is) within
    c.in_ok-choose_of_writer.ensures c.of_writer.ensures l.invariant
