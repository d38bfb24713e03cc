use Rattle.std.proofs.Common.{◌≡◌, ℕ, ◌+◌, ◌<◌, List, [], ◌∷◌, ◌++◌, take, get_or, length, ap, sym, ◌∙◌}
use Rattle.std.proofs.lemmas.List.{map-append, take_more}
use Rattle.write_history.specs.declared.actor.Actor.TheVariants.{Lane}
use Rattle.write_history.specs.declared.mark.Mark.TheVariants.{Clean}
use Rattle.write_history.specs.declared.move_item.Move.{Move}
use Rattle.orders.specs.Again.{without_marks}
use Rattle.orders.proofs.telling.unmarked.Goals as goal

clean_next : (ms : List Move) (i : ℕ) (d : Move) (old new : List Move) → i < length ms → old ≡ without_marks (take i ms)
    → new ≡ old ++ record { actor = (get_or ms i d).actor; mark = Clean } ∷ [] → new ≡ without_marks (take (i + 1) ms)
clean_next ms i d old new l so_far one =
    one ∙ ap (λ (xs : List Move). xs ++ record { actor = (get_or ms i d).actor; mark = Clean } ∷ []) so_far
    ∙ sym (ap without_marks (take_more ms i d l) ∙ map-append (λ (m : Move). record m { mark = Clean }) (take i ms) (get_or ms i d ∷ []))

pub loop-item-preserved : goal.loop-item-preserved
loop-item-preserved c =
    clean_next c.args.moves.now c.loop-item.item-index (record { actor = Lane 0; mark = Clean }) c.loop-item.clean.items c.push.new.self.items c.loop-item-test.true c.loop-item.invariant
    c.in-Ok.ensures.items
