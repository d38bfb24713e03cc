use Rattle.std.proofs.Common.{◌≡◌, ℕ, suc, ◌+◌, ◌<◌, List, [], ◌∷◌, ◌++◌, take, get_or, length, ap, sym, ◌∙◌, arith}
use Rattle.std.proofs.lemmas.List.{take_more, length-take-le}
use Rattle.write_history.specs.declared.actor.Actor.TheVariants.{Lane}
use Rattle.write_history.specs.declared.mark.Mark.TheVariants.{Clean}
use Rattle.write_history.specs.declared.move_item.Move.{Move}
use Rattle.orders.specs.declared.entry.Entry.{Entry}
use Rattle.orders.specs.Order.{entries_from}
use Rattle.orders.proofs.reading.entries_of.Goals as goal

entries_more : (n : ℕ) (ms : List Move) (m : Move) → entries_from n (ms ++ m ∷ []) ≡ entries_from n ms ++ record { actor = m.actor; place = n + length ms } ∷ []
entries_more n [] m = let at : n ≡ n + 0 = omega arith in ap (λ (k : ℕ). record { actor = m.actor; place = k } ∷ []) at
entries_more n (x ∷ ms) m =
    let at : n + 1 + length ms ≡ n + suc (length ms) = omega arith in
    ap (λ (es : List Entry). record { actor = x.actor; place = n } ∷ es)
    (entries_more (n + 1) ms m ∙ ap (λ (k : ℕ). entries_from (n + 1) ms ++ record { actor = m.actor; place = k } ∷ []) at)

entries_next : (ms : List Move) (i place : ℕ) (d : Move) (old new : List Entry) → i < length ms → place ≡ i → old ≡ entries_from 1 (take i ms)
    → new ≡ old ++ record { actor = (get_or ms i d).actor; place = place + 1 } ∷ [] → new ≡ entries_from 1 (take (i + 1) ms)
entries_next ms i place d old new l at so_far one =
    let many = length-take-le i ms (omega arith) in
    let number : place + 1 ≡ 1 + length (take i ms) = omega arith in
    one ∙ ap (λ (k : ℕ). old ++ record { actor = (get_or ms i d).actor; place = k } ∷ []) number
    ∙ ap (λ (es : List Entry). es ++ record { actor = (get_or ms i d).actor; place = 1 + length (take i ms) } ∷ []) so_far
    ∙ sym (entries_more 1 (take i ms) (get_or ms i d)) ∙ ap (entries_from 1) (sym (take_more ms i d l))

pub loop-item-preserved : goal.loop-item-preserved
loop-item-preserved c =
    let now = c.loop-item.invariant in (
      entries_next c.args.moves.now c.loop-item.item-index c.loop-item.place
          (record { actor = Lane 0; mark = Clean }) c.loop-item.entries.items c.push.new.self.items c.loop-item-test.true now.1 now.0 c.in-Ok.ensures.items,
      ap (λ n. n + 1) now.1,
    )
