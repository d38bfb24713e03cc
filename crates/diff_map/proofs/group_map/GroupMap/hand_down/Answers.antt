use Rattle.std.proofs.Common.{refl, length, ◌∙◌, ◌<◌, List, set, sym, ap, subst}
use Rattle.diff_map.specs.Groups.{IsOnlyAt, IsUnnoted}
use Rattle.diff_map.specs.Copies.{MapValue}
use Rattle.diff_map.proofs.GroupChanges.{is_at, copy_low, unnoted_popped, only_twice}
use Rattle.diff_map.proofs.group_map.GroupMap.hand_down.Goals as goal

pub note_for-requires-clause-in_range : goal.note_for-requires-clause-in_range
note_for-requires-clause-in_range c =
    let same = c.in_default.ensures.none refl in
    let at = is_at c.self.invariant (c.self.view_is ∙ sym same) (subst (λ (ms : List MapValue). c.args.v < length ms) (sym same) c.requires.volume) c.index-volume.ensures in
    let popped = c.in-Some-pop_at.ensures.some in
    subst (λ (m : MapValue). c.in-Some-pop_at.entry.block < m.blocks) (sym popped.gone) (copy_low at c.in-Some-pop_at.entry.slot _ c.in-Some-pop_at.entry.block popped.noted)

pub note_for-requires-clause-unnoted : goal.note_for-requires-clause-unnoted
note_for-requires-clause-unnoted c =
    let same = c.in_default.ensures.none refl in
    let at = is_at c.self.invariant (c.self.view_is ∙ sym same) (subst (λ (ms : List MapValue). c.args.v < length ms) (sym same) c.requires.volume) c.index-volume.ensures in
    let popped = c.in-Some-pop_at.ensures.some in
    subst (λ (maps : List MapValue). IsUnnoted maps c.in-Some-pop_at.entry.slot) (sym (c.pop_at.ensures.others ∙ ap (λ (m : MapValue). set c.lower.new.self c.args.v m) popped.gone))
    (unnoted_popped at c.in-Some-pop_at.entry.slot _ c.in-Some-pop_at.entry.block popped.noted)

pub returns-then-kept-clause-others : goal.returns-then-kept-clause-others
returns-then-kept-clause-others c =
    only_twice c.args.self.now c.pop_at.new.self c.note_for.new.self c.args.v _
    (subst (λ (ms : List MapValue). IsOnlyAt c.args.v ms c.pop_at.new.self) (c.in_default.ensures.none refl) c.pop_at.ensures.others) c.note_for.ensures c.requires.volume
