use Rattle.std.proofs.Common.{refl, Some, sym, ◌∙◌}
use Rattle.std.proofs.lemmas.Bool.{false≢true}
use Rattle.diff_map.specs.Rules.{merged}
use Rattle.diff_map.proofs.Renewing.{renewed_map, merged_all, handing_range, handing_unnoted, handing_frees, handing_moves, handing_smaller}
use Rattle.diff_map.proofs.diff_map.DiffMap.hand_down.Goals as goal

pub copies-preserved-then-has : goal.copies-preserved-then-has
copies-preserved-then-has c = rw c.give.ensures
    (handing_frees c.args.self.now c.copies.self c.pop.new.self c.args.pool.now c.copies.pool c.args.older c.args.set c.in-Some.entry c.requires.below c.images-facts.ensures.valid c.copies.invariant
    c.in-Some.ensures.some c.requires.taken (c.has.ensures.0 c.if-has.true))

pub note_for-requires-clause-in_range : goal.note_for-requires-clause-in_range
note_for-requires-clause-in_range c = handing_range c.args.self.now c.copies.self c.pop.new.self c.args.pool.now c.copies.pool c.args.older c.args.set c.in-Some.entry c.requires.below
    c.images-facts.ensures.valid c.copies.invariant c.in-Some.ensures.some

pub note_for-requires-clause-unnoted : goal.note_for-requires-clause-unnoted
note_for-requires-clause-unnoted c = handing_unnoted c.args.self.now c.copies.self c.pop.new.self c.args.pool.now c.copies.pool c.args.older c.args.set c.in-Some.entry c.requires.below
    c.images-facts.ensures.valid c.copies.invariant c.in-Some.ensures.some

pub copies-smaller : goal.copies-smaller
copies-smaller c = rw c.note_for.ensures
    (handing_smaller c.args.self.now c.copies.self c.pop.new.self c.args.pool.now c.copies.pool c.args.older c.args.set c.in-Some.entry c.requires.below c.images-facts.ensures.valid
    c.copies.invariant c.in-Some.ensures.some)

pub copies-preserved : goal.copies-preserved
copies-preserved c = rw c.note_for.ensures
    (handing_moves c.args.self.now c.copies.self c.pop.new.self c.args.pool.now c.copies.pool c.args.older c.args.set c.in-Some.entry c.requires.below c.images-facts.ensures.valid c.copies.invariant
    c.in-Some.ensures.some (λ has. false≢true (sym c.if-has.false ∙ c.has.ensures.1 has)))

pub returns-clause-map : goal.returns-clause-map
returns-clause-map c =
    let last = c.in_default.ensures.none refl in
    last.0 ∙ renewed_map (merged c.args.self.now.copies (Some c.args.older) c.args.set) c.args.self.now c.copies.self c.args.pool.now c.copies.pool c.copies.invariant
    (merged_all c.args.self.now.copies c.copies.self.copies c.args.pool.now c.copies.pool c.args.older c.args.set c.copies.invariant.renews last.1)
