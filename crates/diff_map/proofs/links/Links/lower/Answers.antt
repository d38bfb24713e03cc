use Rattle.std.proofs.Common.{ℕ, ◌≡◌, ◌<◌, ◌∙◌, Some, Option, None, refl, sym, subst, false}
use Rattle.std.specs.Prelude.{IsNone, is_some}
use Rattle.diff_map.specs.declared.copied.Copied.{Copied}
use Rattle.diff_map.specs.Copies.{copied_at}
use Rattle.diff_map.specs.Links.{LinksValue}
use Rattle.diff_map.proofs.LinkedCopies.{KeepsLinks-lower, lowered_is}
use Rattle.diff_map.proofs.links.Links.lower.Goals as goal

none_is : (o : Option ℕ) → is_some o ≡ false → IsNone o
none_is None e = refl
none_is (Some x) e = cc

pub invariant_of-self : goal.invariant_of-self
invariant_of-self c =
    let had = subst (λ (l : LinksValue). (copied : Copied) × (copied_at l.copies c.args.slot ≡ Some copied) × (c.args.set < copied.set)) (sym c.self.view_is) c.requires.below in
    let absent = none_is c.older_above.result (sym c.is_some.ensures ∙ c.if-is_some.false) in
    KeepsLinks-lower c.self.inside.newest.items c.self.inside.rows.items c.args.slot c.args.set c.index-row.result.now had.0 c.self.invariant had.1 c.index-row.ensures c.requires.above_zero had.2
    (rw c.deref.ensures.value at (c.older_above.ensures.none absent))

pub returns-clause-some : goal.returns-clause-some
returns-clause-some c =
    let had = subst (λ (l : LinksValue). (copied : Copied) × (copied_at l.copies c.args.slot ≡ Some copied) × (c.args.set < copied.set)) (sym c.self.view_is) c.requires.below in
    let absent = none_is c.older_above.result (sym c.is_some.ensures ∙ c.if-is_some.false) in
    rw (← c.self.view_is)
    (lowered_is c.self.inside.newest.items c.self.inside.rows.items c.args.slot c.args.set c.index-row.result.now had.0 c.self.invariant had.1 c.index-row.ensures c.requires.above_zero had.2
    (rw c.deref.ensures.value at (c.older_above.ensures.none absent)))
