use Rattle.std.proofs.Common.{◌≡◌, ◌∙◌, Some, None, not, length, ap, refl, sym, subst}
use Rattle.diff_map.specs.declared.copied.Copied.{Copied}
use Rattle.diff_map.specs.Copies.{copied_at}
use Rattle.diff_map.specs.Links.{LinksValue}
use Rattle.diff_map.proofs.LinkedCopies.{value_after, value_at, OutRow, KeepsLinks-taken, KeepsLinks-oldest, block_read}
use Rattle.diff_map.proofs.links.Links.take_out.Goals as goal

pub next_above-above-requires-clause-in_range : goal.next_above-above-requires-clause-in_range
next_above-above-requires-clause-in_range c =
    let had = subst (λ (l : LinksValue). (copied : Copied) × (copied_at l.copies c.args.slot ≡ Some copied)) (sym c.self.view_is) c.requires in
    let low = (OutRow c.self.inside.newest.items c.self.inside.rows.items c.args.slot c.index-row.result.now had.0 c.self.invariant had.1 c.index-row.ensures).1 in
    rw c.deref-3.ensures.value low

pub lead-requires-clause-in_range : goal.lead-requires-clause-in_range
lead-requires-clause-in_range c =
    let had = subst (λ (l : LinksValue). (copied : Copied) × (copied_at l.copies c.args.slot ≡ Some copied)) (sym c.self.view_is) c.requires in
    (OutRow c.self.inside.newest.items c.self.inside.rows.items c.args.slot c.index-row.result.now had.0 c.self.invariant had.1 c.index-row.ensures).1

pub invariant_of-self : goal.invariant_of-self
invariant_of-self c =
    let had = subst (λ (l : LinksValue). (copied : Copied) × (copied_at l.copies c.args.slot ≡ Some copied)) (sym c.self.view_is) c.requires in
    let absent = c.is_none.ensures ∙ ap not c.if-is_none.true in
    KeepsLinks-oldest c.self.inside.newest.items c.self.inside.rows.items c.args.slot c.index-row.result.now had.0 c.self.invariant had.1 c.index-row.ensures
    (rw c.deref.ensures.value at (c.older_above.ensures.none absent))

pub invariant_of-self-2 : goal.invariant_of-self-2
invariant_of-self-2 c =
    let had = subst (λ (l : LinksValue). (copied : Copied) × (copied_at l.copies c.args.slot ≡ Some copied)) (sym c.self.view_is) c.requires in
    let next = rw c.deref-4.ensures.value at c.next_above-above.ensures in
    rw (c.lead.ensures.newest, c.lead.ensures.rows)
    (KeepsLinks-taken c.self.inside.newest.items c.self.inside.rows.items c.args.slot c.index-row.result.now had.0 c.self.invariant had.1 c.index-row.ensures c.next_above-above.result next)

pub returns-clause-block : goal.returns-clause-block
returns-clause-block c =
    let row = c.index-row.result.now in
    rw (← c.self.view_is) (λ copied had. block_read c.self.inside.newest.items c.self.inside.rows.items c.args.slot row copied c.self.invariant had c.index-row.ensures)

pub returns-clause-links : goal.returns-clause-links
returns-clause-links c =
    let row = c.index-row.result.now in
    rw (← c.self.view_is)
    (value_after c.self.inside.newest.items c.lead.new.newest.items c.self.inside.rows.items c.lead.new.rows.items row.block c.args.slot
    (record { block = row.block; set = 0; older = row.older }) c.next_above-above.result row.older None c.lead.ensures.newest c.lead.ensures.rows refl)

pub returns-then-is_none-clause-links : goal.returns-then-is_none-clause-links
returns-then-is_none-clause-links c =
    let row = c.index-row.result.now in
    rw (← c.self.view_is) (value_at (length c.self.inside.newest.items) c.self.inside.rows.items c.args.slot (record { block = row.block; set = 0; older = row.older }) None refl)
