use Rattle.std.proofs.Common.{◌≡◌, ◌<◌, Some, None, sym, subst, arith}
use Rattle.std.specs.Prelude.{slice_get}
use Rattle.diff_map.specs.declared.row.Row.{Row}
use Rattle.diff_map.specs.Copies.{HasCopy, copy_of}
use Rattle.diff_map.specs.Links.{LinksValue, link_from}
use Rattle.diff_map.proofs.LinkedCopies.{unused_from, inside_from, lacks_from, value_after, copy_in_used}
use Rattle.diff_map.proofs.Relinked.{are_relinked, KeepsLinks-noted}
use Rattle.diff_map.proofs.links.Links.note.Goals as goal

pub invariant_of-self : goal.invariant_of-self
invariant_of-self c =
    let newest = c.self.inside.newest.items in
    let rows = c.self.inside.rows.items in
    let unnoted = subst (λ (l : LinksValue). slice_get l.copies c.args.slot ≡ Some None) (sym c.self.view_is) c.requires.unnoted in
    let lacks = subst (λ (l : LinksValue). HasCopy l.copies c.args.set c.args.block → ⊥) (sym c.self.view_is) c.requires.lacks in
    let low = subst (λ (l : LinksValue). c.args.block < l.blocks) (sym c.self.view_is) c.requires.in_range in
    let next = rw c.deref-2.ensures.value at c.next_above-above.ensures in
    let unused = unused_from rows c.args.slot unnoted in
    let narrow = c.ranges.set.fits in
    rw (c.lead.ensures.newest, c.lead.ensures.rows, c.link_from-older.ensures, c.deref-4.ensures.value, c.deref-5.ensures.value)
    (KeepsLinks-noted newest _ rows _ c.args.block c.args.set c.args.slot c.next_above-above.result c.self.invariant
    (are_relinked newest rows c.args.block c.args.slot c.args.set
    (record { block = c.args.block; set = c.args.set; older = link_from newest rows c.args.block c.next_above-above.result }) c.next_above-above.result c.args.slot
    (inside_from rows c.args.slot unnoted) low (omega arith) next)
    next low unused c.requires.above_zero (omega arith) (lacks_from rows c.args.set c.args.block lacks))

pub returns : goal.returns
returns c =
    let rows = c.self.inside.rows.items in
    let new : Row = record { block = c.args.block; set = c.args.set; older = c.link_from-older.result } in
    rw (← c.self.view_is)
    (value_after c.self.inside.newest.items c.lead.new.newest.items rows c.lead.new.rows.items c.args.block c.args.slot new c.next_above-above.result c.args.slot
    (Some (copy_of c.args.set c.args.block)) c.lead.ensures.newest c.lead.ensures.rows (copy_in_used new c.requires.above_zero))
