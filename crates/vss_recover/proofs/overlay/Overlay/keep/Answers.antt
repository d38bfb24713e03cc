use Rattle.std.proofs.Common.{◌∙◌, ap, map, rules}
use Rattle.std.proofs.lemmas.Fn.{filter_same}
use Rattle.diff_area.specs.AreaValue.{AreaValue}
use Rattle.diff_area.specs.Format.{is_free}
use Rattle.diff_map.specs.declared.entry.Entry.{Entry}
use Rattle.cow_volume.specs.Calls.{is_among}
use Rattle.vss_recover.proofs.UsedSlots.{overlay_kept}
use Rattle.vss_recover.proofs.overlay.Overlay.keep.Goals as goal

pub invariant_of-self : goal.invariant_of-self
invariant_of-self g c =
    let left = filter_same _ (λ (e : Entry). is_among e.set c.args.images.now) _ (λ x b f k. search rules) _ _ c.retain.ensures.filtered in
    rw c.free_gone.ensures.area
    (overlay_kept c.self.inside.area.volumes c.self.inside.area.records c.self.inside.entries c.retain.new.self c.self.inside.pool c.free_gone.new.pool c.args.images.now c.self.invariant
    c.slots-valid.ensures.valid left c.retain.ensures.capacity
    (c.free_gone.ensures.pool ∙ ap (λ (a : AreaValue _). map is_free a.records) c.free_gone.ensures.area))
