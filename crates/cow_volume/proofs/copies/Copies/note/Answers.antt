use Rattle.std.proofs.Common.{◌≡◌, ◌<◌, ◌∙◌, ℕ, Some, refl, ap, sym, subst}
use Rattle.std.proofs.lemmas.Option.{slice_get_within, get_or_from_slice_get}
use Rattle.diff_area.specs.Format.{free}
use Rattle.diff_map.specs.Copies.{newest, copy_of}
use Rattle.diff_map.specs.Groups.{map_at, with_row}
use Rattle.cow_volume.proofs.Following.{valid_now}
use Rattle.cow_volume.proofs.Ties.{has_map, tied_at, lacks_some, lacks_record, lacks_row, unnoted_all, free_slot_is, taken_lowest, tied_noted, newest_above, noted_lacks}
use Rattle.cow_volume.proofs.MakingRoom.{note_is}
use Rattle.cow_volume.proofs.copies.Copies.note.Goals as goal

pub newest-set-requires : goal.newest-set-requires
newest-set-requires g c =
    let within = rw (← c.self.view_is) at c.requires.volume in
    let m = map_at c.self.inside.maps c.args.v in
    let at = tied_at _ _ _ _ c.args.v c.self.invariant within in
    let lacks = rw (← c.self.view_is) at c.requires.lacks in
    let some = lacks_some c.self.inside.area.records c.args.v m.images c.args.block (noted_lacks c.self.inside.area.records c.self.inside.maps c.args.v c.args.block m at lacks) in
    rw c.images.ensures.images some

pub note-requires-clause-image : goal.note-requires-clause-image
note-requires-clause-image g c =
    let within = rw (← c.self.view_is) at c.requires.volume in
    let m = map_at c.self.inside.maps c.args.v in
    let at = tied_at _ _ _ _ c.args.v c.self.invariant within in
    let lacks = rw (← c.self.view_is) at c.requires.lacks in
    lacks_some c.self.inside.area.records c.args.v m.images c.args.block (noted_lacks c.self.inside.area.records c.self.inside.maps c.args.v c.args.block m at lacks)

pub note-requires-clause-in_range : goal.note-requires-clause-in_range
note-requires-clause-in_range g c =
    let within = rw (← c.self.view_is) at c.requires.volume in
    let m = map_at c.self.inside.maps c.args.v in
    let at = tied_at _ _ _ _ c.args.v c.self.invariant within in
    let low = rw (← c.self.view_is) at c.requires.in_range in
    subst (λ (n : ℕ). c.args.block < n) (get_or_from_slice_get c.self.inside.area.volumes c.args.v m.blocks 0 (c.self.invariant.each c.args.v m at).blocks) low

pub note-requires-clause-lacks : goal.note-requires-clause-lacks
note-requires-clause-lacks g c =
    let within = rw (← c.self.view_is) at c.requires.volume in
    let m = map_at c.self.inside.maps c.args.v in
    let at = tied_at _ _ _ _ c.args.v c.self.invariant within in
    let lacks = rw (← c.self.view_is) at c.requires.lacks in
    lacks_row c.self.inside.area.records m.copies c.args.v m.images c.args.block (c.self.invariant.each c.args.v m at).copies
    (noted_lacks c.self.inside.area.records c.self.inside.maps c.args.v c.args.block m at lacks)

pub note-requires-clause-unnoted : goal.note-requires-clause-unnoted
note-requires-clause-unnoted g c =
    let low = rw (← c.self.view_is) at c.requires.lowest in
    unnoted_all _ _ _ _ c.args.slot c.self.invariant (free_slot_is c.self.inside.area.records c.args.slot low)

pub set_record-requires-clause-slot : goal.set_record-requires-clause-slot
set_record-requires-clause-slot g c =
    let low = rw (← c.self.view_is) at c.requires.lowest in
    slice_get_within c.self.inside.area.records c.args.slot free (free_slot_is c.self.inside.area.records c.args.slot low)

pub set_record-requires-clause-used : goal.set_record-requires-clause-used
set_record-requires-clause-used g c =
    let within = rw (← c.self.view_is) at c.requires.volume in
    let m = map_at c.self.inside.maps c.args.v in
    let at = tied_at _ _ _ _ c.args.v c.self.invariant within in
    let lacks = rw (← c.self.view_is) at c.requires.lacks in
    let low = rw (← c.self.view_is) at c.requires.in_range in
    let some = lacks_some c.self.inside.area.records c.args.v m.images c.args.block (noted_lacks c.self.inside.area.records c.self.inside.maps c.args.v c.args.block m at lacks) in
    let above = newest_above m.images c.images.ensures.valid.images some in
    let set_is : c.newest-set.result ≡ newest m.images = c.newest-set.ensures ∙ ap newest c.images.ensures.images in
    record { set = subst (λ (n : ℕ). 0 < n) (sym set_is) above; volume = within; block = low }

pub set_record-requires-clause-once : goal.set_record-requires-clause-once
set_record-requires-clause-once g c =
    let within = rw (← c.self.view_is) at c.requires.volume in
    let m = map_at c.self.inside.maps c.args.v in
    let at = tied_at _ _ _ _ c.args.v c.self.invariant within in
    let lacks = rw (← c.self.view_is) at c.requires.lacks in
    let set_is : c.newest-set.result ≡ newest m.images = c.newest-set.ensures ∙ ap newest c.images.ensures.images in
    λ other h. absurd (lacks_record c.self.inside.area.records c.args.v m.images c.args.block other (noted_lacks c.self.inside.area.records c.self.inside.maps c.args.v c.args.block m at lacks)
    (rw set_is at h))

pub invariant_of-self : goal.invariant_of-self
invariant_of-self g c =
    let within = rw (← c.self.view_is) at c.requires.volume in
    let m = map_at c.self.inside.maps c.args.v in
    let at = tied_at _ _ _ _ c.args.v c.self.invariant within in
    let lacks = rw (← c.self.view_is) at c.requires.lacks in
    let low = rw (← c.self.view_is) at c.requires.lowest in
    let some = lacks_some c.self.inside.area.records c.args.v m.images c.args.block (noted_lacks c.self.inside.area.records c.self.inside.maps c.args.v c.args.block m at lacks) in
    let set_is : c.newest-set.result ≡ newest m.images = c.newest-set.ensures ∙ ap newest c.images.ensures.images in
    let pooled = rw (← c.self.invariant.pool_is) at low in
    let taken = taken_lowest c.take-taken.result c.self.inside.pool c.take-taken.new.self c.args.slot pooled c.take-taken.ensures.lowest c.take-taken.ensures.taken c.take-taken.ensures.none in
    let n = with_row c.args.slot (Some (copy_of (newest m.images) c.args.block)) m in
    let valid = valid_now c.self.inside.maps c.note.new.self c.args.v n (has_map _ _ _ _ c.args.v c.self.invariant within) c.note.ensures c.images-facts.ensures.valid in
    let tied = tied_noted c.self.inside.area.volumes c.self.inside.area.records c.self.inside.maps c.self.inside.pool c.take-taken.new.self c.args.v c.args.slot
    (newest m.images) c.args.block m n c.self.invariant at (free_slot_is c.self.inside.area.records c.args.slot low) (newest_above m.images c.images.ensures.valid.images some) refl refl valid taken in
    rw (c.set_record.ensures, set_is, c.note.ensures) tied

pub returns : goal.returns
returns g c =
    let within = rw (← c.self.view_is) at c.requires.volume in
    let m = map_at c.self.inside.maps c.args.v in
    let at = tied_at _ _ _ _ c.args.v c.self.invariant within in
    let set_is : c.newest-set.result ≡ newest m.images = c.newest-set.ensures ∙ ap newest c.images.ensures.images in
    let n = with_row c.args.slot (Some (copy_of (newest m.images) c.args.block)) m in
    let is = note_is c.self.inside.area c.set_record.new.self c.self.inside.maps c.args.v c.args.block c.args.slot c.newest-set.result m n at refl set_is c.set_record.ensures in
    rw (← c.self.view_is, c.note.ensures) is
