use Rattle.std.proofs.Common.{◌≡◌, ◌∙◌, false, length, sym, arith}
use Rattle.std.proofs.lemmas.Option.{slice_get_within}
use Rattle.diff_area.specs.Format.{is_free}
use Rattle.diff_map.specs.Groups.{map_at}
use Rattle.cow_volume.proofs.Following.{get_map}
use Rattle.cow_volume.proofs.Counting.{used_record}
use Rattle.cow_volume.proofs.TakingUp.{maps_same, maps_noted, all_unnoted, map_lacks, map_has_image, map_in_range, all_more}
use Rattle.cow_volume.proofs.resuming.note_copies.Goals as goal
use Rattle.cow_volume.proofs.resuming.note_copies.Goals.{then-not-is_free, else-not-is_free}

pub lacks_image-requires : goal.lacks_image-requires
lacks_image-requires g c = λ is_used.
    let its = c.slots-slot-end.ensures.valid.each c.loop-slot.slot c.record_at-row.result c.record_at-row.ensures (used_record c.record_at-row.result is_used) in
    let low = its.volume in
    let many = c.requires.lists in
    omega arith

pub note_for-requires-clause-volume : goal.note_for-requires-clause-volume
note_for-requires-clause-volume g c =
    let is_used : is_free c.record_at-row.result ≡ false = sym c.is_free.ensures ∙ c.if-not-is_free.true in
    let its = c.slots-slot-end.ensures.valid.each c.loop-slot.slot c.record_at-row.result c.record_at-row.ensures (used_record c.record_at-row.result is_used) in
    let low = its.volume in
    let number = c.loop-slot.invariant.up.number in
    omega arith

pub note_for-requires-clause-image : goal.note_for-requires-clause-image
note_for-requires-clause-image g c =
    let r = c.record_at-row.result in
    let is_used : is_free r ≡ false = sym c.is_free.ensures ∙ c.if-not-is_free.true in
    let its = c.slots-slot-end.ensures.valid.each c.loop-slot.slot r c.record_at-row.ensures (used_record r is_used) in
    let low = its.volume in
    let number = c.loop-slot.invariant.up.number in
    let at = get_map c.loop-slot.maps r.volume (omega arith) in
    map_has_image c.args.area.now.volumes c.args.area.now.records c.args.images.now c.loop-slot.slot (map_at c.loop-slot.maps r.volume) r (c.lacks_image.ensures.has c.if-lacks_image.false) is_used
    (c.loop-slot.invariant.up.each r.volume (map_at c.loop-slot.maps r.volume) at)

pub note_for-requires-clause-in_range : goal.note_for-requires-clause-in_range
note_for-requires-clause-in_range g c =
    let r = c.record_at-row.result in
    let is_used : is_free r ≡ false = sym c.is_free.ensures ∙ c.if-not-is_free.true in
    let its = c.slots-slot-end.ensures.valid.each c.loop-slot.slot r c.record_at-row.ensures (used_record r is_used) in
    let low = its.volume in
    let number = c.loop-slot.invariant.up.number in
    let at = get_map c.loop-slot.maps r.volume (omega arith) in
    map_in_range c.args.area.now.volumes c.args.area.now.records c.args.images.now c.loop-slot.slot (map_at c.loop-slot.maps r.volume) r c.slots-slot-end.ensures.valid c.record_at-row.ensures is_used
    (c.loop-slot.invariant.up.each r.volume (map_at c.loop-slot.maps r.volume) at)

pub note_for-requires-clause-lacks : goal.note_for-requires-clause-lacks
note_for-requires-clause-lacks g c =
    let r = c.record_at-row.result in
    let is_used : is_free r ≡ false = sym c.is_free.ensures ∙ c.if-not-is_free.true in
    let its = c.slots-slot-end.ensures.valid.each c.loop-slot.slot r c.record_at-row.ensures (used_record r is_used) in
    let low = its.volume in
    let number = c.loop-slot.invariant.up.number in
    let at = get_map c.loop-slot.maps r.volume (omega arith) in
    map_lacks c.args.area.now.volumes c.args.area.now.records c.args.images.now c.loop-slot.slot (map_at c.loop-slot.maps r.volume) r c.slots-slot-end.ensures.valid c.record_at-row.ensures is_used
    (c.loop-slot.invariant.up.each r.volume (map_at c.loop-slot.maps r.volume) at)

pub note_for-requires-clause-unnoted : goal.note_for-requires-clause-unnoted
note_for-requires-clause-unnoted g c =
    all_unnoted c.args.area.now.volumes c.args.area.now.records c.args.images.now c.loop-slot.slot (length c.args.area.now.volumes) c.loop-slot.maps c.record_at-row.result c.record_at-row.ensures
    c.loop-slot.invariant.up

pub loop-slot-preserved : goal.loop-slot-preserved
loop-slot-preserved g c =
    let r = c.record_at-row.result in
    let are = c.slots-slot-end.ensures.valid in
    let has = all_more c.args.area.now.records c.args.images.now c.loop-slot.slot r c.loop-slot.invariant.has c.record_at-row.ensures (c.lacks_image.ensures.has c.if-lacks_image.false) in
    elim c.if-not-is_free.branch [
      | then-not-is_free w ↦ (
          let is_used : is_free r ≡ false = sym c.is_free.ensures ∙ w.if-not-is_free.true in
          let its = are.each c.loop-slot.slot r c.record_at-row.ensures (used_record r is_used) in
          let low = its.volume in
          let number = c.loop-slot.invariant.up.number in
          rw w.maps-is (record {
            up = maps_noted c.args.area.now.volumes c.args.area.now.records c.args.images.now c.loop-slot.slot
                (length c.args.area.now.volumes) c.loop-slot.maps w.note_for.new.self r are c.record_at-row.ensures is_used
                c.loop-slot.invariant.up (omega arith) w.note_for.ensures w.images-facts.ensures.valid;
            has = has;
          }))
      | else-not-is_free w ↦ rw w.maps-is (record {
        up = maps_same c.args.area.now.volumes c.args.area.now.records c.args.images.now c.loop-slot.slot (length c.args.area.now.volumes) c.loop-slot.maps r c.record_at-row.ensures
            (sym c.is_free.ensures ∙ w.if-not-is_free.false) c.loop-slot.invariant.up;
        has = has;
      })
    ]

pub returns-clause-all : goal.returns-clause-all
returns-clause-all g c = λ slot r at.
    let inside = slice_get_within c.args.area.now.records slot r at in
    let test = c.loop-slot-test.false in
    let end = c.slots-slot-end.ensures.slots in
    c.loop-slot.invariant.has slot r (omega arith) at
