use Rattle.std.proofs.Common.{ℕ, ◌<◌, ◌∙◌, List, ap, sym, subst, refl, map, arith, inl, inr, slice_set, ◌≡◌}
use Rattle.std.specs.Prelude.{slice_index, Ok}
use Rattle.std.proofs.lemmas.Bool.{false≢true}
use Rattle.std.proofs.lemmas.Result.{err_from_is_err_and}
use Rattle.std.proofs.lemmas.Option.{slice_get_within}
use Rattle.block_data.specs.BlockBytes.{payload_bytes}
use Rattle.slot_pool.specs.Slots.{IsLowestFree}
use Rattle.diff_area.specs.Format.{free, is_free}
use Rattle.diff_area.specs.declared.table_record.Record.{Record}
use Rattle.cow_volume.specs.CopiesAfter.{IsAreaPut, IsCopyBroken}
use Rattle.cow_volume.specs.Parts.{group_of}
use Rattle.cow_volume.proofs.Ties.{free_slot_is}
use Rattle.cow_volume.proofs.DeviceCalls.{device_at, device_within, fits_set}
use Rattle.cow_volume.proofs.GroupWrites.{not_copied, not_overwritten, put_first, lacks_still, noted_copies, blocks_index}
use Rattle.cow_volume.proofs.cow_group.CowGroup.write_first.Goals as goal

pub unreachable-requires : goal.unreachable-requires
unreachable-requires g c =
    let room = rw (← c.self.view_is) at c.requires.room in
    false≢true (sym room ∙ c.in_default.ensures.none.0 refl)

pub copy_block-requires-clause-block : goal.copy_block-requires-clause-block
copy_block-requires-clause-block g c =
    let within = rw (← c.self.view_is) at c.requires.volume in
    let low = rw (← c.self.view_is) at c.requires.in_range in
    let devices = c.self.inside.devices.items in
    let copies = c.self.inside.copies in
    let d = c.index_mut-device.result.now in
    let at = device_at g.D.Device.size devices copies.area.volumes c.args.v d c.self.invariant within c.index_mut-device.ensures.value in
    device_within g.D.Device.size devices copies.area.volumes c.args.v c.args.block d c.self.invariant at low

pub copy_block-requires-clause-slot : goal.copy_block-requires-clause-slot
copy_block-requires-clause-slot g c =
    slice_get_within c.self.inside.copies.area.records c.in-Some.slot free (free_slot_is c.self.inside.copies.area.records c.in-Some.slot c.in-Some.ensures.lowest)

pub invariant_of-self : goal.invariant_of-self
invariant_of-self g c =
    let within = rw (← c.self.view_is) at c.requires.volume in
    let low = rw (← c.self.view_is) at c.requires.in_range in
    let devices = c.self.inside.devices.items in
    let copies = c.self.inside.copies in
    let d = c.index_mut-device.result.now in
    let at = device_at g.D.Device.size devices copies.area.volumes c.args.v d c.self.invariant within c.index_mut-device.ensures.value in
    fits_set g.D.Device.size devices copies.area.volumes c.args.v d c.copy_block.new.device c.self.invariant at c.in_err-copy_block.ensures.device_on.size_is
    ∙ sym c.in_err-copy_block.ensures.area_on.volumes

pub returns-in_err-copy_block-clause-put : goal.returns-in_err-copy_block-clause-put
returns-in_err-copy_block-clause-put g c =
    let within = rw (← c.self.view_is) at c.requires.volume in
    let low = rw (← c.self.view_is) at c.requires.in_range in
    let devices = c.self.inside.devices.items in
    let copies = c.self.inside.copies in
    let d = c.index_mut-device.result.now in
    let at = device_at g.D.Device.size devices copies.area.volumes c.args.v d c.self.invariant within c.index_mut-device.ensures.value in
    let p = err_from_is_err_and c.from_residual.result c.from_residual.ensures.1 in
    let is = not_copied g.D.Device devices copies c.args.v d
    (record { block = c.args.block; bytes = payload_bytes c.args.payload.now }) low at c.copy_block.new.device c.copy_block.new.copies _ c.in_err-copy_block.ensures in
    rw (p.1, p.2, ← c.self.view_is) is

pub put_block-requires : goal.put_block-requires
put_block-requires g c =
    let within = rw (← c.self.view_is) at c.requires.volume in
    let low = rw (← c.self.view_is) at c.requires.in_range in
    let devices = c.self.inside.devices.items in
    let copies = c.self.inside.copies in
    let d = c.index_mut-device.result.now in
    let at = device_at g.D.Device.size devices copies.area.volumes c.args.v d c.self.invariant within c.index_mut-device.ensures.value in
    let there = device_within g.D.Device.size devices copies.area.volumes c.args.v c.args.block d c.self.invariant at low in
    let same = c.in_ok-copy_block.ensures.device_on.size_is in
    omega arith

pub invariant_of-self-in_err-put_block : goal.invariant_of-self-in_err-put_block
invariant_of-self-in_err-put_block g c =
    let within = rw (← c.self.view_is) at c.requires.volume in
    let low = rw (← c.self.view_is) at c.requires.in_range in
    let devices = c.self.inside.devices.items in
    let copies = c.self.inside.copies in
    let d = c.index_mut-device.result.now in
    let at = device_at g.D.Device.size devices copies.area.volumes c.args.v d c.self.invariant within c.index_mut-device.ensures.value in
    let copied = c.in_ok-copy_block.ensures in
    fits_set g.D.Device.size devices copies.area.volumes c.args.v d c.put_block.new.device c.self.invariant at (c.in_err-put_block.ensures.0.size_is ∙ copied.device_on.size_is)
    ∙ sym copied.area_on.volumes

pub returns-in_err-put_block-clause-put : goal.returns-in_err-put_block-clause-put
returns-in_err-put_block-clause-put g c =
    let within = rw (← c.self.view_is) at c.requires.volume in
    let low = rw (← c.self.view_is) at c.requires.in_range in
    let devices = c.self.inside.devices.items in
    let copies = c.self.inside.copies in
    let d = c.index_mut-device.result.now in
    let at = device_at g.D.Device.size devices copies.area.volumes c.args.v d c.self.invariant within c.index_mut-device.ensures.value in
    let p = err_from_is_err_and c.from_residual-in_err-put_block.result c.from_residual-in_err-put_block.ensures.1 in
    let failed = c.in_err-put_block.ensures in
    let is = not_overwritten g.D.Device devices copies c.args.v d
    (record { block = c.args.block; bytes = payload_bytes c.args.payload.now }) low at c.in-Some.slot c.in-Some.ensures.lowest c.slots-facts.ensures.fits c.slots-facts.ensures.whole
    c.copy_block.new.device c.put_block.new.device c.copy_block.new.copies c.in_ok-copy_block.ensures _ failed.0 failed.1 failed.2 in
    rw (p.1, p.2, ← c.self.view_is) is

pub note-requires-clause-lacks : goal.note-requires-clause-lacks
note-requires-clause-lacks g c =
    let lacks = rw (← c.self.view_is) at c.requires.lacks in
    let copied = c.in_ok-copy_block.ensures in
    lacks_still c.self.inside.copies c.copy_block.new.copies c.args.v c.args.block copied.area_on.records copied.area_on.images lacks

pub note-requires-clause-in_range : goal.note-requires-clause-in_range
note-requires-clause-in_range g c =
    let low = rw (← c.self.view_is) at c.requires.in_range in
    let volumes = c.in_ok-copy_block.ensures.area_on.volumes in
    let same = blocks_index c.self.inside.copies.area.volumes c.args.v ∙ ap (λ (ns : List ℕ). slice_index ns c.args.v) (sym volumes) in
    subst (λ (n : ℕ). c.args.block < n) same low

pub note-requires-clause-lowest : goal.note-requires-clause-lowest
note-requires-clause-lowest g c =
    subst (λ (rs : List Record). IsLowestFree (map is_free rs) c.in-Some.slot) (sym c.in_ok-copy_block.ensures.area_on.records) c.in-Some.ensures.lowest

pub invariant_of-self-2 : goal.invariant_of-self-2
invariant_of-self-2 g c =
    let within = rw (← c.self.view_is) at c.requires.volume in
    let low = rw (← c.self.view_is) at c.requires.in_range in
    let devices = c.self.inside.devices.items in
    let copies = c.self.inside.copies in
    let d = c.index_mut-device.result.now in
    let at = device_at g.D.Device.size devices copies.area.volumes c.args.v d c.self.invariant within c.index_mut-device.ensures.value in
    let copied = c.in_ok-copy_block.ensures in
    fits_set g.D.Device.size devices copies.area.volumes c.args.v d c.put_block.new.device c.self.invariant at (c.in_ok-put_block.ensures.0.size_is ∙ copied.device_on.size_is)
    ∙ sym (ap (λ x. x.area.volumes) c.note.ensures ∙ copied.area_on.volumes)

pub returns-clause-put : goal.returns-clause-put
returns-clause-put g c =
    let within = rw (← c.self.view_is) at c.requires.volume in
    let low = rw (← c.self.view_is) at c.requires.in_range in
    let devices = c.self.inside.devices.items in
    let copies = c.self.inside.copies in
    let d = c.index_mut-device.result.now in
    let at = device_at g.D.Device.size devices copies.area.volumes c.args.v d c.self.invariant within c.index_mut-device.ensures.value in
    let lacks = rw (← c.self.view_is) at c.requires.lacks in
    let is = put_first g.D.Device devices copies c.args.v d
    (record { block = c.args.block; bytes = payload_bytes c.args.payload.now }) low at c.in-Some.slot c.in-Some.ensures.lowest c.slots-facts.ensures.fits c.slots-facts.ensures.whole
    c.copy_block.new.device c.put_block.new.device c.copy_block.new.copies c.in_ok-copy_block.ensures c.note.new.self lacks c.in_ok-put_block.ensures.0 c.in_ok-put_block.ensures.1 c.note.ensures in
    rw (← c.self.view_is) is

pub returns-in_err-copy_block-clause-area : goal.returns-in_err-copy_block-clause-area
returns-in_err-copy_block-clause-area g c =
    let p = err_from_is_err_and c.from_residual.result c.from_residual.ensures.1 in
    let broken : IsCopyBroken g.D.Device.told (group_of c.self.inside.devices.items c.self.inside.copies)
    (group_of (slice_set c.self.inside.devices.items c.args.v c.copy_block.new.device) c.copy_block.new.copies) c.args.v c.args.block =
    record { slots = inl c.in_err-copy_block.ensures.area_on.device.tells; records = c.in_err-copy_block.ensures.area_on.records } in
    rw (p.1, ← c.self.view_is) broken

pub returns-in_err-put_block-clause-area : goal.returns-in_err-put_block-clause-area
returns-in_err-put_block-clause-area g c =
    let lacks = rw (← c.self.view_is) at c.requires.lacks in
    let p = err_from_is_err_and c.from_residual-in_err-put_block.result c.from_residual-in_err-put_block.ensures.1 in
    let copied = c.in_ok-copy_block.ensures in
    let broken : IsCopyBroken g.D.Device.told (group_of c.self.inside.devices.items c.self.inside.copies)
    (group_of (slice_set c.self.inside.devices.items c.args.v c.put_block.new.device) c.copy_block.new.copies) c.args.v c.args.block =
    record {
      slots = inr (
        c.in-Some.slot,
        record {
          lacks = lacks;
          was_free = free_slot_is c.self.inside.copies.area.records c.in-Some.slot c.in-Some.ensures.lowest;
          copy = copied.copy;
          copied = copied.area_on.device.tells;
        },
      );
      records = copied.area_on.records;
    } in
    rw (p.1, ← c.self.view_is) broken

pub returns-clause-area : goal.returns-clause-area
returns-clause-area g c =
    let lacks = rw (← c.self.view_is) at c.requires.lacks in
    let copies = c.self.inside.copies in
    let copied = c.in_ok-copy_block.ensures in
    let one : IsAreaPut g.D.Device.told (group_of c.self.inside.devices.items copies)
    (group_of (slice_set c.self.inside.devices.items c.args.v c.put_block.new.device) c.note.new.self) c.args.v c.args.block (Ok tt) =
    inr (record {
      slot = c.in-Some.slot;
      copy = record {
        lacks = lacks;
        was_free = free_slot_is copies.area.records c.in-Some.slot c.in-Some.ensures.lowest;
        copy = copied.copy;
        copied = ap (λ x. g.D.Device.told x.area.device) c.note.ensures ∙ copied.area_on.device.tells;
      };
      records = noted_copies copies c.copy_block.new.copies c.note.new.self c.args.v c.args.block c.in-Some.slot copied.area_on.records copied.area_on.images c.note.ensures;
    }) in
    rw (← c.self.view_is) one

pub returns-in_err-copy_block-clause-images : goal.returns-in_err-copy_block-clause-images
returns-in_err-copy_block-clause-images g c = rw (← c.self.view_is) c.in_err-copy_block.ensures.area_on.images

pub returns-in_err-put_block-clause-images : goal.returns-in_err-put_block-clause-images
returns-in_err-put_block-clause-images g c = rw (← c.self.view_is) c.in_ok-copy_block.ensures.area_on.images

pub returns-clause-images : goal.returns-clause-images
returns-clause-images g c =
    let is : c.note.new.self.images ≡ c.self.inside.copies.images = ap (λ x. x.images) c.note.ensures ∙ c.in_ok-copy_block.ensures.area_on.images in
    rw (← c.self.view_is) is
