use Rattle.std.proofs.Common.{◌≡◌, ◌∙◌, sym, true, false, refl, slice_set}
use Rattle.block_data.specs.BlockBytes.{payload_bytes}
use Rattle.cow_volume.specs.Calls.{sets_at}
use Rattle.cow_volume.specs.Room.{lacks_copy, is_full}
use Rattle.cow_volume.specs.Parts.{group_of}
use Rattle.cow_volume.proofs.GroupWrites.{not_copied_area, put_again, and_rest, put_size}
use Rattle.cow_volume.proofs.DeviceCalls.{device_at, device_within, fits_set}
use Rattle.cow_volume.proofs.cow_group.CowGroup.put.Goals as goal

pub write_first-requires-clause-lacks : goal.write_first-requires-clause-lacks
write_first-requires-clause-lacks g c =
    let is : lacks_copy c.self.inside.copies.area.records c.args.v (sets_at (group_of c.self.inside.devices.items c.self.inside.copies) c.args.v) c.args.block ≡ true = sym c.lacks_copy.ensures
    ∙ c.if-lacks_copy.true in
    rw (← c.self.view_is) is

pub write_first-requires-clause-room : goal.write_first-requires-clause-room
write_first-requires-clause-room g c =
    let is : lacks_copy c.self.inside.copies.area.records c.args.v (sets_at (group_of c.self.inside.devices.items c.self.inside.copies) c.args.v) c.args.block ≡ true = sym c.lacks_copy.ensures
    ∙ c.if-lacks_copy.true in
    let room = rw (← c.self.view_is) at c.requires.room in
    let rest = and_rest (lacks_copy c.self.inside.copies.area.records c.args.v (sets_at (group_of c.self.inside.devices.items c.self.inside.copies) c.args.v) c.args.block)
    (is_full c.self.inside.copies.area.records) is room in
    rw (← c.self.view_is) rest

pub returns-then-lacks_copy-clause-put : goal.returns-then-lacks_copy-clause-put
returns-then-lacks_copy-clause-put g c = c.write_first.ensures.put

pub returns-then-lacks_copy-clause-area : goal.returns-then-lacks_copy-clause-area
returns-then-lacks_copy-clause-area g c = c.write_first.ensures.area

pub put_block-requires : goal.put_block-requires
put_block-requires g c =
    let within = rw (← c.self.view_is) at c.requires.volume in
    let low = rw (← c.self.view_is) at c.requires.in_range in
    let devices = c.self.inside.devices.items in
    let copies = c.self.inside.copies in
    let d = c.index_mut-device.result.now in
    let at = device_at g.D.Device.size devices copies.area.volumes c.args.v d c.self.invariant within c.index_mut-device.ensures.value in
    device_within g.D.Device.size devices copies.area.volumes c.args.v c.args.block d c.self.invariant at low

pub invariant_of-self : goal.invariant_of-self
invariant_of-self g c =
    let within = rw (← c.self.view_is) at c.requires.volume in
    let low = rw (← c.self.view_is) at c.requires.in_range in
    let devices = c.self.inside.devices.items in
    let copies = c.self.inside.copies in
    let d = c.index_mut-device.result.now in
    let at = device_at g.D.Device.size devices copies.area.volumes c.args.v d c.self.invariant within c.index_mut-device.ensures.value in
    fits_set g.D.Device.size devices copies.area.volumes c.args.v d c.put_block.new.device c.self.invariant at
    (put_size g.D.Device d c.put_block.new.device c.args.block (payload_bytes c.args.payload.now) c.put_block.result c.put_block.ensures)

pub returns-clause-put : goal.returns-clause-put
returns-clause-put g c =
    let within = rw (← c.self.view_is) at c.requires.volume in
    let low = rw (← c.self.view_is) at c.requires.in_range in
    let devices = c.self.inside.devices.items in
    let copies = c.self.inside.copies in
    let d = c.index_mut-device.result.now in
    let at = device_at g.D.Device.size devices copies.area.volumes c.args.v d c.self.invariant within c.index_mut-device.ensures.value in
    let has : lacks_copy copies.area.records c.args.v (sets_at (group_of devices copies) c.args.v) c.args.block ≡ false = sym c.lacks_copy.ensures ∙ c.if-lacks_copy.false in
    let is = put_again g.D.Device devices copies c.args.v d
    (record { block = c.args.block; bytes = payload_bytes c.args.payload.now }) low at c.put_block.new.device c.put_block.result has c.put_block.ensures in
    rw (← c.self.view_is) is

pub returns-clause-area : goal.returns-clause-area
returns-clause-area g c =
    let devices = c.self.inside.devices.items in
    let copies = c.self.inside.copies in
    let has : lacks_copy copies.area.records c.args.v (sets_at (group_of devices copies) c.args.v) c.args.block ≡ false = sym c.lacks_copy.ensures ∙ c.if-lacks_copy.false in
    let put = not_copied_area g.D.Device.told (group_of devices copies)
    (group_of (slice_set devices c.args.v c.put_block.new.device) copies) c.args.v c.args.block c.put_block.result has refl refl in
    rw (← c.self.view_is) put
