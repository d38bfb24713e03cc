use Rattle.std.proofs.Common.{◌∙◌, ◌<◌, true, false, refl, length, arith}
use Rattle.std.proofs.lemmas.Result.{err_from_is_err_and}
use Rattle.block_data.specs.BlockBytes.{payload_bytes}
use Rattle.image_store.proofs.Calls.{room_plains, not_put_kept, put_volumes, device_after, pass_failed, room_unfailed}
use Rattle.image_store.proofs.Copied.{area_itself, area_put, area_room}
use Rattle.image_store.proofs.Passes.{written_none, written_past, written_more, written_stopped, written_part, written_all, gives_there}
use Rattle.image_store.proofs.Plains.{kept_then}
use Rattle.image_store.proofs.Opens.{flag_is}
use Rattle.image_store.proofs.updating.overwrite_blocks.Goals as goal
use Rattle.image_store.proofs.updating.overwrite_blocks.Goals.{then-differs-b+else-up_to-gt0+in-Ok+in_ok-put, else-differs-b}
use Rattle.cow_volume.proofs.Kept.{unfailed_itself, unfailed_further}

pub loop-b-init : goal.loop-b-init
loop-b-init g c = record {
  written = written_none g.D.Device.told g.I.Device c.args.group.now c.args.input.now c.args.v c.args.differs.now
      c.args.from;
  area = λ copied. area_itself g.D.Device.told c.args.group.now;
  room = refl;
  unfailed = record { group = unfailed_itself g.D.Device.count c.args.group.now; input = refl };
}

pub returns-then-up_to-gt0-clause-writing : goal.returns-then-up_to-gt0-clause-writing
returns-then-up_to-gt0-clause-writing g c = λ wanted ps is has ready.
    written_stopped g.D.Device.told g.I.Device c.args.group.now c.loop-b.group c.make_room-up_to.new.self c.args.input.now c.loop-b.input c.args.v c.args.differs.now c.args.from
    c.loop-b.b
    c.make_room-up_to.result wanted ps c.make_room-up_to.new.gone.items c.if-up_to-gt0.true c.loop-b.invariant.written c.make_room-up_to.ensures.room c.make_room-up_to.ensures.told is has ready

pub returns-clause-writing : goal.returns-clause-writing
returns-clause-writing g c = λ wanted ps is has ready.
    let test = c.loop-b-test.false in
    let end = c.blocks-b-end.ensures in
    written_all g.D.Device.told g.I.Device c.args.group.now c.loop-b.group c.args.input.now c.loop-b.input c.args.v c.args.differs.now c.args.from c.loop-b.b wanted ps
    c.requires.volume
    (omega arith) c.loop-b.invariant.written is has ready

pub returns-in_default-clause-writing : goal.returns-in_default-clause-writing
returns-in_default-clause-writing g c = λ wanted ps is has ready.
    written_part g.D.Device.told g.I.Device c.args.group.now c.loop-b.group c.make_room-up_to.new.self c.args.input.now c.loop-b.input c.args.v c.args.differs.now c.args.from
    c.loop-b.b wanted ps
    c.loop-b.invariant.written
    (room_plains g.D.Device.told c.loop-b.group c.make_room-up_to.new.self c.args.v c.loop-b.b c.make_room-up_to.result (let none = c.if-up_to-gt0.false in omega arith) c.make_room-up_to.ensures.room)
    is has ready

pub returns-in_err-put-clause-writing : goal.returns-in_err-put-clause-writing
returns-in_err-put-clause-writing g c =
    let p = err_from_is_err_and c.from_residual.result c.from_residual.ensures.1 in
    let made = room_plains g.D.Device.told c.loop-b.group c.make_room-up_to.new.self c.args.v c.loop-b.b c.make_room-up_to.result
    (let none = c.if-up_to-gt0.false in omega arith) c.make_room-up_to.ensures.room in
    rw p.1 (λ wanted ps is has ready. written_part g.D.Device.told g.I.Device c.args.group.now c.loop-b.group c.put.new.self c.args.input.now c.loop-b.input c.args.v
    c.args.differs.now c.args.from
    c.loop-b.b wanted ps c.loop-b.invariant.written
    (kept_then g.D.Device.told c.loop-b.group c.make_room-up_to.new.self c.put.new.self made
    (not_put_kept g.D.Device c.make_room-up_to.new.self c.put.new.self c.args.v _ c.in_err-put.ensures.put))
    is has ready)

pub returns-in_err-put-clause-failed : goal.returns-in_err-put-clause-failed
returns-in_err-put-clause-failed g c =
    let p = err_from_is_err_and c.from_residual.result c.from_residual.ensures.1 in
    rw (p.1, p.2) (pass_failed g.D.Device.count c.args.v c.args.group.now c.put.new.self (g.I.Device.count c.args.input.now) (g.I.Device.count c.read_device.new.device) c.in_err-put.field-0.0
    (c.in-Ok.ensures.cause.same ∙ c.loop-b.invariant.unfailed.input)
    (device_after g.D.Device.count c.args.v c.args.group.now c.make_room-up_to.new.self c.put.new.self c.in_err-put.field-0.0
    (unfailed_further g.D.Device.count c.args.group.now c.loop-b.group c.make_room-up_to.new.self c.loop-b.invariant.unfailed.group
    (room_unfailed g.D.Device c.loop-b.group c.make_room-up_to.new.self c.args.v c.loop-b.b c.make_room-up_to.result c.make_room-up_to.ensures.room))
    c.in_err-put.ensures.put.rose))

pub returns-then-up_to-gt0-clause-area : goal.returns-then-up_to-gt0-clause-area
returns-then-up_to-gt0-clause-area g c = λ copied.
    let test = c.loop-b-test.true in
    let end = c.blocks-b-end.ensures in
    let marks = c.requires.marks in
    let some = c.if-up_to-gt0.true in
    let there = area_room g.D.Device.told c.args.group.now c.loop-b.group c.make_room-up_to.new.self c.args.v c.args.differs.now c.args.from _ c.loop-b.b c.make_room-up_to.result copied
    (c.loop-b.invariant.area copied) (omega arith) (omega arith) (flag_is c.args.differs.now c.loop-b.b _ true (omega arith) c.if-differs-b.true) c.make_room-up_to.ensures.room in
    let none = there.0 in
    absurd (omega arith)

pub returns-in_default-clause-area : goal.returns-in_default-clause-area
returns-in_default-clause-area g c = λ copied.
    let test = c.loop-b-test.true in
    let end = c.blocks-b-end.ensures in
    let marks = c.requires.marks in
    (area_room g.D.Device.told c.args.group.now c.loop-b.group c.make_room-up_to.new.self c.args.v c.args.differs.now c.args.from _ c.loop-b.b c.make_room-up_to.result copied
    (c.loop-b.invariant.area copied) (omega arith) (omega arith) (flag_is c.args.differs.now c.loop-b.b _ true (omega arith) c.if-differs-b.true) c.make_room-up_to.ensures.room).1

pub returns-in_err-put-clause-area : goal.returns-in_err-put-clause-area
returns-in_err-put-clause-area g c =
    let p = err_from_is_err_and c.from_residual.result c.from_residual.ensures.1 in
    let test = c.loop-b-test.true in
    let end = c.blocks-b-end.ensures in
    let marks = c.requires.marks in
    rw p.1 (λ copied. area_put g.D.Device.told c.args.group.now c.loop-b.group c.make_room-up_to.new.self c.put.new.self c.args.v c.args.differs.now c.args.from _ c.loop-b.b c.make_room-up_to.result
    c.put.result copied
    (c.loop-b.invariant.area copied) (omega arith) (omega arith) (flag_is c.args.differs.now c.loop-b.b _ true (omega arith) c.if-differs-b.true) c.make_room-up_to.ensures.room
    c.put.ensures.area c.put.ensures.images (put_volumes g.D.Device c.make_room-up_to.new.self c.put.new.self c.args.v _ c.put.result c.put.ensures.put))

pub returns-clause-area : goal.returns-clause-area
returns-clause-area g c = λ copied. c.loop-b.invariant.area copied

pub loop-b-preserved : goal.loop-b-preserved
loop-b-preserved g c =
    let inv = c.loop-b.invariant in
    let test = c.loop-b-test.true in
    let end = c.blocks-b-end.ensures in
    let marks = c.requires.marks in
    let within : c.loop-b.b < length c.args.differs.now = omega arith in
    elim c.if-differs-b.branch [
      | then-differs-b+else-up_to-gt0+in-Ok+in_ok-put w ↦ rw (w.group-is, w.input-is, w.gone-is) (record {
        written = written_more g.D.Device g.I.Device c.args.group.now c.loop-b.group w.make_room-up_to.new.self
            w.put.new.self c.args.input.now c.loop-b.input w.read_device.new.device c.args.v
            c.args.differs.now c.args.from c.loop-b.b (payload_bytes w.payload.result.now) c.requires.volume (omega arith) inv.written
            (room_plains g.D.Device.told c.loop-b.group w.make_room-up_to.new.self c.args.v c.loop-b.b w.make_room-up_to.result
            (let none = w.if-up_to-gt0.false in omega arith) w.make_room-up_to.ensures.room)
            w.read_device.ensures.told w.read_device.ensures.size
            (λ wanted. gives_there (g.I.Device.told c.loop-b.input) c.args.differs.now wanted c.loop-b.b w.read_device.new.self (payload_bytes w.payload.result.now) w.in-Ok.ensures.block
            (flag_is c.args.differs.now c.loop-b.b _ true within w.if-differs-b.true) w.payload.ensures)
            w.in_ok-put.ensures.put;
        area = λ copied. area_put g.D.Device.told c.args.group.now c.loop-b.group w.make_room-up_to.new.self w.put.new.self c.args.v c.args.differs.now
            c.args.from _ c.loop-b.b w.make_room-up_to.result
            w.put.result copied
            (inv.area copied) (omega arith) (omega arith) (flag_is c.args.differs.now c.loop-b.b _ true within w.if-differs-b.true) w.make_room-up_to.ensures.room
            w.put.ensures.area w.put.ensures.images (put_volumes g.D.Device w.make_room-up_to.new.self w.put.new.self c.args.v _ w.put.result w.put.ensures.put);
        room = w.make_room-up_to.ensures.space ∙ inv.room;
        unfailed = record {
          group = unfailed_further g.D.Device.count c.args.group.now w.make_room-up_to.new.self w.put.new.self
              (unfailed_further g.D.Device.count c.args.group.now c.loop-b.group w.make_room-up_to.new.self
              inv.unfailed.group (room_unfailed g.D.Device c.loop-b.group w.make_room-up_to.new.self c.args.v c.loop-b.b w.make_room-up_to.result w.make_room-up_to.ensures.room))
              w.in_ok-put.ensures.put.unfailed;
          input = w.in-Ok.ensures.cause.same ∙ inv.unfailed.input;
        };
      })
      | else-differs-b w ↦ rw (w.group-is, w.input-is, w.gone-is) (record {
        written = written_past g.D.Device.told g.I.Device c.args.group.now c.loop-b.group c.args.input.now c.loop-b.input c.args.v c.args.differs.now c.args.from c.loop-b.b
            (flag_is c.args.differs.now c.loop-b.b _ false within w.if-differs-b.false) inv.written;
        area = inv.area;
        room = inv.room;
        unfailed = inv.unfailed;
      })
    ]
