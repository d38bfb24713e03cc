use Rattle.std.proofs.Common.{◌∙◌, sym, arith}
use Rattle.image_store.specs.Plain.{volume_in}
use Rattle.image_store.proofs.Plains.{block_now}
use Rattle.image_store.proofs.Opens.{one_left, one_put}
use Rattle.image_store.proofs.capturing.capture_one.Goals as goal

pub returns-then-are_same-clause-captured : goal.returns-then-are_same-clause-captured
returns-then-are_same-clause-captured g c = λ wanted before ps input_is spool_is has.
    one_left (g.S.Device.told c.args.spool.now) (g.I.Device.told c.args.input.now) c.args.b before wanted (volume_in ps c.args.v).blocks c.read_volume.new.self c.read_device.new.self spool_is
    (block_now g.D.Device.told c.args.group.now ps c.args.v c.args.b c.read_volume.new.self has c.requires.volume c.requires.in_range c.in-Ok-read_volume.ensures.now)
    input_is c.in-Ok.ensures.block (sym c.bytes.ensures.bytes ∙ c.are_same.ensures.same c.if-are_same.true ∙ c.bytes-2.ensures.bytes)

pub returns-in-Ok-write-clause-captured : goal.returns-in-Ok-write-clause-captured
returns-in-Ok-write-clause-captured g c = λ wanted before ps input_is spool_is has.
    let low = c.requires.in_range in
    let room = c.requires.room in
    one_put (g.S.Device.told c.args.spool.now) (g.S.Device.told c.write.new.self) (g.I.Device.told c.args.input.now) (g.S.Device.size c.args.spool.now) c.args.b before wanted
    (volume_in ps c.args.v).blocks c.read_device.new.self spool_is c.blocks-facts.ensures.whole (omega arith) (rw c.bytes-3.ensures.bytes at c.in-Ok-write.ensures.written) input_is
    c.in-Ok.ensures.block
