use Rattle.std.proofs.Common.{◌+◌, length, refl, ap, ◌∙◌, arith}
use Rattle.std.proofs.lemmas.List.{length-append}
use Rattle.diff_area.proofs.OnDevice.{read-more, read-on}
use Rattle.diff_area.proofs.reading.read_blocks.Goals as goal

pub loop-k-preserved : goal.loop-k-preserved
loop-k-preserved g c =
    let d = g.D.Device in
    let l = c.loop-k in
    let page = c.read_page.new.page in
    let grown = ap length c.in-Ok-extend_from_slice.ensures.items ∙ length-append l.bytes.items c.deref.result.now in
    let whole = c.deref.ensures.len in
    let same = c.read_page.ensures.len in
    let so_far = l.invariant.len in
    record {
      read = read-more (d.told c.args.device.now) (d.told l.device) c.args.first l.k (c.args.first + l.k) (l.k + 1) l.bytes.items c.extend_from_slice.new.self.items c.deref.result.now page.items l.invariant.read l.invariant.alone.told_is c.in-Ok-read_page.ensures.block c.in-Ok-extend_from_slice.ensures.items c.deref.ensures.value refl (omega arith);
      len = omega arith;
      same = c.in-Ok-read_page.ensures.cause.same ∙ l.invariant.same;
      alone = read-on d c.args.device.now l.device c.read_page.new.device l.invariant.alone c.read_page.ensures.alone;
      page = c.read_page.ensures.len;
    }
