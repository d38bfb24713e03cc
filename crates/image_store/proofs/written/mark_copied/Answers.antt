use Rattle.std.proofs.Common.{◌∙◌}
use Rattle.image_store.proofs.Unwritten.{written_more}
use Rattle.image_store.proofs.written.mark_copied.Goals as goal

pub loop-slot-preserved : goal.loop-slot-preserved
loop-slot-preserved g c = (
  c.mark_row.ensures.len ∙ c.loop-slot.invariant.0,
  written_more c.args.area.now.records c.args.v c.args.one c.args.other c.loop-slot.slot c.record_at.result c.loop-slot.marks c.mark_row.new.marks c.record_at.ensures c.mark_row.ensures.len
      c.loop-slot.invariant.1 c.mark_row.ensures.more,
)
