use Rattle.io_edge.proofs.Streams.{writing-more}
use Rattle.io_edge.proofs.writing.write_all.Goals as goal

pub pieces-preserved : goal.pieces-preserved
pieces-preserved g c = writing-more _ _ _ c.args.bytes.now c.pieces.at c.in_ok-at.field-0 _ _ _ c.pieces.invariant c.in_ok-at.ensures.took c.in_ok-at.ensures.within c.in_ok-at.ensures.cause.same
