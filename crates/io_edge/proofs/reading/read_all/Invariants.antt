use Rattle.std.proofs.Common.{length, ◌-◌}
use Rattle.io_edge.proofs.Streams.{IsReading}
use Rattle.io_edge.proofs.reading.read_all.Given as goal

abbrev pub invariant-pieces : goal.invariant-pieces
invariant-pieces g l = IsReading (g.S.Source.left l.fn.source) (g.S.Source.left l.source) l.bytes.items l.limit (g.S.Source.count l.fn.source) (g.S.Source.count l.source)

abbrev pub decreases-pieces : goal.decreases-pieces
decreases-pieces g l = l.limit - length l.bytes.items
