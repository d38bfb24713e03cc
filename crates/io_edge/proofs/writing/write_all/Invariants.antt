use Rattle.std.proofs.Common.{length, ◌-◌}
use Rattle.io_edge.proofs.Streams.{IsWriting}
use Rattle.io_edge.proofs.writing.write_all.Given as goal

abbrev pub invariant-pieces : goal.invariant-pieces
invariant-pieces g l = IsWriting (g.K.Sink.taken l.fn.sink) (g.K.Sink.taken l.sink) l.bytes l.at (g.K.Sink.count l.fn.sink) (g.K.Sink.count l.sink)

abbrev pub decreases-pieces : goal.decreases-pieces
decreases-pieces g l = length l.bytes - l.at
