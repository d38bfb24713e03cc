use Rattle.std.proofs.Common.{◌++◌, take}
use Rattle.io_edge.proofs.Streams.{gave-more}
use Rattle.io_edge.proofs.reading.read_all.Goals as goal

pub returns-then-limit-len-clause-gave : goal.returns-then-limit-len-clause-gave
returns-then-limit-len-clause-gave g c = (c.pieces.bytes.items ++ take c.in_ok-n.n c.read.new.out, gave-more _ _ _ _ _ c.pieces.invariant.so_far c.in_ok-n.ensures.given)

pub returns-in_err-append-clause-gave : goal.returns-in_err-append-clause-gave
returns-in_err-append-clause-gave g c = (c.pieces.bytes.items ++ take c.in_ok-n.n c.read.new.out, gave-more _ _ _ _ _ c.pieces.invariant.so_far c.in_ok-n.ensures.given)
