use Rattle.std.proofs.Common.{◌≡◌, drop, false}
use Rattle.writer_meta.specs.Values.{has_double_from}
use Rattle.writer_meta.proofs.values.has_double_backslash.Given as goal

abbrev pub invariant-loop-byte : goal.invariant-loop-byte
invariant-loop-byte l = has_double_from false l.path ≡ has_double_from l.after (drop l.byte-index l.path)
