use Rattle.std.proofs.Common.{◌≡◌, length, map}
use Rattle.generated.proofs.Terms.{concat, range_with_len, BLOCK, HasTaken, final_bytes}
use Rattle.generated.proofs.final_contents.final_digest.Given as goal

-- the blocks so far
abbrev pub invariant-loop-block : goal.invariant-loop-block
invariant-loop-block l = record {
  taken : HasTaken l.hasher (concat (map (final_bytes l.number l.volume) (range_with_len 0 l.block)));
  size : length l.buffer ≡ BLOCK;
}
