use Rattle.std.proofs.Common.{◌≡◌, ◌-◌, ◌++◌, map, vec_len}
use Rattle.generated.proofs.Terms.{range_with_len, BLOCK, volume_lines, final_digest, final_digests}
use Rattle.generated.proofs.summary_text.summary.Given as goal

-- what is written and what is still to come
abbrev pub invariant-loop-volume : goal.invariant-loop-volume
invariant-loop-volume l = record {
  written : l.out.bytes ++ volume_lines l.volume (map (final_digest l.number) (range_with_len l.volume (8 - l.volume))) ≡ l.initial.out.bytes ++ volume_lines 0 (final_digests l.number);
  size : vec_len l.buffer ≡ BLOCK;
}
