use Rattle.std.proofs.Common.{◌≡◌, ◌*◌, ◌<◌, ◌≤◌, ◌-◌, take}
use Rattle.block_data.specs.BlockBytes.{repeated}
use Rattle.block_data.proofs.payload.repeat.Given as goal

abbrev pub invariant-loop-done : goal.invariant-loop-done
invariant-loop-done l = record {
  some : 0 < l.done;
  within : l.done ≤ l.words;
  written : take (8 * l.done) l.out ≡ repeated l.done l.fn.word;
}

abbrev pub decreases-loop-done : goal.decreases-loop-done
decreases-loop-done l = l.words - l.done
