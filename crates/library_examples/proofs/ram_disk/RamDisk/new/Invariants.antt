use Rattle.std.proofs.Common.{◌≡◌, replicate}
use Rattle.block_data.specs.BlockBytes.{zeros}
use Rattle.library_examples.proofs.ram_disk.RamDisk.new.Given as goal

abbrev pub invariant-loop-index : goal.invariant-loop-index
invariant-loop-index l = l.blocks.items ≡ replicate l._index zeros
