use Rattle.std.specs.Prelude.{◌≡◌}
use Rattle.image_folder.proofs.device_file.read_first.Given as goal

abbrev pub invariant-loop-index : goal.invariant-loop-index
invariant-loop-index l = l.device.blocks ≡ l.fn.device.blocks
