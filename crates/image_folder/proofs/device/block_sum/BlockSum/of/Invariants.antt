use Rattle.std.proofs.Common.{◌≡◌, ◌≤◌, ◌*◌}
use Rattle.image_folder.specs.KeptSums.{first_to, second_to}
use Rattle.image_folder.proofs.device.block_sum.BlockSum.of.Given as goal

abbrev pub invariant-loop-place : goal.invariant-loop-place
invariant-loop-place l = record {
  first : l.first ≡ first_to l.place l.block;
  second : l.second ≡ second_to l.place l.block;
  first_fits : l.first ≤ l.place * 4294967296;
  second_fits : l.second ≤ l.place * 17592186044416;
}
