use Rattle.std.proofs.Common.{◌≡◌, ◌≤◌, ℕ, Some, is_some}
use Rattle.cow_volume.specs.Calls.{IsUnfailed, counted_by, counted_as}
use Rattle.cow_volume.specs.Parts.{group_of, CopiesValue}
use Rattle.cow_volume.specs.Restoring.{AreRestored, IsMergedTo, KeepsCopies, merged_as}
use Rattle.cow_volume.proofs.reverts.restore_blocks.Given as goal

-- the blocks so far are restored where they have copies
abbrev pub invariant-loop-block : goal.invariant-loop-block
invariant-loop-block g l = record {
  done : (mid : CopiesValue g.row.D.Denot) → IsMergedTo g.D.Device.told l.fn.copies mid l.v l.set
      → AreRestored (counted_as g.D.Device (is_some l.stop)) (group_of l.fn.devices.items (merged_as mid l.fn.copies))
      (group_of l.devices.items (merged_as mid l.copies)) l.v l.set l.block l.restored;
  keeps : KeepsCopies (counted_as g.D.Device (is_some l.stop)) (group_of l.fn.devices.items l.fn.copies) (group_of l.devices.items l.copies);
  unfailed : IsUnfailed (counted_by g.D.Device.count (is_some l.stop)) (group_of l.fn.devices.items l.fn.copies) (group_of l.devices.items l.copies);
  few : l.restored ≤ l.block;
  fits : (k : ℕ) → l.stop ≡ Some k → l.restored ≤ k;
}
