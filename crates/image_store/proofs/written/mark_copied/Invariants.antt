use Rattle.std.specs.Prelude.{◌≡◌, length, take}
use Rattle.image_store.specs.Showing.{AreWritten}
use Rattle.image_store.proofs.written.mark_copied.Given as goal

abbrev pub invariant-loop-slot : goal.invariant-loop-slot
invariant-loop-slot g l = (length l.marks ≡ length l.fn.marks) × AreWritten (take l.slot l.area.records) l.v l.one l.other l.marks
