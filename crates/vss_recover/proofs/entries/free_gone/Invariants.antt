use Rattle.std.proofs.Common.{◌≡◌, take, map}
use Rattle.diff_area.specs.Format.{is_free}
use Rattle.cow_volume.specs.CopiesAfter.{with_records}
use Rattle.vss_recover.proofs.Passing.{passed}
use Rattle.vss_recover.proofs.UsedSlots.{among}
use Rattle.vss_recover.proofs.entries.free_gone.Given as goal

-- the entries so far are passed, and the pool is in step with the records
abbrev pub invariant-loop-entry : goal.invariant-loop-entry
invariant-loop-entry g l = record {
  area : l.area ≡ with_records (passed 0 (among l.images) (take l.entry-index l.entries) l.fn.area.records) l.fn.area;
  pool : l.pool ≡ map is_free l.area.records;
}
