use Rattle.std.proofs.Common.{◌≡◌, ◌≤◌, ◌+◌, take, vec_capacity, option_map}
use Rattle.block_data.specs.declared.block_buf.TheConstants.{BLOCK}
use Rattle.diff_area.specs.AreaValue.{with_first, table_blocks}
use Rattle.diff_area.proofs.writing.write_table.Given as goal

abbrev pub invariant-loop-k : goal.invariant-loop-k
invariant-loop-k g l = record {
  told_is : g.D.Device.told l.device ≡ option_map (with_first (take (1 + l.k) (table_blocks l.volumes l.records))) (g.D.Device.told l.fn.device);
  size_is : g.D.Device.size l.device ≡ g.D.Device.size l.fn.device;
  lends : g.D.Device.lending l.device ≡ g.D.Device.lending l.fn.device;
  same : g.D.Device.count l.device ≡ g.D.Device.count l.fn.device;
  room : BLOCK ≤ vec_capacity l.page;
}
