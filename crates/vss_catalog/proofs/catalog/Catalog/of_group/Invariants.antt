use Rattle.std.proofs.Common.{◌≡◌, length, map}
use Rattle.std.specs.List.{range_with_len}
use Rattle.vss_catalog.specs.Entries.{entry_at}
use Rattle.vss_catalog.proofs.catalog.Catalog.of_group.Given as goal

-- the entries of the volumes so far
abbrev pub invariant-loop-v : goal.invariant-loop-v
invariant-loop-v g l = record {
  entries : l.entries.items ≡ map (entry_at l.group l.names) (range_with_len 0 l.v);
  many : length l.entries.items ≡ l.v;
}
